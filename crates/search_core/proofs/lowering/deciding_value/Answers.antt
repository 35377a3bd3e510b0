use Rattle.std.specs.Prelude.{◌≡◌, ◌<◌, ◌-◌, ◌⊎◌, ℕ, suc, ℤ, FitsSigned}
use Rattle.std.specs.Int.{w128}
use Rattle.std.proofs.Common.{arith, sym, ◌∙◌, ap, subst, inl, inr}
use Rattle.std.proofs.lemmas.Int.{ints, to_z-of_z}
use Rattle.unimodular_cone.specs.declared.Mode.{Mode}
use Rattle.unimodular_cone.specs.Shown.{ShownCone, shown_gram}
use Rattle.search_core.specs.Noting.{NewGenerators, NamesNew, IsNew, One, NoOne}
use Rattle.search_core.specs.Lowering.{IsNotUnder, HasOthersOver, IsOver, ServesAsLeast}
use Rattle.search_core.proofs.Deciding.{over_is, serves, serves_least}
use Rattle.search_core.proofs.lowering.deciding_value.Goals as goal

pub returns-in-NoOne : goal.returns-in-NoOne
returns-in-NoOne g c =
    let cone : ShownCone = g.C.ConeRead.cone c.args.c.now in
    let others = subst (λ (f : NewGenerators). HasOthersOver c.args.mode cone f c.args.word) c.in-NoOne.is c.requires.others c.if-word-gt256.true in
    subst (λ (m : Mode). IsOver m cone c.args.word) (sym others.0)
    (over_is cone c.args.word c.n-n.ensures.fits.some (omega (arith, c.ranges.word.fits)) c.if-word-gt256.true (λ k l. by cone c.args.word k (others.1 k l)))
  where
    by : (cone : ShownCone) (word k : ℕ) → (IsNotUnder word (shown_gram cone k k)
        ⊎ ((l : ℕ) × (l < cone.size) × IsNew NoOne l × (shown_gram cone k k ≡ shown_gram cone l l))) → IsNotUnder word (shown_gram cone k k)
    by cone word k (inl u) = u
    by cone word k (inr n) = absurd n.2

pub returns-in-One : goal.returns-in-One
returns-in-One g c =
    let cone : ShownCone = g.C.ConeRead.cone c.args.c.now in
    let which : ℕ = c.in-One.which in
    let others = subst (λ (f : NewGenerators). HasOthersOver c.args.mode cone f c.args.word) c.in-One.is c.requires.others c.if-word-gt256-2.true in
    let named = subst (λ (f : NewGenerators). NamesNew cone.size f) c.in-One.is c.requires.named in
    let fits : FitsSigned w128 c.gram.result = omega (arith, ints) in
    let is : shown_gram cone (which - 1) (which - 1) ≡ c.gram.result = sym c.gram.ensures in
    rw (to_z-of_z w128 c.gram.result fits) (
    subst (λ (m : Mode). ServesAsLeast m cone c.args.word c.gram.result) (sym others.0)
    (serves cone c.args.word c.n-n.ensures.fits.some (omega (arith, c.ranges.word.fits)) c.if-word-gt256-2.true c.gram.result (which - 1)
    (omega (arith, named.0, named.1)) is (λ k l. by cone c.args.word which c.gram.result k is (others.1 k l)))
    )
  where
    by : (cone : ShownCone) (word which : ℕ) (z : ℤ) (k : ℕ) → shown_gram cone (which - 1) (which - 1) ≡ z
        → (IsNotUnder word (shown_gram cone k k)
        ⊎ ((l : ℕ) × (l < cone.size) × IsNew (One which) l × (shown_gram cone k k ≡ shown_gram cone l l)))
        → IsNotUnder word (shown_gram cone k k) ⊎ (shown_gram cone k k ≡ z)
    by cone word which z k is (inl u) = inl u
    by cone word which z k is (inr n) =
        let at : n.0 ≡ which - 1 = (let e : which ≡ suc n.0 = n.2 in omega arith) in
        inr (n.3 ∙ ap (λ (i : ℕ). shown_gram cone i i) at ∙ is)

pub returns-in_default : goal.returns-in_default
returns-in_default g c =
    let fits : FitsSigned w128 c.least_value.result = omega (arith, ints) in
    rw (to_z-of_z w128 c.least_value.result fits)
    (serves_least c.args.mode (g.C.ConeRead.cone c.args.c.now) c.args.word c.least_value.result c.n-n.ensures.fits.some c.least_value.ensures)
