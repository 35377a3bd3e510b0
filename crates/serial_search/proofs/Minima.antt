-- What the answers without the list say, and that they are the answers of `least`.
use Rattle.std.specs.Prelude.{◌≡◌, ℕ, ℤ, ◌≤ℤ◌, List}
use Rattle.std.proofs.Common.{arith, sym, ap, refl, inl, inr, subst}
use Rattle.std.proofs.lemmas.Int.{ints}
use Rattle.exact_forms.specs.Forms.{IsSymmetric}
use Rattle.unimodular_cone.specs.declared.Mode.{Mode}
use Rattle.unimodular_cone.specs.Paths.{Path}
use Rattle.unimodular_cone.specs.Cones.{Matrix}
use Rattle.unimodular_cone.specs.Tree.{IsOpen}
use Rattle.unimodular_cone.specs.Answer.{SearchAnswer, IsSearchAnswer, IsClosedAnswer, IsOpenAnswer, BoundFits}
use Rattle.unimodular_cone.proofs.Minimum.{bound_positive, bound_least, bound_attained, low_is}
use Rattle.unimodular_cone.proofs.AnswerUnique.{answer_unique, final_bound_unique}
use Rattle.search_core.specs.declared.Least.{Least}
use Rattle.serial_search.specs.declared.values.ValueOnly.{ValueOnly}
use Rattle.serial_search.specs.Values.{IsLeastValueAnswer, ValueHolds, ValueIsOfLeast}

-- ---- what they say
pub value_holds : (n : ℕ) (q : Matrix) (d : ℕ) (answer : ValueOnly) → IsSymmetric n q → IsLeastValueAnswer n q d answer → ValueHolds n q answer
value_holds n q d (ValueOnly.Found m) s a =
    record { positive = bound_positive n q d m s a; least = bound_least n q d m s a; attained = bound_attained n q d m s a }
value_holds n q d (ValueOnly.Low x z path) s a = low_is Mode.Least n q d x z path a
value_holds n q d (ValueOnly.Depth path) s a = tt
value_holds n q d (ValueOnly.Wide at) s a = tt
value_holds n q d (ValueOnly.BoundWide z) s a = tt

-- ---- they are those of `least`
not_open : (n : ℕ) (q : Matrix) (d : ℕ) (b : ℤ) (p : Path) → IsClosedAnswer Mode.Least n q d b → IsOpenAnswer Mode.Least n q d p → ⊥
not_open n q d b p c o = c.none_open p (subst (λ (z : ℤ). IsOpen n q d z p) same o.first_open.open_path)
  where
    same : o.bound ≡ b
    same = final_bound_unique Mode.Least n q d o.bound b o.is_bound c.is_bound

no_sign : Mode.Least ≡ Mode.Sign → ⊥
no_sign e = (cc)

-- a closed answer is no other
only_found : (n : ℕ) (q : Matrix) (d : ℕ) (b : ℤ) (answer : SearchAnswer) → IsClosedAnswer Mode.Least n q d b → IsSearchAnswer Mode.Least n q d answer
    → (vectors : List (List ℕ)) × (answer ≡ SearchAnswer.Found b vectors)
only_found n q d b (SearchAnswer.BoundWide z) c (e, l, lt) = absurd (by c.clear.bound_fits)
  where
    by : BoundFits Mode.Least n q → ⊥
    by (k, lk, le) = let g : z ≤ℤ q k k = l.least k lk in omega (arith, ints)
only_found n q d b (SearchAnswer.Wide at entry) c (inl (narrow, e, over)) = absurd (c.clear.root_fits entry over.over)
only_found n q d b (SearchAnswer.Wide at entry) c (inr (p, o, lt, w)) = absurd (not_open n q d b p c o)
only_found n q d b (SearchAnswer.Low x z p) c a = absurd (c.clear.none_low p a.first_low.in_tree a.first_low.low)
only_found n q d b (SearchAnswer.Depth p) c (o, l) = absurd (not_open n q d b p c o)
only_found n q d b SearchAnswer.Copositive c (e, a) = absurd (no_sign e)
only_found n q d b (SearchAnswer.Found m vectors) c (e, a, l) =
    (vectors, ap (λ (z : ℤ). SearchAnswer.Found z vectors) (final_bound_unique Mode.Least n q d m b a.is_bound c.is_bound))

-- a search's answer, its list left out
abbrev IsShownAs : SearchAnswer → ValueOnly → Type 0
IsShownAs (SearchAnswer.BoundWide z) answer = answer ≡ ValueOnly.BoundWide z
IsShownAs (SearchAnswer.Wide path entry) answer = answer ≡ ValueOnly.Wide (record { path = path; entry = entry })
IsShownAs (SearchAnswer.Low x z path) answer = answer ≡ ValueOnly.Low x z path
IsShownAs (SearchAnswer.Depth path) answer = answer ≡ ValueOnly.Depth path
IsShownAs SearchAnswer.Copositive answer = ⊥
IsShownAs (SearchAnswer.Found m vectors) answer = answer ≡ ValueOnly.Found m

shown_as : (n : ℕ) (q : Matrix) (d : ℕ) (answer : ValueOnly) (a : SearchAnswer) → IsSearchAnswer Mode.Least n q d a
    → IsLeastValueAnswer n q d answer → IsShownAs a answer
shown_as n q d (ValueOnly.Found m) a h v = let r = only_found n q d m a v h in subst (λ (w : SearchAnswer). IsShownAs w (ValueOnly.Found m)) (sym r.1) refl
shown_as n q d (ValueOnly.Low x z path) a h v =
    subst (λ (w : SearchAnswer). IsShownAs w (ValueOnly.Low x z path)) (answer_unique Mode.Least n q d (SearchAnswer.Low x z path) a v h) refl
shown_as n q d (ValueOnly.Depth path) a h v =
    subst (λ (w : SearchAnswer). IsShownAs w (ValueOnly.Depth path)) (answer_unique Mode.Least n q d (SearchAnswer.Depth path) a v h) refl
shown_as n q d (ValueOnly.Wide at) a h v =
    subst (λ (w : SearchAnswer). IsShownAs w (ValueOnly.Wide at)) (answer_unique Mode.Least n q d (SearchAnswer.Wide at.path at.entry) a v h) refl
shown_as n q d (ValueOnly.BoundWide z) a h v =
    subst (λ (w : SearchAnswer). IsShownAs w (ValueOnly.BoundWide z)) (answer_unique Mode.Least n q d (SearchAnswer.BoundWide z) a v h) refl

pub value_of_least : ValueIsOfLeast
value_of_least n q d (Least.Found m vectors) answer h v = shown_as n q d answer (SearchAnswer.Found m vectors) h v
value_of_least n q d (Least.Low x z path) answer h v = shown_as n q d answer (SearchAnswer.Low x z path) h v
value_of_least n q d (Least.Depth path) answer h v = shown_as n q d answer (SearchAnswer.Depth path) h v
value_of_least n q d (Least.Wide at) answer h v = shown_as n q d answer (SearchAnswer.Wide at.path at.entry) h v
value_of_least n q d (Least.BoundWide z) answer h v = shown_as n q d answer (SearchAnswer.BoundWide z) h v
value_of_least n q d Least.OutOfMemory answer h v = tt
