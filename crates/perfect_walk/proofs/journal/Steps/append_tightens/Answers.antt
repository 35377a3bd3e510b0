use Rattle.std.proofs.Common.{◌≡◌, arith, ap, ap₂, ◌∙◌, ◌++◌, ◌∷◌, [], List, ℕ, ℤ, rules, to_z, of_z}
use Rattle.std.proofs.lemmas.Int.{to_z-of_z}
use mir.Syntax.{w128}
use Rattle.contiguous.specs.declared.neighbour.Tighten.{Tighten as a_tighten}
use Rattle.perfect_walk.specs.declared.journal.Step.{Step}
use Rattle.perfect_walk.specs.declared.journal.Step.TheVariants.{Tighten}
use Rattle.perfect_walk.proofs.Lists.{one_more}
use Rattle.perfect_walk.proofs.journal.Steps.append_tightens.Goals as goal

same : (xs : List Step) (v w : List ℕ) (p q p' q' : ℤ) → v ≡ w → p ≡ p' → q ≡ q'
    → xs ++ Tighten (let t : a_tighten = record { vector = v; p = p; q = q } in t) ∷ [] ≡ xs ++ Tighten
    (let t : a_tighten = record { vector = w; p = p'; q = q' } in t) ∷ []
same xs v w p q p' q' e f g = ap₂ (λ (v : List ℕ) (p : ℤ). xs ++ Tighten (let t : a_tighten = record { vector = v; p = p; q = q } in t) ∷ []) e f
    ∙ ap (λ (q : ℤ). xs ++ Tighten (let t : a_tighten = record { vector = w; p = p'; q = q } in t) ∷ []) g

pub loop-k-preserved : goal.loop-k-preserved
loop-k-preserved c =
    let p : to_z w128 (of_z w128 c.at-t.result.now.p) ≡ c.at-t.result.now.p = search (rules, to_z-of_z) in
    let q : to_z w128 (of_z w128 c.at-t.result.now.q) ≡ c.at-t.result.now.q = search (rules, to_z-of_z) in
    record {
      items = one_more Tighten c.args.more.now c.loop-k.k c.at-t.result.now _ _ _ (omega arith) c.at-t.ensures c.loop-k.invariant.items
          (c.push_reserved.ensures.items
          ∙ same c.loop-k.self-inside.items.items c.copy.result c.at-t.result.now.vector _ _ c.at-t.result.now.p c.at-t.result.now.q c.copy.ensures p q);
      room = omega arith;
    }
