use Rattle.std.specs.Prelude.{◌≡◌, ◌+◌, ◌-◌, ℕ, pos, FitsSigned}
use Rattle.std.specs.Int.{w128}
use Rattle.std.proofs.Common.{arith, sym, ◌∙◌, ap, subst, of_z}
use Rattle.std.proofs.lemmas.Int.{ints}
use Rattle.unimodular_cone.specs.Shown.{shown_gram}
use Rattle.search_core.specs.Attaining.{IsKeyOf}
use Rattle.search_core.proofs.Keys.{one_added, none_more}
use Rattle.search_core.proofs.WaysDown.{same_when_read}
use Rattle.search_core.proofs.attaining.add_attaining.Goals as goal
use Rattle.search_core.proofs.attaining.add_attaining.Goals.{then-gram-from+in_ok-insert, else-gram-from}

pub loop-k-preserved : goal.loop-k-preserved
loop-k-preserved g c =
    let here : c.loop-k.k + 1 - 1 ≡ c.loop-k.k = omega arith in
    let read : c.gram.result ≡ shown_gram (g.C.ConeRead.cone c.args.c.now) c.loop-k.k c.loop-k.k = rw here at c.gram.ensures in
    elim c.if-gram-from.branch [
      | then-gram-from+in_ok-insert w ↦ rw w.found-is (
          let first : FitsSigned w128 c.gram.result = omega (arith, ints) in
          let second : FitsSigned w128 c.from.result = omega (arith, ints) in
          let value : shown_gram (g.C.ConeRead.cone c.args.c.now) c.loop-k.k c.loop-k.k ≡ pos c.args.minimum = sym read
          ∙ same_when_read c.gram.result c.from.result first second w.if-gram-from.true ∙ c.from.ensures in
          one_added (g.C.ConeRead.cone c.args.c.now) c.loop-k.k (pos c.args.minimum) _ _ _ w.key_of.result c.loop-k.invariant (omega arith) value
          (subst (λ (i : ℕ). IsKeyOf (g.C.ConeRead.cone c.args.c.now) i w.key_of.result) here w.key_of.ensures.key) w.in_ok-insert.ensures)
      | else-gram-from w ↦ rw w.found-is (none_more (g.C.ConeRead.cone c.args.c.now) c.loop-k.k (pos c.args.minimum) _ _ c.loop-k.invariant
          (λ e. w.if-gram-from.false (ap (of_z w128) (read ∙ e ∙ sym c.from.ensures))))
    ]
