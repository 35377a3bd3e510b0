use Rattle.std.proofs.Common.{◌≤◌, ◌+◌, ℕ, ◌∙◌, ap, sym, subst, length-set, arith}
use Rattle.matrix_sample.specs.Samples.{number_after, number_at, coordinate_from}
use Rattle.matrix_sample.proofs.Draws.{number_at_none, number_at_more, filled_more, coordinate_from_small}
use Rattle.matrix_sample.proofs.drawing.next_vector.Goals as goal

pub loop-place-init : goal.loop-place-init
loop-place-init c = record { long = omega arith; number = sym (number_at_none c.args.number.now); coordinates = λ p l. absurd (omega arith) }

pub loop-place-preserved : goal.loop-place-preserved
loop-place-preserved c =
    let now = c.loop-place in
    let stepped = ap number_after now.invariant.number ∙ sym (number_at_more c.args.number.now now.place) in
    record {
      long = length-set now.vector now.place c.next_coordinate.result ∙ now.invariant.long;
      number = c.next_coordinate.ensures.number ∙ stepped;
      coordinates = filled_more now.vector now.place c.next_coordinate.result (λ (p : ℕ). coordinate_from (number_at c.args.number.now (p + 1)))
          (omega (arith, now.invariant.long)) (c.next_coordinate.ensures.value ∙ ap coordinate_from stepped) now.invariant.coordinates;
    }

pub returns-clause-small : goal.returns-clause-small
returns-clause-small c = λ p l.
    subst (λ (x : ℕ). x ≤ 2) (sym (c.loop-place.invariant.coordinates p (omega arith))) (coordinate_from_small (number_at c.args.number.now (p + 1)))
