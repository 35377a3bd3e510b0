use Rattle.std.proofs.Common.{◌≡◌, ◌∙◌, ◌+◌, arith, to_z-of_z, to_z, of_z, pos, drop, length, refl, slice_index_or}
use mir.Syntax.{w128}
use Rattle.exact_forms.proofs.Triangles.{triangle-zero}
use Rattle.symmetric_matrix.proofs.FormSteps.{in_row, next_in_row, next_row_begins, form_products, form_refused, form_continues, form_ends, form_answer_is}
use Rattle.symmetric_matrix.proofs.Recipes.{sum_answer, sum_fits}
use Rattle.symmetric_matrix.proofs.forms.form_of.Goals as goal
use Rattle.symmetric_matrix.proofs.forms.form_of.Goals.{then-column-row, else-column-row}

pub returns-in_err-sum-clause-value : goal.returns-in_err-sum-clause-value
returns-in_err-sum-clause-value c =
    let at = c.loop-entry in
    let answered = form_answer_is c.args.x.now c.args.lower.now in
    grind (
      arith,
      to_z-of_z,
      form_refused c.args.x.now c.args.lower.now at.entry-index at.row at.column at.sum (slice_index_or c.args.lower.now at.entry-index (pos 0))
          c.weight_at.result,
    )

pub loop-entry-init : goal.loop-entry-init
loop-entry-init c = record { place = omega (arith, triangle-zero); column = omega arith; same = refl }

stepped : (c : goal.Joined-column-row)
    → sum_answer (form_products c.args.x.now c.args.lower.now) (pos 0)
    ≡ sum_answer (drop (c.loop-entry.entry-index + 1) (form_products c.args.x.now c.args.lower.now)) (to_z w128 (of_z w128 c.in_ok-sum.sum))
stepped c =
    let at = c.loop-entry in
    grind (
      arith,
      to_z-of_z,
      form_continues c.args.x.now c.args.lower.now at.entry-index at.row at.column at.sum (slice_index_or c.args.lower.now at.entry-index (pos 0))
          c.weight_at.result,
    )

pub loop-entry-preserved : goal.loop-entry-preserved
loop-entry-preserved c = elim c.if-column-row.branch [
  | then-column-row w ↦
      rw (w.row-is, w.column-is) record {
        place = next_in_row c.loop-entry.row c.loop-entry.column c.loop-entry.entry-index c.loop-entry.invariant.place;
        column = omega arith;
        same = stepped c;
      }
  | else-column-row w ↦
      rw (
        w.row-is,
        w.column-is,
      ) record {
        place =
            next_row_begins c.loop-entry.row c.loop-entry.column c.loop-entry.entry-index c.loop-entry.invariant.place c.loop-entry.invariant.column
            w.if-column-row.false;
        column = omega arith;
        same = stepped c;
      }
]

pub weight_at-requires-clause-row : goal.weight_at-requires-clause-row
weight_at-requires-clause-row c =
    in_row (length c.args.x.now) c.loop-entry.row c.loop-entry.column c.loop-entry.entry-index c.loop-entry.invariant.place
    (omega (arith, c.requires.lower.entries))

pub weight_at-requires-clause-column : goal.weight_at-requires-clause-column
weight_at-requires-clause-column c =
    let row = in_row (length c.args.x.now) c.loop-entry.row c.loop-entry.column c.loop-entry.entry-index c.loop-entry.invariant.place
    (omega (arith, c.requires.lower.entries)) in
    omega (arith, c.loop-entry.invariant.column)

pub returns-clause-value : goal.returns-clause-value
returns-clause-value c =
    let at = c.loop-entry in
    let ended = form_ends c.args.x.now c.args.lower.now at.entry-index at.sum c.requires.lower.entries c.loop-entry-test.false in
    let answered = form_answer_is c.args.x.now c.args.lower.now in
    grind (arith, to_z-of_z)

pub returns-clause-fits : goal.returns-clause-fits
returns-clause-fits c =
    let at = c.loop-entry in
    let ended = form_ends c.args.x.now c.args.lower.now at.entry-index (to_z w128 at.sum-bits) c.requires.lower.entries c.loop-entry-test.false in
    sum_fits (form_products c.args.x.now c.args.lower.now) (pos 0) (to_z w128 at.sum-bits) (omega arith) (at.invariant.same ∙ ended)
