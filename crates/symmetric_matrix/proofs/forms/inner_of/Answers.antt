use Rattle.std.proofs.Common.{◌≡◌, ◌∙◌, ◌+◌, arith, to_z-of_z, to_z, of_z, pos, drop, refl, slice_index_or}
use mir.Syntax.{w128}
use Rattle.exact_forms.proofs.Triangles.{triangle-zero}
use Rattle.symmetric_matrix.proofs.FormSteps.{next_in_row, next_row_begins}
use Rattle.symmetric_matrix.proofs.InnerSteps.{inner_products, inner_refused, inner_continues, inner_ends, inner_answer_is}
use Rattle.symmetric_matrix.proofs.Recipes.{sum_answer, sum_fits}
use Rattle.symmetric_matrix.proofs.forms.inner_of.Goals as goal
use Rattle.symmetric_matrix.proofs.forms.inner_of.Goals.{then-column-row, else-column-row}

pub returns-in_err-sum-clause-value : goal.returns-in_err-sum-clause-value
returns-in_err-sum-clause-value c =
    let at = c.loop-k in
    let answered = inner_answer_is c.args.n c.args.lower.now c.args.other.now in
    grind (
      arith,
      to_z-of_z,
      inner_refused c.args.n c.args.lower.now c.args.other.now at.k at.row at.column at.sum (slice_index_or c.args.lower.now at.k (pos 0))
          c.times_at.result (slice_index_or c.args.other.now at.k (pos 0)),
    )

pub loop-k-init : goal.loop-k-init
loop-k-init c = record { place = omega (arith, triangle-zero); column = omega arith; same = refl }

stepped : (c : goal.Joined-column-row)
    → sum_answer (inner_products c.args.n c.args.lower.now c.args.other.now) (pos 0)
    ≡ sum_answer (drop (c.loop-k.k + 1) (inner_products c.args.n c.args.lower.now c.args.other.now)) (to_z w128 (of_z w128 c.in_ok-sum.sum))
stepped c =
    let at = c.loop-k in
    grind (
      arith,
      to_z-of_z,
      inner_continues c.args.n c.args.lower.now c.args.other.now at.k at.row at.column at.sum (slice_index_or c.args.lower.now at.k (pos 0))
          c.times_at.result (slice_index_or c.args.other.now at.k (pos 0)),
    )

pub loop-k-preserved : goal.loop-k-preserved
loop-k-preserved c = elim c.if-column-row.branch [
  | then-column-row w ↦
      rw (w.row-is, w.column-is) record {
        place = next_in_row c.loop-k.row c.loop-k.column c.loop-k.k c.loop-k.invariant.place;
        column = omega arith;
        same = stepped c;
      }
  | else-column-row w ↦
      rw (
        w.row-is,
        w.column-is,
      ) record {
        place =
            next_row_begins c.loop-k.row c.loop-k.column c.loop-k.k c.loop-k.invariant.place c.loop-k.invariant.column w.if-column-row.false;
        column =
            omega arith;
        same = stepped c;
      }
]

pub returns-clause-value : goal.returns-clause-value
returns-clause-value c =
    let at = c.loop-k in
    let ended = inner_ends c.args.n c.args.lower.now c.args.other.now at.k at.sum c.requires.lower.entries c.loop-k-test.false in
    let answered = inner_answer_is c.args.n c.args.lower.now c.args.other.now in
    grind (arith, to_z-of_z)

pub returns-clause-fits : goal.returns-clause-fits
returns-clause-fits c =
    let at = c.loop-k in
    let ended = inner_ends c.args.n c.args.lower.now c.args.other.now at.k (to_z w128 at.sum-bits) c.requires.lower.entries c.loop-k-test.false in
    sum_fits (inner_products c.args.n c.args.lower.now c.args.other.now) (pos 0) (to_z w128 at.sum-bits) (omega arith) (at.invariant.same ∙ ended)
