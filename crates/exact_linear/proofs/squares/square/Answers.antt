use Rattle.std.proofs.Common.{◌≡◌, ◌∙◌, ◌++◌, sym, ap, arith, List, ℕ, ℤ, length}
use Rattle.exact_linear.proofs.SquareLists.{rows_none, rows_more, square_lower}
use Rattle.exact_linear.specs.Squares.{square_rows, square_row}
use Rattle.exact_linear.proofs.squares.square.Goals as goal

pub loop-row-init : goal.loop-row-init
loop-row-init c = c.new-lower.ensures.items ∙ sym (rows_none c.args.x.now)

pub loop-row-preserved : goal.loop-row-preserved
loop-row-preserved c =
    c.in_ok-push_row.ensures
    ∙ ap (λ (x : List ℕ). c.loop-row.lower.items ++ square_row x c.loop-row.row) c.as_slice-coordinates.ensures.value
    ∙ ap (λ (xs : List ℤ). xs ++ square_row c.args.x.now c.loop-row.row) c.loop-row.invariant
    ∙ sym (rows_more c.args.x.now c.loop-row.row)

pub from_lower-requires-clause-lower : goal.from_lower-requires-clause-lower
from_lower-requires-clause-lower c =
    let size = ap length c.as_slice-coordinates.ensures.value in
    let row : c.loop-row.row ≡ c.len.result =
    (let a = c.loop-row-test.false in let b = c.loop-row.auto.row-end in let d = c.len.ensures.value in omega arith) in
    square_lower c.args.x.now c.len.result c.deref.result.now c.len.ensures.vector (c.deref.ensures.value ∙ c.loop-row.invariant
    ∙ ap (λ (n : ℕ). square_rows c.args.x.now n) row)
