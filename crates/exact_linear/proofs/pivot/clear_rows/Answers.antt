use Rattle.std.proofs.Common.{◌≡◌, ◌∙◌, ◌+◌, ◌*◌, ◌++◌, sym, arith, Ok, length, take, drop, pos, set}
use Rattle.std.proofs.lemmas.List.{length-set, get_or_read_under}
use Rattle.exact_forms.specs.Rational.{whole}
use Rattle.symmetric_matrix.specs.Owed.{answer}
use Rattle.exact_linear.specs.Tables.{entry_of}
use Rattle.exact_linear.specs.Exchange.{entry_is_owed, cell_ops, new_cell, rest_ops, rest_cells, next_row, next_column}
use Rattle.exact_linear.proofs.Rows.{IsRead, cells_from, rest_refused, rest_done, rest_made, rest_nothing, rest_whole, cell_within, cell_beside, cell_below, next_inside, next_after}
use Rattle.exact_linear.proofs.pivot.clear_rows.Goals as goal
use Rattle.exact_linear.proofs.pivot.clear_rows.Goals.{After-new_entry, then-j-width, else-j-width}

pub bounds-old-i : goal.bounds-old-i
bounds-old-i c = omega (arith, cell_within _ _ _ _ _ _ c.args.column c.args.rows c.loop-k.invariant.cell (omega arith) c.requires.column)

-- the entries that a cell is made of
read : (c : After-new_entry)
    → IsRead c.args.column c.args.width c.loop-k.i c.loop-k.j c.loop-k.k c.args.pivot_row.now c.args.old.now c.index-old-k.result c.index-old-i.result
    c.index-pivot_row-j.result
read c = record {
  within = c.loop-k-test.true;
  here = c.index-old-k.is;
  factor =
      get_or_read_under c.args.old.now (c.loop-k.i * c.args.width + c.args.column) (length c.args.old.now) c.index-old-i.result (whole (pos 0))
      c.index-old-i.is (omega (arith, cell_within _ _ _ _ _ _ c.args.column c.args.rows c.loop-k.invariant.cell (omega arith) c.requires.column)) (omega arith);
  pivot =
      get_or_read_under c.args.pivot_row.now c.loop-k.j (length c.args.pivot_row.now) c.index-pivot_row-j.result (whole (pos 0)) c.index-pivot_row-j.is
      (omega (arith, c.loop-k.invariant.cell.column)) (omega arith);
}

pub returns-in_err-into-clause-refused : goal.returns-in_err-into-clause-refused
returns-in_err-into-clause-refused c =
    let r = read (goal.at.returns-in_err-into-clause-refused c).After-new_entry in
    let f = r.factor in let y = r.pivot in grind (arith, rest_refused)

made_ok : (c : goal.Joined-j-width)
    → answer entry_is_owed (cell_ops c.args.row c.loop-k.i c.loop-k.j c.index-old-k.result c.index-old-i.result c.index-pivot_row-j.result)
    (new_cell c.args.row c.loop-k.i c.index-old-k.result c.index-old-i.result c.index-pivot_row-j.result) ≡ Ok c.in_ok-into.field-0
made_ok c = sym c.new_entry.ensures ∙ c.in_ok-into.was

abbrev IsReadAt : goal.Joined-j-width → Type 0
IsReadAt c =
    IsRead c.args.column c.args.width c.loop-k.i c.loop-k.j c.loop-k.k c.args.pivot_row.now c.args.old.now c.index-old-k.result c.index-old-i.result
    c.index-pivot_row-j.result

same_ok : (c : goal.Joined-j-width) → IsReadAt c
    → answer entry_is_owed (rest_ops c.args.row c.args.column c.args.width c.args.pivot_row.now c.args.old.now c.args.old.now 0 0) (tt {0})
    ≡ answer entry_is_owed
    (rest_ops c.args.row c.args.column c.args.width c.args.pivot_row.now c.args.old.now (drop (c.loop-k.k + 1) c.args.old.now)
    (next_row c.args.width c.loop-k.i c.loop-k.j) (next_column c.args.width c.loop-k.i c.loop-k.j)) (tt {0})
same_ok c R = c.loop-k.invariant.same ∙ rest_done c.args.row _ _ _ _ _ _ _ _ _ _ c.in_ok-into.field-0 R (made_ok c)

cells_ok : (c : goal.Joined-j-width) → IsReadAt c
    → cells_from c.args.row c.args.column c.args.width c.args.pivot_row.now c.args.old.now (set c.loop-k.into c.loop-k.k c.in_ok-into.field-0) (c.loop-k.k + 1)
    (next_row c.args.width c.loop-k.i c.loop-k.j) (next_column c.args.width c.loop-k.i c.loop-k.j)
    ≡ rest_cells c.args.row c.args.column c.args.width c.args.pivot_row.now c.args.old.now c.args.old.now 0 0
cells_ok c R =
    sym (rest_made c.args.row _ _ _ _ _ _ _ c.loop-k.into _ _ _ c.in_ok-into.field-0 c.loop-k.invariant.cell.size R (made_ok c)) ∙ c.loop-k.invariant.made

pub loop-k-preserved : goal.loop-k-preserved
loop-k-preserved c =
    let R = read (goal.at.loop-k-preserved c).After-new_entry in
    let size = length-set c.loop-k.into c.loop-k.k c.in_ok-into.field-0 in
    elim c.if-j-width.branch [
      | then-j-width w ↦
          let next = next_inside c.args.width c.loop-k.i c.loop-k.j w.if-j-width.true in
          rw (w.i-is, w.j-is) record {
            cell = cell_beside _ _ _ _ _ _ _ c.loop-k.invariant.cell size w.if-j-width.true;
            same = rw (next.0, next.1) at (same_ok c R);
            made = rw (next.0, next.1) at (cells_ok c R);
          }
      | else-j-width w ↦
          let next = next_after c.args.width c.loop-k.i c.loop-k.j w.if-j-width.false in
          rw (w.i-is, w.j-is) record {
            cell = cell_below _ _ _ _ _ _ _ c.loop-k.invariant.cell size w.if-j-width.false;
            same = rw (next.0, next.1) at (same_ok c R);
            made = rw (next.0, next.1) at (cells_ok c R);
          }
    ]

pub returns-clause-refused : goal.returns-clause-refused
returns-clause-refused c = grind (arith, rest_nothing)

pub returns-clause-made : goal.returns-clause-made
returns-clause-made c = grind (arith, rest_whole)
