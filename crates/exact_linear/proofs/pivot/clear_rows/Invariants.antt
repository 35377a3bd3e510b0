use Rattle.std.proofs.Common.{◌≡◌, ◌++◌, length, take, drop}
use Rattle.symmetric_matrix.specs.Owed.{answer}
use Rattle.exact_linear.specs.Exchange.{entry_is_owed, rest_ops, rest_cells}
use Rattle.exact_linear.proofs.Rows.{IsAtCell}
use Rattle.exact_linear.proofs.pivot.clear_rows.Given as goal

-- what is left answers the same, and makes the same table
abbrev pub invariant-loop-k : goal.invariant-loop-k
invariant-loop-k l = record {
  cell : IsAtCell l.k l.i l.j l.width (length l.into) (length l.old);
  same : answer entry_is_owed (rest_ops l.row l.column l.width l.pivot_row l.old l.old 0 0) (tt {0})
      ≡ answer entry_is_owed (rest_ops l.row l.column l.width l.pivot_row l.old (drop l.k l.old) l.i l.j) (tt {0});
  made : take l.k l.into ++ rest_cells l.row l.column l.width l.pivot_row l.old (drop l.k l.old) l.i l.j
      ≡ rest_cells l.row l.column l.width l.pivot_row l.old l.old 0 0;
}
