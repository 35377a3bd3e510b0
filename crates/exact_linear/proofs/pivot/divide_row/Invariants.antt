use Rattle.std.proofs.Common.{◌≡◌, ◌++◌, length, take, drop}
use Rattle.symmetric_matrix.specs.Owed.{answer}
use Rattle.exact_linear.specs.Exchange.{entry_is_owed, divide_ops, divided_row}
use Rattle.exact_linear.proofs.pivot.divide_row.Given as goal

-- what is left answers the same, and makes the same row
abbrev pub invariant-loop-j : goal.invariant-loop-j
invariant-loop-j l = record {
  size : length l.into ≡ length l.from;
  same : answer entry_is_owed (divide_ops l.row 0 l.pivot l.from) (tt {0}) ≡ answer entry_is_owed (divide_ops l.row l.j l.pivot (drop l.j l.from)) (tt {0});
  made : take l.j l.into ++ divided_row l.pivot (drop l.j l.from) ≡ divided_row l.pivot l.from;
}
