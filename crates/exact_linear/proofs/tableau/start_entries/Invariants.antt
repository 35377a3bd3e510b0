use Rattle.std.proofs.Common.{◌≡◌}
use Rattle.exact_linear.proofs.StartTable.{start_cells}
use Rattle.exact_linear.proofs.tableau.start_entries.Given as goal

abbrev pub invariant-loop-k : goal.invariant-loop-k
invariant-loop-k l = l.entries.items ≡ start_cells l.rows l.width l.columns l.k
