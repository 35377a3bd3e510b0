use Rattle.exact_linear.proofs.Fill.{Filled}
use Rattle.exact_linear.proofs.kept.fill_last_column.Given as goal

abbrev pub invariant-loop-k : goal.invariant-loop-k
invariant-loop-k l = Filled l.width l.fn.entries l.entries l.k
