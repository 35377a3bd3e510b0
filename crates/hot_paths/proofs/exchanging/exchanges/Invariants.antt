use Rattle.std.proofs.Common.{◌≡◌}
use Rattle.exact_linear.specs.Tables.{rows_of}
use Rattle.hot_paths.proofs.exchanging.exchanges.Given as goal

abbrev pub invariant-loop-made : goal.invariant-loop-made
invariant-loop-made l = record {
  rows : rows_of l.tableau ≡ 21;
  width : l.tableau.width ≡ 516;
}
