use Rattle.symmetric_matrix.specs.Symmetric.{entry}
use Rattle.unimodular_cone.specs.Shown.{IsWithinLimits, IsConeAt, IsReachable}
use Rattle.cone_rows.proofs.cone_tests.both_ways.Given as goal

abbrev pub invariant-loop-digit : goal.invariant-loop-digit
invariant-loop-digit g l = record {
  there : IsConeAt l.q.size (entry l.q) l.path l.walked;
  within : IsWithinLimits l.walked;
  reach : IsReachable l.q.size (entry l.q) l.path;
}
