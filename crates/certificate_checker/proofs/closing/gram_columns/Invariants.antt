use Rattle.std.proofs.Common.{◌≡◌, None, length}
use Rattle.symmetric_matrix.specs.Owed.{first_owed}
use Rattle.symmetric_matrix.specs.Operations.{is_owed}
use Rattle.unimodular_cone.specs.Cones.{gram}
use Rattle.certificate_checker.specs.Loops.{steps}
use Rattle.certificate_checker.specs.Rows.{at}
use Rattle.certificate_checker.specs.Leaves.{generator_ops}
use Rattle.certificate_checker.proofs.GramSums.{AreGramColumns}
use Rattle.certificate_checker.proofs.closing.gram_columns.Given as goal

abbrev pub invariant-loop-b : goal.invariant-loop-b
invariant-loop-b l = record {
  room : length l.columns ≡ 8;
  fits : first_owed is_owed (steps (generator_ops l.n (at l.w) (at l.v)) l.b) ≡ None;
  columns : AreGramColumns l.n l.b l.columns (gram l.n (at l.w) (at l.v));
}
