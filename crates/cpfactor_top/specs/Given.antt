-- What is refused of a matrix A of fractions before a command's own work.
--
--     IsClearRefused journal a e   clearing owes an operation, and the ending, with this journal, names the first
use Rattle.std.specs.Prelude.{◌≡◌, Option, Some}
use Rattle.symmetric_matrix.specs.Owed.{first_owed}
use Rattle.matrix_text.specs.RationalMatrix.{RationalMatrix}
use Rattle.matrix_text.specs.Clearing.{PlacedOp, is_placed_owed, clear_ops}
use Rattle.perfect_walk.specs.declared.journal.Journal.{Journal}
use Rattle.perfect_walk.specs.declared.journal.Owed.TheVariants.{Clear}
use Rattle.cpfactor_top.specs.declared.ended.Ended.{Ended}
use Rattle.cpfactor_top.specs.declared.ended.Cause.TheVariants.{Overflow}
use Rattle.cpfactor_top.specs.Causes.{ending_with}

pub record IsClearRefused (journal : Option Journal) (a : RationalMatrix) (e : Ended) : Type 0 where
  pub op : PlacedOp
  pub first : first_owed is_placed_owed (clear_ops a) ≡ Some op
  pub ended : e ≡ ending_with journal (Overflow (Clear op.row op.column op.op))
