-- What `sample` answers of the matrix A of its numbers: the summary of what `solve` answers of A under the usual limits.
--
--     IsSampleDue n k first a e    A is the matrix of these numbers, and the ending is due for `solve`
--     IsSampled n k first a e text     A is this matrix; the ending is that of `solve`, without a trace; the text is the
--                              summary of A, of the visits in the ending's journal, and of the text that `solve` writes
--     IsSampleAnswer n k first e text  that, of some matrix
use Rattle.std.specs.Prelude.{◌≡◌, ℕ, false, List, length, Some}
use Rattle.matrix_text.specs.RationalMatrix.{RationalMatrix}
use Rattle.matrix_sample.specs.Samples.{IsSample}
use Rattle.perfect_walk.specs.declared.journal.Journal.{Journal}
use Rattle.cpfactor_lines.specs.Commands.{usual_limits}
use Rattle.cpfactor_lines.specs.SampleTexts.{sample_text}
use Rattle.cpfactor_top.specs.declared.ended.Ended.{Ended}
use Rattle.cpfactor_top.specs.Solving.{IsSolved, IsSolveDue}

abbrev pub IsSampleDue : ℕ → ℕ → ℕ → RationalMatrix → Ended → Type 0
IsSampleDue n k first a e = IsSample n k first a × IsSolveDue usual_limits a e

pub record IsSampled (n k first : ℕ) (a : RationalMatrix) (e : Ended) (text : List ℕ) : Type 0 where
  pub sample : IsSample n k first a
  pub answer : List ℕ
  pub solved : IsSolved false usual_limits a e answer
  pub journal : Journal
  pub is_journal : e.journal ≡ Some journal
  pub written : text ≡ sample_text n k first a (length journal.visited) answer

abbrev pub IsSampleAnswer : ℕ → ℕ → ℕ → Ended → List ℕ → Type 0
IsSampleAnswer n k first e text = (a : RationalMatrix) × IsSampled n k first a e text
