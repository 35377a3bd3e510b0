-- What holds of the answers of `solve` and of `check` together.
--
--     IsCheckOf words told bytes text     the words ask to check a file and a proof, of which the files tell these
--                              bytes and this text, each no longer than its limit
--     IsOwedCheck e            the ending of a refusal of an operation of the tests, which is owed
--     IsDueOfCheck words told e    the ending is due for the words, in `run` and in `check_run`
--     CheckAcceptsWhatSolveWrote     for the text of a verdict that `solve` writes of a matrix text, with or without the
--                              trace, and the same matrix text, one of two endings of `check` is due: that it
--                              accepts, or such a refusal
use Rattle.std.specs.Prelude.{◌≡◌, ◌⊎◌, ◌≤◌, ℕ, Bool, true, List, length, Option, Some}
use Rattle.symmetric_matrix.specs.declared.operation.IntOp.{IntOp}
use Rattle.symmetric_matrix.specs.Operations.{is_owed}
use Rattle.certificate_checker.specs.declared.checked.Checked.TheVariants.{Wide}
use Rattle.perfect_walk.specs.declared.journal.Limits.{Limits}
use Rattle.cpfactor_lines.specs.Commands.{Check, IsCommandLine}
use Rattle.cpfactor_top.specs.declared.ended.Ended.{Ended}
use Rattle.cpfactor_top.specs.declared.ended.Cause.TheVariants.{Fine, Proof}
use Rattle.cpfactor_top.specs.Causes.{ending}
use Rattle.cpfactor_top.specs.Files.{matrix_file}
use Rattle.cpfactor_top.specs.Checking.{proof_file}
use Rattle.cpfactor_top.specs.Solving.{IsSolved}
use Rattle.cpfactor_top.specs.Answers.{IsBytesAnswer, IsRequestDue, IsCheckDue}

pub record IsCheckOf (words : List (List ℕ)) (told : List ℕ → Option (List ℕ)) (bytes text : List ℕ) : Type 0 where
  pub file : List ℕ
  pub proof : List ℕ
  pub asked : IsCommandLine words (Check file proof)
  pub file_told : told file ≡ Some bytes
  pub file_within : length bytes ≤ matrix_file.limit
  pub proof_told : told proof ≡ Some text
  pub proof_within : length text ≤ proof_file.limit

pub record IsOwedCheck (e : Ended) : Type 0 where
  pub op : IntOp
  pub owed : is_owed op ≡ true
  pub ended : e ≡ ending (Proof (Wide op))

abbrev pub IsDueOfCheck : List (List ℕ) → (List ℕ → Option (List ℕ)) → Ended → Type 0
IsDueOfCheck words told e = IsRequestDue words told e × IsCheckDue words told e

abbrev pub CheckAcceptsWhatSolveWrote : Type 0
CheckAcceptsWhatSolveWrote =
    (traced : Bool) (limits : Limits) (bytes text : List ℕ) (e : Ended)
    → IsBytesAnswer (IsSolved traced limits) bytes e text → e.cause ≡ Fine
    → (words : List (List ℕ)) (told : List ℕ → Option (List ℕ)) → IsCheckOf words told bytes text
    → (checked : Ended) × IsDueOfCheck words told checked × ((checked ≡ ending Fine) ⊎ IsOwedCheck checked)
