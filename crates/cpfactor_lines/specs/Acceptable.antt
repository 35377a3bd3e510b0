-- Proofs that `check` accepts, unless an operation does not fit.
--
--     IsAcceptable a bytes     the bytes are the text of one verdict, and none of its checks on A fails, or the first
--                              that does is an operation whose result does not fit
--     RightIsAcceptable        so is the written form of a right verdict whose vectors increase, behind a trace or not
use Rattle.std.specs.Prelude.{ℕ, Bool, List, ◌++◌}
use Rattle.matrix_text.specs.RationalMatrix.{RationalMatrix}
use Rattle.cone_tree_certificate.specs.declared.verdict.Verdict.{Verdict}
use Rattle.cone_tree_certificate.specs.ProofText.{IsProofOfOne}
use Rattle.cone_tree_certificate.specs.VerdictText.{verdict_text, IsWritable, IsWhole}
use Rattle.certificate_checker.specs.Checks.{first_refusal}
use Rattle.certificate_checker.specs.Theorems.{IsOrdered, IsNoneOrWide}
use Rattle.certificate_checker.specs.Verdicts.{checks, IsRight}
use Rattle.perfect_walk.specs.declared.journal.Visit.{Visit}
use Rattle.cpfactor_lines.specs.Traces.{trace_text}

pub record IsAcceptable (a : RationalMatrix) (bytes : List ℕ) : Type 0 where
  pub verdict : Verdict
  pub text : IsProofOfOne bytes verdict
  pub passes : IsNoneOrWide (first_refusal (checks a verdict))

abbrev pub RightIsAcceptable : Type 0
RightIsAcceptable =
    (a : RationalMatrix) (traced : Bool) (visits : List Visit) (v : Verdict)
    → IsRight a v → IsOrdered v → IsWritable v → IsWhole v → IsAcceptable a (trace_text traced visits ++ verdict_text v)
