-- What `check` answers of a matrix A and a proof: of the proof's bytes, and of its file.
--
--     proof_file                  the file of a proof: at most 67,108,864 bytes
--     IsProofFaultDue bytes e     the bytes are no verdict's text, and the ending names their first fault
--     IsRefusedDue a v e          one of the tests of the verdict on A fails, and the ending names the first
--     IsAcceptedDue a v e         none fails, and the ending says so
--     IsVerdictDue a v e          one of these two
--     IsProofDue a bytes e        the first fault is named; or the bytes are a verdict's text, and one of these two is due
--     IsRefused a v e text        a test fails: the ending, and its text
--     IsAccepted a v e text       none fails: the ending, and `accepted`. The verdict is right: its terms factor A; or its W is
--                                 copositive, ⟨W,A⟩ is its value and negative, and its tree proves W copositive
--     IsVerdictAnswer a v e text  one of these two
--     IsProofAnswer a bytes e text     that, of the verdict that the bytes tell, or the refusal of their first fault
use Rattle.std.specs.Prelude.{◌≡◌, ◌⊎◌, ℕ, List, Some, None}
use Rattle.matrix_text.specs.RationalMatrix.{RationalMatrix}
use Rattle.cone_tree_certificate.specs.declared.verdict.Verdict.{Verdict}
use Rattle.cone_tree_certificate.specs.declared.fault.VerdictFault.{VerdictFault}
use Rattle.cone_tree_certificate.specs.ProofText.{ProofText, ProofFault}
use Rattle.certificate_checker.specs.declared.checked.Checked.{Checked}
use Rattle.certificate_checker.specs.Checks.{first_refusal, IsRefusal}
use Rattle.certificate_checker.specs.Verdicts.{checks, IsRight}
use Rattle.cpfactor_lines.specs.CheckTexts.{accepted_text, proof_too_long_text}
use Rattle.cpfactor_top.specs.declared.ended.Ended.{Ended}
use Rattle.cpfactor_top.specs.declared.ended.Cause.TheVariants.{Fine, Proof, ProofFault as FaultyProof}
use Rattle.cpfactor_top.specs.Causes.{ending, refusal_text}
use Rattle.cpfactor_top.specs.Outcomes.{Refuses}
use Rattle.cpfactor_top.specs.Files.{FileKind}

abbrev pub proof_file : FileKind
proof_file = record { limit = 67108864; too_long = proof_too_long_text }

-- ---- which ending is due
abbrev pub IsProofFaultDue : List ℕ → Ended → Type 0
IsProofFaultDue bytes e = (fault : VerdictFault) × ProofFault bytes fault.kind fault.line
    × (e ≡ ending (FaultyProof fault))

pub record IsRefusedDue (a : RationalMatrix) (v : Verdict) (e : Ended) : Type 0 where
  pub refusal : Checked
  pub first : first_refusal (checks a v) ≡ Some refusal
  pub ended : e ≡ ending (Proof refusal)

abbrev pub IsAcceptedDue : RationalMatrix → Verdict → Ended → Type 0
IsAcceptedDue a v e = (first_refusal (checks a v) ≡ None) × (e ≡ ending Fine)

abbrev pub IsVerdictDue : RationalMatrix → Verdict → Ended → Type 0
IsVerdictDue a v e = IsRefusedDue a v e ⊎ IsAcceptedDue a v e

abbrev pub IsProofDue : RationalMatrix → List ℕ → Ended → Type 0
IsProofDue a bytes e = IsProofFaultDue bytes e ⊎ ((v : Verdict) × ProofText bytes v × IsVerdictDue a v e)

-- ---- the answer

-- what is refused is neither acceptance nor want of memory
pub record IsRefused (a : RationalMatrix) (v : Verdict) (e : Ended) (text : List ℕ) : Type 0 where
  pub due : IsRefusedDue a v e
  pub refuses : IsRefusal due.refusal
  pub written : text ≡ refusal_text e.cause

pub record IsAccepted (a : RationalMatrix) (v : Verdict) (e : Ended) (text : List ℕ) : Type 0 where
  pub due : IsAcceptedDue a v e
  pub right : IsRight a v
  pub written : text ≡ accepted_text

abbrev pub IsVerdictAnswer : RationalMatrix → Verdict → Ended → List ℕ → Type 0
IsVerdictAnswer a v e text = IsRefused a v e text ⊎ IsAccepted a v e text

abbrev pub IsProofAnswer : RationalMatrix → List ℕ → Ended → List ℕ → Type 0
IsProofAnswer a bytes e text =
    Refuses (IsProofFaultDue bytes) e text ⊎ ((v : Verdict) × ProofText bytes v × IsVerdictAnswer a v e text)
