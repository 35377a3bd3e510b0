-- What `check` answers of a text that `solve` wrote.
use Rattle.std.specs.Prelude.{◌≡◌, ◌⊎◌, ◌≤◌, ℕ, Bool, List, ◌++◌, Option, Some, None}
use Rattle.std.proofs.Common.{refl, sym, ap, ◌∙◌, subst, inl, inr}
use Rattle.symmetric_matrix.specs.Symmetric.{entry}
use Rattle.matrix_text.specs.Matrix.{MatrixText}
use Rattle.matrix_text.specs.RationalMatrix.{RationalMatrix}
use Rattle.matrix_text.proofs.Ranges.{text-short, text-some}
use Rattle.cone_tree_certificate.specs.declared.verdict.Verdict.TheVariants.{Factors, Separator}
use Rattle.cone_tree_certificate.specs.Trees.{TreeProves}
use Rattle.certificate_checker.specs.declared.checked.Checked.{Checked}
use Rattle.certificate_checker.specs.declared.checked.Checked.TheVariants.{Wide}
use Rattle.certificate_checker.specs.Checks.{first_refusal}
use Rattle.certificate_checker.specs.Theorems.{IsNoneOrWide}
use Rattle.certificate_checker.specs.Verdicts.{checks}
use Rattle.perfect_walk.specs.declared.journal.Limits.{Limits}
use Rattle.perfect_walk.specs.declared.journal.Journal.{Journal}
use Rattle.perfect_walk.specs.declared.journal.Visit.{Visit}
use Rattle.perfect_walk.specs.declared.journal.End.{End}
use Rattle.perfect_walk.specs.declared.journal.End.TheVariants as end
use Rattle.walk_verdict.specs.Verdicts.{IsVerdictRight}
use Rattle.cpfactor_lines.specs.Commands.{Check}
use Rattle.cpfactor_lines.specs.Traces.{trace_text}
use Rattle.cpfactor_lines.specs.Acceptable.{IsAcceptable}
use Rattle.cpfactor_lines.proofs.SkippedTraces.{right-acceptable}
use Rattle.cpfactor_top.specs.declared.ended.Ended.{Ended}
use Rattle.cpfactor_top.specs.declared.ended.Cause.TheVariants.{Fine, MatrixFault, Proof, Overflow, Depth, Pivots}
use Rattle.cpfactor_top.specs.Causes.{ending}
use Rattle.cpfactor_top.specs.Files.{IsFileDue}
use Rattle.cpfactor_top.specs.Checking.{proof_file, IsProofDue}
use Rattle.cpfactor_top.specs.Solving.{ending_by, IsEndText, IsWalkAnswer}
use Rattle.cpfactor_top.specs.Answers.{due_of}
use Rattle.cpfactor_top.specs.Theorems.{IsCheckOf, IsOwedCheck, IsDueOfCheck, CheckAcceptsWhatSolveWrote}
use Rattle.cpfactor_top.proofs.TreeLines.{proving_splits}

-- ---- the ending of `check` for an acceptable proof
abbrev IsGoodEnding : RationalMatrix → List ℕ → Type 0
IsGoodEnding a text = (f : Ended) × IsProofDue a text f × ((f ≡ ending Fine) ⊎ IsOwedCheck f)

passed : (a : RationalMatrix) (text : List ℕ) (h : IsAcceptable a text) (o : Option Checked)
    → first_refusal (checks a h.verdict) ≡ o → IsNoneOrWide o → IsGoodEnding a text
passed a text h None first passes = (ending Fine, inr (h.verdict, h.text.text, inr (first, refl)), inl refl)
passed a text h (Some (Wide op)) first passes = (
  ending (Proof (Wide op)),
  inr (h.verdict, h.text.text, inl (record { refusal = Wide op; first = first; ended = refl })),
  inr (record { op = op; owed = passes; ended = refl }),
)
passed a text h (Some other) first passes = absurd passes

acceptable_ending : (a : RationalMatrix) (text : List ℕ) → IsAcceptable a text → IsGoodEnding a text
acceptable_ending a text h = passed a text h (first_refusal (checks a h.verdict)) refl h.passes

-- ---- the text of a walk's verdict is acceptable
module _ (traced : Bool) (visits : List Visit) (limits : Limits) (a : RationalMatrix) (some : 1 ≤ a.size) (few : a.size ≤ 6) where
  end_acceptable : (journal : Journal) (e : End) (answer : List ℕ) → IsVerdictRight a limits.depth e → IsEndText a.size limits e answer
      → (ending_by limits.pivots journal e).cause ≡ Fine → IsAcceptable a (trace_text traced visits ++ answer)
  end_acceptable journal (end.Factored terms) answer right text fine =
      subst (λ (t : List ℕ). IsAcceptable a (trace_text traced visits ++ t)) (sym text.0)
      (right-acceptable a traced visits (Factors a.size terms) (refl, right.factors) right.in_order (some, few, right.factors.sized) text.1)
  end_acceptable journal (end.Separated w value) answer right text fine =
      subst (λ (t : List ℕ). IsAcceptable a (trace_text traced visits ++ t)) (sym text.written)
      (right-acceptable a traced visits (Separator w value text.tree)
      (record {
        size = right.size;
        separates = right.separates;
        value_is = right.value_is;
        proved = subst (λ (n : ℕ). TreeProves n (entry w) text.tree) right.size text.proved;
      })
      tt (subst (λ (n : ℕ). n ≤ 6) (sym right.size) few, proving_splits w.size (entry w) text.tree text.proved) text.whole)
  end_acceptable journal (end.Depth path) answer right text fine = absurd (let not_fine : Depth path ≡ Fine = fine in cc)
  end_acceptable journal end.Pivots answer right text fine = absurd (let not_fine : Pivots limits.pivots ≡ Fine = fine in cc)
  end_acceptable journal (end.Overflow owed) answer right text fine = absurd (let not_fine : Overflow owed ≡ Fine = fine in cc)
  end_acceptable journal end.OutOfMemory answer right text fine = absurd text

walk_acceptable : (traced : Bool) (limits : Limits) (a : RationalMatrix) (e : Ended) (text : List ℕ) → 1 ≤ a.size → a.size ≤ 6
    → IsWalkAnswer traced limits a e text → e.cause ≡ Fine → IsAcceptable a text
walk_acceptable traced limits a e text some few h fine =
    let walked = h.due.walked in
    subst (IsAcceptable a) (sym h.written.written)
    (end_acceptable traced walked.journal.visited limits a some few walked.journal walked.end h.written.answer h.right h.written.of_end
    (sym (ap (λ (x : Ended). x.cause) h.due.ended) ∙ fine))

-- ---- for a request to check
request_due : (words : List (List ℕ)) (told : List ℕ → Option (List ℕ)) (bytes text : List ℕ) (a : RationalMatrix) (f : Ended)
    → IsCheckOf words told bytes text → MatrixText bytes a → IsProofDue a text f → IsDueOfCheck words told f
request_due words told bytes text a f h is due =
    let second : IsFileDue proof_file (IsProofDue a) (told h.proof) f =
    record { held = text; is_told = h.proof_told; due_of_held = inl (h.proof_within, due) } in
    let held : due_of (Check h.file h.proof) told f =
    record { held = bytes; is_told = h.file_told; due_of_held = inl (h.file_within, inr (a, is, second)) } in
    ((Check h.file h.proof, h.asked, held), (h.file, h.proof, h.asked, held))

pub check_accepts : CheckAcceptsWhatSolveWrote
check_accepts traced limits bytes text e (inl ((fault, is, ended), written)) fine words told h =
    absurd (let not_fine : MatrixFault fault ≡ Fine = sym (ap (λ (x : Ended). x.cause) ended) ∙ fine in cc)
check_accepts traced limits bytes text e (inr (a, is, inl (refused, written))) fine words told h =
    absurd (let not_fine : Overflow _ ≡ Fine = sym (ap (λ (x : Ended). x.cause) refused.ended) ∙ fine in cc)
check_accepts traced limits bytes text e (inr (a, is, inr answer)) fine words told h =
    let good = acceptable_ending a text (walk_acceptable traced limits a e text (text-some bytes a is) (text-short bytes a is).rows answer fine) in
    (good.0, request_due words told bytes text a good.0 h is good.1, good.2)
