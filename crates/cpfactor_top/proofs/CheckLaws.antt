-- One ending alone is due for the bytes of a proof.
use Rattle.std.specs.Prelude.{◌≡◌, ℕ, List, Option, Some, None}
use Rattle.std.proofs.lemmas.List.Elements.{All-weaker}
use Rattle.std.proofs.Common.{refl, sym, ap, ◌∙◌, subst, inl, inr}
use Rattle.matrix_text.specs.RationalMatrix.{RationalMatrix}
use Rattle.cone_tree_certificate.specs.declared.verdict.Verdict.{Verdict}
use Rattle.cone_tree_certificate.specs.declared.fault.VerdictFault.{VerdictFault}
use Rattle.cone_tree_certificate.specs.ProofText.{ProofText, ProofFault}
use Rattle.cone_tree_certificate.specs.declared.verdict.Verdict.TheVariants.{Factors, Separator}
use Rattle.cone_tree_certificate.specs.declared.tree.TreeLine.{TreeLine}
use Rattle.cone_tree_certificate.specs.declared.tree.TreeLine.TheVariants.{Leaf, Split}
use Rattle.cone_tree_certificate.specs.VerdictText as read
use Rattle.certificate_checker.specs.declared.checked.Checked.{Checked}
use Rattle.certificate_checker.specs.declared.checked.Checked.TheVariants.{Accepted}
use Rattle.certificate_checker.specs.Checks.{first_refusal, answer_of, IsRefusal}
use Rattle.certificate_checker.specs.Verdicts.{checks, HasSplit, IsCheckable, IsRight}
use Rattle.certificate_checker.proofs.Refusals.{all_refuse, refusal_is}
use Rattle.cpfactor_top.specs.declared.ended.Ended.{Ended}
use Rattle.cpfactor_top.specs.declared.ended.Cause.TheVariants.{Proof, ProofFault as FaultyProof}
use Rattle.cpfactor_top.specs.Causes.{ending, checked_cause, HasStatus}
use Rattle.cpfactor_lines.specs.CheckTexts.{checked_text}
use Rattle.cpfactor_top.specs.declared.ended.Cause.{Cause}
use Rattle.cpfactor_top.specs.Checking.{IsVerdictDue, IsProofDue, IsVerdictAnswer, IsProofAnswer}
use Rattle.cpfactor_top.proofs.FileLaws.{IsSettled}

one_verdict : (bytes : List ℕ) (v w : Verdict) → ProofText bytes v → ProofText bytes w → v ≡ w
unfolding ProofText
one_verdict bytes v w h k = cc

one_proof_fault : (bytes : List ℕ) (f g : VerdictFault) → ProofFault bytes f.kind f.line → ProofFault bytes g.kind g.line → f ≡ g
unfolding ProofFault
one_proof_fault bytes f g h k = cc

verdict_or_fault : (bytes : List ℕ) (v : Verdict) (f : VerdictFault) → ProofText bytes v → ProofFault bytes f.kind f.line → ⊥
unfolding ProofText ProofFault
verdict_or_fault bytes v f h k = absurd cc

module _ (a : RationalMatrix) where
  verdict_once : (v : Verdict) (e f : Ended) → IsVerdictDue a v e → IsVerdictDue a v f → e ≡ f
  verdict_once v e f (inl h) (inl k) =
      let one : Some h.refusal ≡ Some k.refusal = sym h.first ∙ k.first in
      h.ended ∙ ap (λ (c : Checked). ending (Proof c)) (let same : h.refusal ≡ k.refusal = cc in same) ∙ sym k.ended
  verdict_once v e f (inl h) (inr (none, k)) = absurd (let some = h.first in cc)
  verdict_once v e f (inr (none, h)) (inl k) = absurd (let some = k.first in cc)
  verdict_once v e f (inr (none, h)) (inr (none', k)) = h ∙ sym k

  verdict_is_due : (v : Verdict) (e : Ended) (text : List ℕ) → IsVerdictAnswer a v e text → IsVerdictDue a v e
  verdict_is_due v e text (inl h) = inl h.due
  verdict_is_due v e text (inr h) = inr h.due

  verdict_status : (v : Verdict) (e : Ended) → IsVerdictDue a v e → HasStatus e
  verdict_status v e (inl h) = subst HasStatus (sym h.ended) (inl refl)
  verdict_status v e (inr (none, ended)) = subst HasStatus (sym ended) (inl refl)

  proof_once : (bytes : List ℕ) (e g : Ended) (text : List ℕ) → IsProofDue a bytes e → IsProofAnswer a bytes g text → g ≡ e
  proof_once bytes e g text (inl (fault, is, ended)) (inl ((other, is', ended'), written)) =
      ended' ∙ ap (λ (t : VerdictFault). ending (FaultyProof t)) (one_proof_fault bytes other fault is' is) ∙ sym ended
  proof_once bytes e g text (inl (fault, is, ended)) (inr (v, is_text, h)) = absurd (verdict_or_fault bytes v fault is_text is)
  proof_once bytes e g text (inr (v, is_text, d)) (inl ((fault, is, ended), written)) = absurd (verdict_or_fault bytes v fault is_text is)
  proof_once bytes e g text (inr (v, is, d)) (inr (w, is', h)) =
      verdict_once v g e (subst (λ (u : Verdict). IsVerdictDue a u g) (one_verdict bytes w v is' is) (verdict_is_due w g text h)) d

  proof_status : (bytes : List ℕ) (e : Ended) (text : List ℕ) → IsProofAnswer a bytes e text → HasStatus e
  proof_status bytes e text (inl ((fault, is, ended), written)) = subst HasStatus (sym ended) (inl refl)
  proof_status bytes e text (inr (v, is, h)) = verdict_status v e (verdict_is_due v e text h)

  pub proof_settled : (bytes : List ℕ) → IsSettled (IsProofAnswer a bytes) (IsProofDue a bytes)
  proof_settled bytes = record { given = λ e g text d h. inr (proof_once bytes e g text d h); status = proof_status bytes }

-- ---- what was read can be checked
split_is : (n : ℕ) (line : TreeLine) → read.HasSplit n line → HasSplit n line
split_is n Leaf h = h
split_is n (Split i j) h = h

pub checkable : (v : Verdict) → read.IsCheckable v → IsCheckable v
checkable (Factors n terms) h = h
checkable (Separator w value tree) h = All-weaker (read.HasSplit w.size) (HasSplit w.size) (split_is w.size) tree h

-- ---- the checker's answer
cause_of_refusal : (c : Checked) → IsRefusal c → checked_cause c ≡ Proof c
cause_of_refusal Accepted r = absurd r
cause_of_refusal other r = refl

module _ (a : RationalMatrix) (v : Verdict) where
  answer_by : (o : Option Checked) (c : Checked) → ((r : Checked) → o ≡ Some r → IsRefusal r) → first_refusal (checks a v) ≡ o → c ≡ answer_of o
      → (c ≡ Accepted → IsRight a v)
      → IsVerdictAnswer a v (ending (checked_cause c)) (checked_text c)
  answer_by None c are first e right =
      subst (λ (k : Checked). IsVerdictAnswer a v (ending (checked_cause k)) (checked_text k)) (sym e)
      (inr (record { due = (first, refl); right = right e; written = refl }))
  answer_by (Some d) c are first e right =
      subst (λ (k : Checked). IsVerdictAnswer a v (ending (checked_cause k)) (checked_text k)) (sym e)
      (subst (λ (cause : Cause). IsVerdictAnswer a v (ending cause) (checked_text d)) (sym (cause_of_refusal d (are d refl)))
      (inl (record { due = record { refusal = d; first = first; ended = refl }; refuses = are d refl; written = refl })))

  pub verdict_answer : (c : Checked) → c ≡ answer_of (first_refusal (checks a v)) → (c ≡ Accepted → IsRight a v)
      → IsVerdictAnswer a v (ending (checked_cause c)) (checked_text c)
  verdict_answer c e right = answer_by (first_refusal (checks a v)) c (λ r first. refusal_is (checks a v) r (all_refuse a v) first) refl e right
