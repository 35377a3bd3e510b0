-- Answers of `check` alone for words.
use Rattle.std.specs.Prelude.{◌≡◌, ℕ, List, Option}
use Rattle.std.proofs.Common.{refl, sym, ap, ◌∙◌, subst, inl, inr}
use Rattle.certificate_checker.specs.declared.checked.Checked.{Checked}
use Rattle.certificate_checker.specs.Checks.{IsRefusal}
use Rattle.cpfactor_lines.specs.Commands.{Request, Check, IsCommandLine}
use Rattle.cpfactor_lines.specs.Sinks.{SinkShown}
use Rattle.matrix_text.specs.RationalMatrix.{RationalMatrix}
use Rattle.matrix_text.specs.declared.fault.TextFault.{TextFault}
use Rattle.cone_tree_certificate.specs.declared.fault.VerdictFault.{VerdictFault}
use Rattle.cpfactor_top.specs.declared.ended.Ended.{Ended}
use Rattle.cpfactor_top.specs.declared.ended.Cause.{Cause}
use Rattle.cpfactor_top.specs.declared.ended.Cause.TheVariants.{Fine, Usage, TooLong, MatrixFault, ProofFault, Proof, ReadFault, WriteFault, Memory}
use Rattle.cpfactor_top.specs.Causes.{ending, HasStatus}
use Rattle.cpfactor_top.specs.Outcomes.{EndsBy, IsOnly}
use Rattle.cpfactor_lines.specs.Texts.{usage_text}
use Rattle.cpfactor_top.specs.Files.{FileKind, FileShown, matrix_file, IsFileAnswer}
use Rattle.cpfactor_top.specs.Checking.{proof_file, IsProofAnswer}
use Rattle.cpfactor_top.specs.Answers.{IsBytesAnswer, IsAnswer, IsOther, IsCheckUsageAt, IsCheckAnswer, IsCheckDue, YieldsTo, YieldsToReading}
use Rattle.cpfactor_top.proofs.OutcomeLaws.{ends_by_follows, ends_by_only, ends_yield}
use Rattle.cpfactor_top.proofs.RequestLaws.{request_settled, words_yield, one_request, not_both, one_position}

-- ---- words
no_check_usage : (words : List (List ℕ)) (file proof : List ℕ) (position : ℕ) → IsCommandLine words (Check file proof) → IsCheckUsageAt words position → ⊥
no_check_usage words file proof position asked (inl at) = not_both words (Check file proof) position asked at
no_check_usage words file proof position asked (inr ((r, is, other), first)) = subst IsOther (one_request words r (Check file proof) is asked) other

one_check_position : (words : List (List ℕ)) (p q : ℕ) → IsCheckUsageAt words p → IsCheckUsageAt words q → p ≡ q
one_check_position words p q (inl h) (inl k) = one_position words p q h k
one_check_position words p q (inl h) (inr ((r, is, other), first)) = absurd (not_both words r p is h)
one_check_position words p q (inr ((r, is, other), first)) (inl k) = absurd (not_both words r q is k)
one_check_position words p q (inr (h, first)) (inr (k, first')) = first ∙ sym first'

module _ (words : List (List ℕ)) (files : List ℕ → FileShown) where
  pub check_is_answer : (file proof : List ℕ) → IsCommandLine words (Check file proof) → (e : Ended) (text : List ℕ) → IsCheckAnswer words files e text
      → IsAnswer words files e text
  check_is_answer file proof asked e text (inl ((position, at, ended), written)) = absurd (no_check_usage words file proof position asked at)
  check_is_answer file proof asked e text (inr (f, p, is, h)) = inr (Check f p, is, h)

  pub other_refused : (r : Request) → IsCommandLine words r → IsOther r → (shown : SinkShown) (given : Ended)
      → EndsBy (IsOnly (ending (Usage 1)) (usage_text 1)) shown given → EndsBy (IsCheckAnswer words files) shown given
  other_refused r is other shown given ends =
      ends_by_only (IsCheckAnswer words files) (ending (Usage 1)) (usage_text 1) shown given (inl ((1, inr ((r, is, other), refl), refl), refl)) ends

  pub check_status : (e : Ended) (text : List ℕ) → IsCheckAnswer words files e text → HasStatus e
  check_status e text (inl ((position, at, ended), written)) = subst HasStatus (sym ended) (inl refl)
  check_status e text (inr (f, p, is, h)) = (request_settled files (λ name. (files name).told) (λ name. refl) (Check f p)).status e text h

  pub check_usage_yields : (shown : SinkShown) (given : Ended) (position : ℕ) → IsCheckUsageAt words position → EndsBy (IsCheckAnswer words files) shown given
      → YieldsTo (ending (Usage position)) given
  check_usage_yields shown given position at ends = ends_yield (IsCheckAnswer words files) shown (ending (Usage position)) given by ends
    where
      by : (text : List ℕ) → IsCheckAnswer words files given text → given ≡ ending (Usage position)
      by text (inl ((other, at', ended), written)) = ended ∙ ap (λ (p : ℕ). ending (Usage p)) (one_check_position words other position at' at)
      by text (inr (f, p, is, h)) = absurd (no_check_usage words f p position is at)

  pub check_yields : (told : List ℕ → Option (List ℕ)) (shown : SinkShown) (given e : Ended) → ((name : List ℕ) → (files name).told ≡ told name)
      → EndsBy (IsCheckAnswer words files) shown given → IsCheckDue words told e → YieldsToReading e given
  check_yields told shown given e same ends (file, proof, asked, due) =
      words_yield words files told shown given e same
      (ends_by_follows (IsCheckAnswer words files) (IsAnswer words files) shown (check_is_answer file proof asked) given ends) (
        Check file proof,
        asked,
        due,
      )

-- ---- what the checker is told to refuse
fine_other : (c : Checked) → Fine ≡ Proof c → ⊥
fine_other c e = absurd cc

usage_other : (p : ℕ) (c : Checked) → Usage p ≡ Proof c → ⊥
usage_other p c e = absurd cc

long_other : (c : Checked) → TooLong ≡ Proof c → ⊥
long_other c e = absurd cc

matrix_other : (f : TextFault) (c : Checked) → MatrixFault f ≡ Proof c → ⊥
matrix_other f c e = absurd cc

proof_other : (f : VerdictFault) (c : Checked) → ProofFault f ≡ Proof c → ⊥
proof_other f c e = absurd cc

read_other : (c : Checked) → ReadFault ≡ Proof c → ⊥
read_other c e = absurd cc

write_other : (c : Checked) → WriteFault ≡ Proof c → ⊥
write_other c e = absurd cc

memory_other : (c : Checked) → Memory ≡ Proof c → ⊥
memory_other c e = absurd cc

same_check : (c d : Checked) → Proof c ≡ Proof d → c ≡ d
same_check c d e = cc

module _ (checked : Checked) where
  by_other : (cause : Cause) (e : Ended) → e ≡ ending cause → (cause ≡ Proof checked → ⊥) → e.cause ≡ Proof checked → IsRefusal checked
  by_other cause e is other same = absurd (other (sym (ap (λ (x : Ended). x.cause) is) ∙ same))

  file_refusal : (kind : FileKind) (answers : List ℕ → Ended → List ℕ → Type 0)
      → ((bytes : List ℕ) (e : Ended) (text : List ℕ) → answers bytes e text → e.cause ≡ Proof checked → IsRefusal checked)
      → (file : FileShown) (e : Ended) (text : List ℕ) → IsFileAnswer kind answers file e text → e.cause ≡ Proof checked → IsRefusal checked
  file_refusal kind answers given file e text (inl (bytes, read, h)) same = given bytes e text h same
  file_refusal kind answers given file e text (inr (inl long)) same = by_other TooLong e long.ended (long_other checked) same
  file_refusal kind answers given file e text (inr (inr ((rose, ended), written))) same = by_other ReadFault e ended (read_other checked) same

  proof_refusal : (a : RationalMatrix) (bytes : List ℕ) (e : Ended) (text : List ℕ) → IsProofAnswer a bytes e text → e.cause ≡ Proof checked → IsRefusal checked
  proof_refusal a bytes e text (inl ((fault, is, ended), written)) same = by_other (ProofFault fault) e ended (proof_other fault checked) same
  proof_refusal a bytes e text (inr (v, is, inl h)) same =
      subst IsRefusal (same_check h.due.refusal checked (sym (ap (λ (x : Ended). x.cause) h.due.ended) ∙ same)) h.refuses
  proof_refusal a bytes e text (inr (v, is, inr h)) same = by_other Fine e h.due.1 (fine_other checked) same

  matrix_refusal : (proof : FileShown) (bytes : List ℕ) (e : Ended) (text : List ℕ)
      → IsBytesAnswer (λ a. IsFileAnswer proof_file (IsProofAnswer a) proof) bytes e text → e.cause ≡ Proof checked → IsRefusal checked
  matrix_refusal proof bytes e text (inl ((fault, is, ended), written)) same = by_other (MatrixFault fault) e ended (matrix_other fault checked) same
  matrix_refusal proof bytes e text (inr (a, is, h)) same = file_refusal proof_file (IsProofAnswer a) (proof_refusal a) proof e text h same

  answer_refusal : (words : List (List ℕ)) (files : List ℕ → FileShown) (e : Ended) (text : List ℕ) → IsCheckAnswer words files e text → e.cause ≡ Proof checked
      → IsRefusal checked
  answer_refusal words files e text (inl ((position, at, ended), written)) same = by_other (Usage position) e ended (usage_other position checked) same
  answer_refusal words files e text (inr (f, p, is, h)) same =
      file_refusal matrix_file (IsBytesAnswer (λ a. IsFileAnswer proof_file (IsProofAnswer a) (files p))) (matrix_refusal (files p)) (files f) e text h same

  pub check_refusal : (words : List (List ℕ)) (files : List ℕ → FileShown) (shown : SinkShown) (given : Ended) → EndsBy (IsCheckAnswer words files) shown given
      → given.cause ≡ Proof checked → IsRefusal checked
  check_refusal words files shown given (inl g) same = answer_refusal words files given g.text g.answer same
  check_refusal words files shown given (inr (inl f)) same = absurd (write_other checked (sym (ap (λ (e : Ended). e.cause) f.fault) ∙ same))
  check_refusal words files shown given (inr (inr (inl m))) same = absurd (memory_other checked (sym (ap (λ (e : Ended). e.cause) m.memory) ∙ same))
  check_refusal words files shown given (inr (inr (inr m))) same = absurd (memory_other checked (sym (ap (λ (e : Ended). e.cause) m.memory) ∙ same))
