-- Answers for words, and that one ending alone is due.
use Rattle.std.specs.Prelude.{◌≡◌, ◌≢◌, ◌⊎◌, ℕ, List, [], ◌∷◌, Option, Some, None}
use Rattle.std.specs.List.{All}
use Rattle.std.proofs.lemmas.List.Elements.{All-head, All-tail}
use Rattle.std.proofs.Common.{refl, sym, ap, ◌∙◌, subst, inl, inr}
use Rattle.matrix_text.specs.RationalMatrix.{RationalMatrix}
use Rattle.matrix_text.specs.declared.fault.TextFault.{TextFault}
use Rattle.unimodular_cone.specs.declared.Mode.{Mode}
use Rattle.cpfactor_lines.specs.Commands.{Request, Solve, Check, Minimum, Copositive, Sample, IsCommandLine, IsUsageAt}
use Rattle.cpfactor_lines.specs.Sinks.{SinkShown}
use Rattle.cpfactor_top.specs.declared.ended.Ended.{Ended}
use Rattle.cpfactor_top.specs.declared.ended.Cause.TheVariants.{Usage, MatrixFault, ReadFault, WriteFault, Memory}
use Rattle.cpfactor_top.specs.Causes.{ending, EndsWith, HasStatus}
use Rattle.cpfactor_top.specs.Outcomes.{EndsBy}
use Rattle.cpfactor_top.specs.Files.{FileShown, matrix_file, IsFileAnswer}
use Rattle.cpfactor_top.specs.Checking.{proof_file, IsProofAnswer, IsProofDue}
use Rattle.cpfactor_top.specs.Solving.{IsSolved, IsSolveDue}
use Rattle.cpfactor_top.specs.Searching.{IsSearched, IsSearchDue}
use Rattle.cpfactor_top.specs.Sampling.{IsSampled, IsSampleDue}
use Rattle.cpfactor_top.specs.Answers.{file_of, files_of, answers_of_matrix, due_of_matrix, IsGivenAnswer, IsGivenDue, answers_of, due_of, IsAnswer}
use Rattle.cpfactor_top.specs.Answers.{IsRequestDue, IsBytesAnswer, IsBytesDue, YieldsTo, YieldsToReading}
use Rattle.cpfactor_top.proofs.AnswerLaws.{IsQuestion, solving, searching, one_matrix, one_fault, text_or_fault}
use Rattle.cpfactor_top.proofs.FileLaws.{Encloses, IsSettled, file_settled, file_enclosed, file_follows}
use Rattle.cpfactor_top.proofs.CheckLaws.{proof_settled}
use Rattle.cpfactor_top.proofs.SampleLaws.{sampling, sample_settled}
use Rattle.cpfactor_top.proofs.OutcomeLaws.{ends_yield}

-- a request's own file is among its files
same_name : (file own : List ℕ) → Some file ≡ Some own → file ≡ own
same_name file own is = cc

own_file : (file : List ℕ) (more : List (List ℕ)) (name own : List ℕ) → Some file ≡ Some own → All (λ f. name ≢ f) (file ∷ more) → name ≢ own
own_file file more name own is all = subst (λ (f : List ℕ). name ≢ f) (same_name file own is) (All-head (λ (f : List ℕ). name ≢ f) file more all)

no_name : (own : List ℕ) → None ≡ Some own → ⊥
no_name own is = absurd cc

pub file_among : (r : Request) (name own : List ℕ) → file_of r ≡ Some own → All (λ file. name ≢ file) (files_of r) → name ≢ own
file_among (Solve file limits workers traced) name own is all = own_file file [] name own is all
file_among (Check file proof) name own is all = own_file file (proof ∷ []) name own is all
file_among (Minimum file depth workers) name own is all = own_file file [] name own is all
file_among (Copositive file depth workers) name own is all = own_file file [] name own is all
file_among (Sample n k first workers) name own is all = absurd (no_name own is)

-- and so is the proof of a request to check
pub proof_among : (file proof name : List ℕ) → All (λ f. name ≢ f) (files_of (Check file proof)) → name ≢ proof
proof_among file proof name all = All-head (λ (f : List ℕ). name ≢ f) proof [] (All-tail (λ (f : List ℕ). name ≢ f) file (proof ∷ []) all)

question_settled : (answers : RationalMatrix → Ended → List ℕ → Type 0) (due : RationalMatrix → Ended → Type 0) → IsQuestion answers due → (a : RationalMatrix)
    → IsSettled (answers a) (due a)
question_settled answers due Q a = record {
  given = λ e g text d h. inr (Q.once a g e (Q.is_due a g text h) d);
  status = λ e text h. Q.status a e (Q.is_due a e text h);
}

module _ (answers : RationalMatrix → Ended → List ℕ → Type 0) (due : RationalMatrix → Ended → Type 0) (settled : (a : RationalMatrix)
    → IsSettled (answers a) (due a)) (bytes : List ℕ) where
  bytes_given : (e g : Ended) (text : List ℕ) → IsBytesDue due bytes e → IsBytesAnswer answers bytes g text → EndsWith ReadFault g ⊎ (g ≡ e)
  bytes_given e g text (inl (fault, is, ended)) (inl ((other, is', ended'), written)) =
      inr (ended' ∙ ap (λ (t : TextFault). ending (MatrixFault t)) (one_fault bytes other fault is' is) ∙ sym ended)
  bytes_given e g text (inl (fault, is, ended)) (inr (a, is_text, h)) = absurd (text_or_fault bytes a fault is_text is)
  bytes_given e g text (inr (a, is_text, d)) (inl ((fault, is, ended), written)) = absurd (text_or_fault bytes a fault is_text is)
  bytes_given e g text (inr (a, is, d)) (inr (b, is', h)) =
      (settled a).given e g text d (subst (λ (m : RationalMatrix). answers m g text) (one_matrix bytes b a is' is) h)

  bytes_have_status : (e : Ended) (text : List ℕ) → IsBytesAnswer answers bytes e text → HasStatus e
  bytes_have_status e text (inl ((fault, is, ended), written)) = subst HasStatus (sym ended) (inl refl)
  bytes_have_status e text (inr (a, is, h)) = (settled a).status e text h

  bytes_settled : IsSettled (IsBytesAnswer answers bytes) (IsBytesDue due bytes)
  bytes_settled = record { given = bytes_given; status = bytes_have_status }

module _ (files : List ℕ → FileShown) (told : List ℕ → Option (List ℕ)) (same : (name : List ℕ) → (files name).told ≡ told name) where
  matrix_settled : (r : Request) (a : RationalMatrix) → IsSettled (answers_of_matrix files r a) (due_of_matrix told r a)
  matrix_settled (Solve file limits workers traced) a = question_settled (IsSolved traced limits) (IsSolveDue limits) (solving traced limits) a
  matrix_settled (Check file proof) a = file_settled proof_file (IsProofAnswer a) (IsProofDue a) (proof_settled a) (files proof) (told proof) (same proof)
  matrix_settled (Minimum file depth workers) a = question_settled (IsSearched Mode.Least depth) (IsSearchDue Mode.Least depth) (searching Mode.Least depth) a
  matrix_settled (Sample n k first workers) a = question_settled (IsSampled n k first) (IsSampleDue n k first) (sampling n k first) a
  matrix_settled (Copositive file depth workers) a = question_settled (IsSearched Mode.Sign depth) (IsSearchDue Mode.Sign depth) (searching Mode.Sign depth) a

  file_request_settled : (file : List ℕ) (r : Request)
      → IsSettled (IsGivenAnswer (Some file) (answers_of_matrix files r) files) (IsGivenDue (Some file) (due_of_matrix told r) told)
  file_request_settled file r =
      file_settled matrix_file (IsBytesAnswer (answers_of_matrix files r)) (IsBytesDue (due_of_matrix told r))
      (bytes_settled (answers_of_matrix files r) (due_of_matrix told r) (matrix_settled r)) (files file) (told file) (same file)

  pub request_settled : (r : Request) → IsSettled (answers_of r files) (due_of r told)
  request_settled (Solve file limits workers traced) = file_request_settled file (Solve file limits workers traced)
  request_settled (Check file proof) = file_request_settled file (Check file proof)
  request_settled (Minimum file depth workers) = file_request_settled file (Minimum file depth workers)
  request_settled (Copositive file depth workers) = file_request_settled file (Copositive file depth workers)
  request_settled (Sample n k first workers) = sample_settled n k first

-- ---- answers over a part of the calls hold over all of them
module _ (files part : List ℕ → FileShown) (all : (name : List ℕ) → Encloses (files name) (part name)) where
  matrix_enclosed : (r : Request) (a : RationalMatrix) (e : Ended) (text : List ℕ) → answers_of_matrix part r a e text → answers_of_matrix files r a e text
  matrix_enclosed (Solve file limits workers traced) a e text h = h
  matrix_enclosed (Check file proof) a e text h = file_enclosed proof_file (IsProofAnswer a) (files proof) (part proof) (all proof) e text h
  matrix_enclosed (Minimum file depth workers) a e text h = h
  matrix_enclosed (Copositive file depth workers) a e text h = h
  matrix_enclosed (Sample n k first workers) a e text h = h

  bytes_enclosed : (r : Request) (bytes : List ℕ) (e : Ended) (text : List ℕ) → IsBytesAnswer (answers_of_matrix part r) bytes e text
      → IsBytesAnswer (answers_of_matrix files r) bytes e text
  bytes_enclosed r bytes e text (inl fault) = inl fault
  bytes_enclosed r bytes e text (inr (a, is, h)) = inr (a, is, matrix_enclosed r a e text h)

  pub request_enclosed : (r : Request) (file : List ℕ) → file_of r ≡ Some file → (read : FileShown) → Encloses (files file) read → (e : Ended) (text : List ℕ)
      → IsFileAnswer matrix_file (IsBytesAnswer (answers_of_matrix part r)) read e text → answers_of r files e text
  request_enclosed r file named read more e text h =
      subst (λ (own : Option (List ℕ)). IsGivenAnswer own (answers_of_matrix files r) files e text) (sym named)
      (file_follows matrix_file (IsBytesAnswer (answers_of_matrix part r)) (IsBytesAnswer (answers_of_matrix files r)) (files file) (bytes_enclosed r) e text
      (file_enclosed matrix_file (IsBytesAnswer (answers_of_matrix part r)) (files file) read more e text h))

-- ---- words
pub one_request : (words : List (List ℕ)) (r s : Request) → IsCommandLine words r → IsCommandLine words s → r ≡ s
one_request words r s h k = cc

pub not_both : (words : List (List ℕ)) (r : Request) (position : ℕ) → IsCommandLine words r → IsUsageAt words position → ⊥
not_both words r position h k = absurd cc

pub one_position : (words : List (List ℕ)) (p q : ℕ) → IsUsageAt words p → IsUsageAt words q → p ≡ q
one_position words p q h k = cc

module _ (words : List (List ℕ)) (files : List ℕ → FileShown) where
  pub words_status : (e : Ended) (text : List ℕ) → IsAnswer words files e text → HasStatus e
  words_status e text (inl ((position, is, ended), written)) = subst HasStatus (sym ended) (inl refl)
  words_status e text (inr (request, is, h)) = (request_settled files (λ name. (files name).told) (λ name. refl) request).status e text h

  -- an ending that is due is given, unless a file could not be read, the sink failed or memory was wanting
  pub words_yield : (told : List ℕ → Option (List ℕ)) (shown : SinkShown) (given e : Ended) → ((name : List ℕ) → (files name).told ≡ told name)
      → EndsBy (IsAnswer words files) shown given → IsRequestDue words told e → YieldsToReading e given
  words_yield told shown given e same (inr (inl f)) d = inr (inr (inl (subst (EndsWith WriteFault) (sym f.fault) (refl, refl))))
  words_yield told shown given e same (inr (inr (inl m))) d = inr (inr (inr (subst (EndsWith Memory) (sym m.memory) (refl, refl))))
  words_yield told shown given e same (inr (inr (inr m))) d = inr (inr (inr (subst (EndsWith Memory) (sym m.memory) (refl, refl))))
  words_yield told shown given e same (inl g) (asked, is_asked, due) = by g.answer
    where
      first : (EndsWith ReadFault given ⊎ (given ≡ e)) → YieldsToReading e given
      first (inl unread) = inl unread
      first (inr is) = inr (inl is)

      by : IsAnswer words files given g.text → YieldsToReading e given
      by (inl ((position, is, ended), written)) = absurd (not_both words asked position is_asked is)
      by (inr (request, is, h)) =
          first ((request_settled files told same asked).given e given g.text due
          (subst (λ (r : Request). answers_of r files given g.text) (one_request words request asked is is_asked) h))

  pub usage_yields : (shown : SinkShown) (given : Ended) (position : ℕ) → IsUsageAt words position → EndsBy (IsAnswer words files) shown given
      → YieldsTo (ending (Usage position)) given
  usage_yields shown given position at ends = ends_yield (IsAnswer words files) shown (ending (Usage position)) given by ends
    where
      by : (text : List ℕ) → IsAnswer words files given text → given ≡ ending (Usage position)
      by text (inl ((other, is, ended), written)) = ended ∙ ap (λ (p : ℕ). ending (Usage p)) (one_position words other position is at)
      by text (inr (request, is, h)) = absurd (not_both words request position is at)
