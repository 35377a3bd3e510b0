-- From one layer's answers to the next, and that one ending alone is due.
use Rattle.std.specs.Prelude.{◌≡◌, ℕ, Bool, ℤ, pos, ◌≤ℤ◌, nat_abs, List, Option, None, Some, Ok}
use Rattle.std.proofs.Common.{refl, sym, ap, ◌∙◌, subst, inl, inr}
use Rattle.symmetric_matrix.specs.Owed.{answer}
use Rattle.symmetric_matrix.specs.Symmetric.{Symmetric, entry}
use Rattle.symmetric_matrix.proofs.Owed.{none_of_ok}
use Rattle.matrix_text.specs.Matrix.{MatrixText, MatrixFault}
use Rattle.matrix_text.specs.Clearing.{PlacedOp, is_placed_owed, clear_ops, cleared_of, IsCleared}
use Rattle.matrix_text.specs.RationalMatrix.{RationalMatrix}
use Rattle.matrix_text.specs.declared.fault.TextFault.{TextFault}
use Rattle.unimodular_cone.specs.declared.Mode.{Mode}
use Rattle.unimodular_cone.specs.Answer.{SearchAnswer, BoundWide, Wide, Low, Depth, Copositive, Found}
use Rattle.unimodular_cone.proofs.AnswerUnique.{answer_unique}
use Rattle.cpfactor_top.specs.declared.ended.Ended.{Ended}
use Rattle.cpfactor_top.specs.declared.ended.Cause.TheVariants as cause
use Rattle.perfect_walk.specs.declared.journal.Owed.TheVariants.{Clear}
use Rattle.perfect_walk.specs.declared.journal.Limits.{Limits}
use Rattle.perfect_walk.specs.declared.journal.Journal.{Journal}
use Rattle.perfect_walk.specs.declared.journal.End.{End}
use Rattle.perfect_walk.specs.declared.journal.End.TheVariants as end
use Rattle.perfect_walk.specs.Theorems.{IsSameWalk}
use Rattle.perfect_walk.proofs.OneWalk.{one_walk}
use Rattle.walk_verdict.specs.Verdicts.{task_of}
use Rattle.cpfactor_top.specs.Causes.{ending_with, ending, HasStatus}
use Rattle.matrix_text.specs.Quotients.{whole_of, IsClearable, IsQuotient}
use Rattle.cpfactor_top.specs.Given.{IsClearRefused}
use Rattle.cpfactor_top.specs.Solving.{no_visit, ending_by, ending_of, IsWalkDue, IsSolveDue, IsSolved}
use Rattle.cpfactor_top.specs.Searching.{search_ending, IsFoundDue, IsFound, IsSearchDue, IsSearched}
use Rattle.cpfactor_top.specs.Answers.{IsBytesDue, IsBytesAnswer}

-- ---- what a command answers of a matrix: each answer is due, one ending alone is, and its status goes with its cause
pub record IsQuestion (answers : RationalMatrix → Ended → List ℕ → Type 0) (due : RationalMatrix → Ended → Type 0) : Type 0 where
  pub is_due : (a : RationalMatrix) (e : Ended) (text : List ℕ) → answers a e text → due a e
  pub once : (a : RationalMatrix) (e f : Ended) → due a e → due a f → e ≡ f
  pub status : (a : RationalMatrix) (e : Ended) → due a e → HasStatus e

-- ---- clearing
refused_once : (journal : Option Journal) (a : RationalMatrix) (e f : Ended) → IsClearRefused journal a e → IsClearRefused journal a f → e ≡ f
refused_once journal a e f h k =
    let one : Some h.op ≡ Some k.op = sym h.first ∙ k.first in
    h.ended ∙ ap (λ (p : PlacedOp). ending_with journal (cause.Overflow (Clear p.row p.column p.op))) (let same : h.op ≡ k.op = cc in same) ∙ sym k.ended

clearable_not_refused : (journal : Option Journal) (a : RationalMatrix) (e : Ended) → IsClearable a → IsClearRefused journal a e → ⊥
clearable_not_refused journal a e none h = absurd (let some = h.first in cc)

-- ---- solve
walk_once : (limits : Limits) (a : RationalMatrix) (e f : Ended) → IsWalkDue limits a e → IsWalkDue limits a f → e ≡ f
walk_once limits a e f h k = by (one_walk (task_of a limits.depth) limits.pivots h.walked h.walk k.walked k.walk)
  where
    by : IsSameWalk h.walked k.walked → e ≡ f
    by (inl same) = h.ended ∙ ap (ending_of limits.pivots) same ∙ sym k.ended
    by (inr (inl memory)) = absurd (h.in_memory memory)
    by (inr (inr memory)) = absurd (k.in_memory memory)

solve_once : (limits : Limits) (a : RationalMatrix) (e f : Ended) → IsSolveDue limits a e → IsSolveDue limits a f → e ≡ f
solve_once limits a e f (inl h) (inl k) = refused_once (Some no_visit) a e f h k
solve_once limits a e f (inl h) (inr k) = absurd (clearable_not_refused (Some no_visit) a e k.clearable h)
solve_once limits a e f (inr h) (inl k) = absurd (clearable_not_refused (Some no_visit) a f h.clearable k)
solve_once limits a e f (inr h) (inr k) = walk_once limits a e f h k

solve_is_due : (traced : Bool) (limits : Limits) (a : RationalMatrix) (e : Ended) (text : List ℕ) → IsSolved traced limits a e text → IsSolveDue limits a e
solve_is_due traced limits a e text (inl h) = inl h.0
solve_is_due traced limits a e text (inr h) = inr h.due

end_status : (limit : ℕ) (journal : Journal) (e : End) → HasStatus (ending_by limit journal e)
end_status limit journal (end.Factored terms) = inl refl
end_status limit journal (end.Separated w value) = inr (refl, refl)
end_status limit journal (end.Depth path) = inl refl
end_status limit journal end.Pivots = inl refl
end_status limit journal (end.Overflow owed) = inl refl
end_status limit journal end.OutOfMemory = inl refl

solve_status : (limits : Limits) (a : RationalMatrix) (e : Ended) → IsSolveDue limits a e → HasStatus e
solve_status limits a e (inl h) = subst HasStatus (sym h.ended) (inl refl)
solve_status limits a e (inr h) = subst HasStatus (sym h.ended) (end_status limits.pivots h.walked.journal h.walked.end)

pub solving : (traced : Bool) (limits : Limits) → IsQuestion (IsSolved traced limits) (IsSolveDue limits)
solving traced limits = record { is_due = solve_is_due traced limits; once = solve_once limits; status = solve_status limits }

-- ---- minimum and copositive
found_once : (m : Mode) (depth : ℕ) (s : Symmetric) (e f : Ended) → IsFoundDue m depth s e → IsFoundDue m depth s f → e ≡ f
found_once m depth s e f h k = h.ended ∙ ap search_ending (answer_unique m s.size (entry s) depth h.answer k.answer h.is_answer k.is_answer) ∙ sym k.ended

search_due_once : (m : Mode) (depth : ℕ) (a : RationalMatrix) (e f : Ended) → IsSearchDue m depth a e → IsSearchDue m depth a f → e ≡ f
search_due_once m depth a e f (inl h) (inl k) = refused_once None a e f h k
search_due_once m depth a e f (inl h) (inr (none, k)) = absurd (clearable_not_refused None a e none h)
search_due_once m depth a e f (inr (none, h)) (inl k) = absurd (clearable_not_refused None a f none k)
search_due_once m depth a e f (inr (none, h)) (inr (none', k)) = found_once m depth (whole_of a) e f h k

answer_status : (answer : SearchAnswer) → HasStatus (search_ending answer)
answer_status (Found m vectors) = inl refl
answer_status Copositive = inl refl
answer_status (Low x z path) = inr (refl, refl)
answer_status (BoundWide z) = inl refl
answer_status (Wide path at) = inl refl
answer_status (Depth path) = inl refl

search_status : (m : Mode) (depth : ℕ) (a : RationalMatrix) (e : Ended) → IsSearchDue m depth a e → HasStatus e
search_status m depth a e (inl h) = subst HasStatus (sym h.ended) (inl refl)
search_status m depth a e (inr (none, h)) = subst HasStatus (sym h.ended) (answer_status h.answer)

search_is_due : (m : Mode) (depth : ℕ) (a : RationalMatrix) (e : Ended) (text : List ℕ) → IsSearched m depth a e text → IsSearchDue m depth a e
search_is_due m depth a e text (inl h) = inl h.0
search_is_due m depth a e text (inr (none, quotient, h)) = inr (none, h.found)

pub searching : (m : Mode) (depth : ℕ) → IsQuestion (IsSearched m depth) (IsSearchDue m depth)
searching m depth = record { is_due = search_is_due m depth; once = search_due_once m depth; status = search_status m depth }

pub quotient_of : (a : RationalMatrix) (s : Symmetric) (d : ℤ) → cleared_of a ≡ (s, d) → pos 1 ≤ℤ d → IsCleared a s (nat_abs d) → IsQuotient a
quotient_of a s d e positive is =
    record {
      positive = subst (λ (p : Symmetric × ℤ). pos 1 ≤ℤ p.1) (sym e) positive;
      cleared = subst (λ (p : Symmetric × ℤ). IsCleared a p.0 (nat_abs p.1)) (sym e) is;
    }

pub found_follows : (m : Mode) (depth : ℕ) (a : RationalMatrix) (s : Symmetric) (d : ℤ) → answer is_placed_owed (clear_ops a) (cleared_of a) ≡ Ok (s, d)
    → pos 1 ≤ℤ d → IsCleared a s (nat_abs d) → (e : Ended) (text : List ℕ) → IsFound m depth s d e text → IsSearched m depth a e text
found_follows m depth a s d cleared positive is e text h =
    let clear = none_of_ok is_placed_owed (clear_ops a) (cleared_of a) (s, d) cleared in
    inr (clear.0, quotient_of a s d clear.1 positive is, subst (λ (p : Symmetric × ℤ). IsFound m depth p.0 p.1 e text) (sym clear.1) h)

-- ---- bytes
pub one_matrix : (bytes : List ℕ) (a b : RationalMatrix) → MatrixText bytes a → MatrixText bytes b → a ≡ b
unfolding MatrixText
one_matrix bytes a b h k = cc

pub one_fault : (bytes : List ℕ) (f g : TextFault) → MatrixFault bytes f.kind f.line → MatrixFault bytes g.kind g.line → f ≡ g
unfolding MatrixFault
one_fault bytes f g h k = cc

pub text_or_fault : (bytes : List ℕ) (a : RationalMatrix) (f : TextFault) → MatrixText bytes a → MatrixFault bytes f.kind f.line → ⊥
unfolding MatrixText MatrixFault
text_or_fault bytes a f h k = absurd cc

module _ (answers : RationalMatrix → Ended → List ℕ → Type 0) (due : RationalMatrix → Ended → Type 0) (Q : IsQuestion answers due) where
  pub bytes_is_due : (bytes : List ℕ) (e : Ended) (text : List ℕ) → IsBytesAnswer answers bytes e text → IsBytesDue due bytes e
  bytes_is_due bytes e text (inl h) = inl h.0
  bytes_is_due bytes e text (inr (a, is, h)) = inr (a, is, Q.is_due a e text h)

  pub bytes_due_once : (bytes : List ℕ) (e f : Ended) → IsBytesDue due bytes e → IsBytesDue due bytes f → e ≡ f
  bytes_due_once bytes e f (inl (fault, is, ended)) (inl (fault', is', ended')) = ended
      ∙ ap (λ (t : TextFault). ending (cause.MatrixFault t)) (one_fault bytes fault fault' is is') ∙ sym ended'
  bytes_due_once bytes e f (inl (fault, is, ended)) (inr (a, text, h)) = absurd (text_or_fault bytes a fault text is)
  bytes_due_once bytes e f (inr (a, text, h)) (inl (fault, is, ended)) = absurd (text_or_fault bytes a fault text is)
  bytes_due_once bytes e f (inr (a, is, h)) (inr (b, is', k)) = Q.once b e f (subst (λ (m : RationalMatrix). due m e) (one_matrix bytes a b is is') h) k

  pub bytes_status : (bytes : List ℕ) (e : Ended) → IsBytesDue due bytes e → HasStatus e
  bytes_status bytes e (inl (fault, is, ended)) = subst HasStatus (sym ended) (inl refl)
  bytes_status bytes e (inr (a, is, h)) = Q.status a e h
