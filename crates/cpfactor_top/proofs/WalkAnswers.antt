-- What `solve` answers, from the walk of S/d.
use Rattle.std.specs.Prelude.{◌≡◌, ℕ, Bool, ℤ, pos, ◌≤ℤ◌, nat_abs, List, Result, Ok, Err, IfOk, OnOk}
use Rattle.std.specs.List.{All}
use Rattle.std.proofs.Common.{refl, sym, subst, inl, inr}
use Rattle.exact_forms.specs.Factors.{WeightedVector}
use Rattle.exact_forms.proofs.Factors.{separated_not_factored}
use Rattle.symmetric_matrix.specs.Owed.{answer}
use Rattle.symmetric_matrix.specs.Symmetric.{Symmetric, entry}
use Rattle.symmetric_matrix.proofs.Owed.{none_of_ok}
use Rattle.matrix_text.specs.Clearing.{is_placed_owed, clear_ops, cleared_of, IsCleared}
use Rattle.matrix_text.specs.RationalMatrix.{RationalMatrix, rational_entry}
use Rattle.matrix_text.specs.Quotients.{IsClearable}
use Rattle.cone_tree_certificate.specs.declared.verdict.Verdict.TheVariants.{Factors}
use Rattle.cone_tree_certificate.specs.VerdictText.{verdict_text, written_terms}
use Rattle.cpfactor_lines.specs.Lines.{line}
use Rattle.cpfactor_lines.specs.Texts.{term_line, factorization_text}
use Rattle.perfect_walk.specs.declared.journal.Limits.{Limits}
use Rattle.perfect_walk.specs.declared.journal.End.{End}
use Rattle.perfect_walk.specs.declared.journal.End.TheVariants as end
use Rattle.perfect_walk.specs.declared.journal.Walked.{Walked}
use Rattle.perfect_walk.specs.Ends.{IsWalkedTo, IsUnstarted, IsWalked}
use Rattle.perfect_walk.specs.Parts.{task, IsHeld}
use Rattle.walk_verdict.specs.Verdicts.{task_of, IsVerdictRight}
use Rattle.walk_verdict.proofs.Verdicts.{verdict_is_right}
use Rattle.cpfactor_top.specs.declared.ended.Ended.{Ended}
use Rattle.cpfactor_top.specs.Solving.{IsEndText, Excludes, IsWalkAnswer}
use Rattle.cpfactor_top.specs.WalkTexts.{HasTree, IsWalkTold}
use Rattle.cpfactor_top.proofs.AnswerLaws.{quotient_of}

-- ---- what was made or appended
pub if_ok_follows : {A E : Type 0} (P Q R : A → Type 0) (r : Result A E) → ((x : A) → P x → Q x → R x) → IfOk r P → IfOk r Q → IfOk r R
if_ok_follows P Q R (Ok x) follows h k = follows x h k
if_ok_follows P Q R (Err e) follows h k = h

pub on_ok_follows : {A E : Type 0} (P Q : Type 0) (r : Result A E) → (P → Q) → OnOk r P → OnOk r Q
on_ok_follows P Q (Ok x) follows h = follows h
on_ok_follows P Q (Err e) follows h = h

pub on_ok_both : {A E : Type 0} (P Q : Type 0) (r : Result A E) → OnOk r P → OnOk r Q → OnOk r (P × Q)
on_ok_both P Q (Ok x) h k = (h, k)
on_ok_both P Q (Err e) h k = h

pub factors_text : (n : ℕ) (terms : List WeightedVector) → factorization_text n terms ≡ verdict_text (Factors n terms)
unfolding line term_line factorization_text verdict_text written_terms
factors_text n terms = refl

-- ---- what a right verdict gives
pub right_has_tree : (a : RationalMatrix) (depth : ℕ) (e : End) → IsVerdictRight a depth e → HasTree a.size depth e
right_has_tree a depth (end.Factored terms) h = tt
right_has_tree a depth (end.Separated w value) h = (h.size, h.copositive)
right_has_tree a depth (end.Depth path) h = tt
right_has_tree a depth end.Pivots h = tt
right_has_tree a depth (end.Overflow owed) h = tt
right_has_tree a depth end.OutOfMemory h = tt

right_excludes : (a : RationalMatrix) (depth : ℕ) (e : End) → IsVerdictRight a depth e → Excludes a e
right_excludes a depth (end.Factored terms) h = tt
right_excludes a depth (end.Separated w value) h =
    λ (terms : List WeightedVector) factors. separated_not_factored a.size (entry w) (rational_entry a) terms h.separates factors
right_excludes a depth (end.Depth path) h = tt
right_excludes a depth end.Pivots h = tt
right_excludes a depth (end.Overflow owed) h = tt
right_excludes a depth end.OutOfMemory h = tt

-- ---- a walk of S/d is one of A
module _ (limits : Limits) (a : RationalMatrix) (s : Symmetric) (d : ℤ) (made : answer is_placed_owed (clear_ops a) (cleared_of a) ≡ Ok (s, d))
    (positive : pos 1 ≤ℤ d) (cleared : IsCleared a s (nat_abs d)) (walked : Walked) (walk : IsWalked (task s d limits.depth) limits.pivots walked)
    (held : All (IsHeld s.size) walked.journal.visited) where
  clearable : IsClearable a × (cleared_of a ≡ (s, d))
  clearable = none_of_ok is_placed_owed (clear_ops a) (cleared_of a) (s, d) made

  held_here : All (IsHeld a.size) walked.journal.visited
  held_here = subst (λ (n : ℕ). All (IsHeld n) walked.journal.visited) cleared.size held

  walked_here : IsWalkedTo (task s d limits.depth) limits.pivots walked → IsWalkedTo (task_of a limits.depth) limits.pivots walked
  walked_here h = subst (λ (p : Symmetric × ℤ). IsWalkedTo (task p.0 p.1 limits.depth) limits.pivots walked) (sym clearable.1) h

  walk_right : IsWalkedTo (task s d limits.depth) limits.pivots walked → IsVerdictRight a limits.depth walked.end
  walk_right h = verdict_is_right a limits walked (record { cleared = clearable.0; walk = walked_here h; held = held_here })

  unstarted_right : IsUnstarted walked → IsVerdictRight a limits.depth walked.end
  unstarted_right h = subst (IsVerdictRight a limits.depth) (sym h.memory) tt

  right_of : IsWalked (task s d limits.depth) limits.pivots walked → IsVerdictRight a limits.depth walked.end
  right_of (inl h) = walk_right h
  right_of (inr h) = unstarted_right h

  pub walk_is_right : IsVerdictRight a limits.depth walked.end
  walk_is_right = right_of walk

  no_text : (traced : Bool) (e : Ended) (text : List ℕ) → IsWalkTold traced limits a.size walked e text → walked.end ≡ end.OutOfMemory → ⊥
  no_text traced e text told memory = subst (λ (x : End). IsEndText a.size limits x told.1.answer) memory told.1.of_end

  answered : IsWalked (task s d limits.depth) limits.pivots walked → (traced : Bool) (e : Ended) (text : List ℕ)
      → IsWalkTold traced limits a.size walked e text → IsWalkAnswer traced limits a e text
  answered (inl h) traced e text told = record {
    due = record { walked = walked; clearable = clearable.0; walk = walked_here h; in_memory = no_text traced e text told; ended = told.0 };
    quotient = quotient_of a s d clearable.1 positive cleared;
    held = held_here;
    right = walk_right h;
    excludes = right_excludes a limits.depth walked.end (walk_right h);
    written = told.1;
  }
  answered (inr h) traced e text told = absurd (no_text traced e text told h.memory)

  pub walk_answered : (traced : Bool) (e : Ended) (text : List ℕ) → IsWalkTold traced limits a.size walked e text → IsWalkAnswer traced limits a e text
  walk_answered = answered walk
