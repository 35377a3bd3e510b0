-- A matrix in the first cone is factored without a step, where nothing is owed.
use Rattle.std.specs.Prelude.{◌≡◌, ◌⊎◌, ℕ, List, Option}
use Rattle.std.proofs.Common.{refl, sym, subst, inl, inr}
use Rattle.exact_forms.specs.Factors.{WeightedVector}
use Rattle.matrix_text.specs.Matrix.{MatrixText}
use Rattle.matrix_text.specs.RationalMatrix.{RationalMatrix}
use Rattle.matrix_text.proofs.Ranges.{text-some}
use Rattle.perfect_walk.specs.declared.journal.Limits.{Limits}
use Rattle.perfect_walk.specs.declared.journal.Walked.{Walked}
use Rattle.perfect_walk.specs.declared.journal.End.TheVariants as end
use Rattle.walk_verdict.specs.Verdicts.{first_visit_alone, IsWalkOf}
use Rattle.walk_verdict.proofs.FirstCone.{first_cone_is_factored}
use Rattle.cpfactor_lines.specs.Commands.{Solve}
use Rattle.cpfactor_top.specs.declared.ended.Ended.{Ended}
use Rattle.cpfactor_top.specs.declared.ended.Cause.TheVariants.{ReadFault}
use Rattle.cpfactor_top.specs.Causes.{EndsWith}
use Rattle.cpfactor_top.specs.Solving.{ending_of, IsWalkDue, IsSolveDue, IsEasy, IsFactoredAtOnce}
use Rattle.cpfactor_top.specs.Answers.{IsBytesDue, IsRequestDue, YieldsTo, YieldsToReading, IsEasyRequest, FactorsAtOnce}

factored_in_memory : (n : ℕ) (terms : List WeightedVector) → (first_visit_alone n terms).end ≡ end.OutOfMemory → ⊥
factored_in_memory n terms e = absurd cc

walk_due : (limits : Limits) (a : RationalMatrix) (terms : List WeightedVector) → IsWalkOf a limits (first_visit_alone a.size terms)
    → IsWalkDue limits a (ending_of limits.pivots (first_visit_alone a.size terms))
walk_due limits a terms h = record {
  walked = first_visit_alone a.size terms;
  clearable = h.cleared;
  walk = h.walk;
  in_memory = factored_in_memory a.size terms;
  ended = refl;
}

pub easy_due : (limits : Limits) (bytes : List ℕ) (a : RationalMatrix) → MatrixText bytes a → IsEasy limits.depth a
    → (e : Ended) × IsBytesDue (IsSolveDue limits) bytes e × IsFactoredAtOnce e
easy_due limits bytes a text easy =
    let h = first_cone_is_factored a limits (text-some bytes a text) easy.clearable easy.in_cone easy.owes_nothing in
    let walked : Walked = first_visit_alone a.size h.0 in (
      ending_of limits.pivots walked,
      inr (a, text, inr (walk_due limits a h.0 h.1)),
      record { done = refl; fine = refl; journal = walked.journal; is_journal = refl; no_step = refl },
    )

pub factors_at_once : (e given : Ended) → IsFactoredAtOnce e → YieldsTo e given → FactorsAtOnce given
factors_at_once e given h (inl same) = inl (subst IsFactoredAtOnce (sym same) h)
factors_at_once e given h (inr cut) = inr cut

pub easy_request_due : (words : List (List ℕ)) (told : List ℕ → Option (List ℕ)) → IsEasyRequest words told
    → (e : Ended) × IsRequestDue words told e × IsFactoredAtOnce e
easy_request_due words told h =
    let due = easy_due h.limits h.bytes h.matrix h.text h.easy in
    (due.0, (Solve h.file h.limits h.workers h.traced, h.asked, record { held = h.bytes; is_told = h.is_told; due_of_held = inl (h.within, due.1) }), due.2)

pub factors_after_reading : (e given : Ended) → IsFactoredAtOnce e → YieldsToReading e given → EndsWith ReadFault given ⊎ FactorsAtOnce given
factors_after_reading e given h (inl unread) = inl unread
factors_after_reading e given h (inr yields) = inr (factors_at_once e given h yields)
