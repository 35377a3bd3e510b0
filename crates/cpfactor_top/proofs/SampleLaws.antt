-- What `sample` answers: the matrix that its numbers decide is solved.
use Rattle.std.specs.Prelude.{◌≡◌, ℕ, Bool, false, List, Some}
use Rattle.std.proofs.Common.{refl, sym, ap, subst, inl, inr}
use Rattle.matrix_text.specs.RationalMatrix.{RationalMatrix}
use Rattle.matrix_sample.proofs.SampleSums.{one_sample}
use Rattle.perfect_walk.specs.declared.journal.Limits.{Limits}
use Rattle.perfect_walk.specs.declared.journal.Journal.{Journal}
use Rattle.perfect_walk.specs.declared.journal.End.{End}
use Rattle.perfect_walk.specs.declared.journal.End.TheVariants as end
use Rattle.cpfactor_lines.specs.Commands.{usual_limits}
use Rattle.cpfactor_top.specs.declared.ended.Ended.{Ended}
use Rattle.cpfactor_top.specs.Solving.{no_visit, ending_by, IsSolved}
use Rattle.cpfactor_top.specs.Sampling.{IsSampled, IsSampleDue, IsSampleAnswer}
use Rattle.cpfactor_top.proofs.AnswerLaws.{IsQuestion, solving}
use Rattle.cpfactor_top.proofs.FileLaws.{IsSettled}

-- ---- the journal
abbrev pub HasJournal : Ended → Type 0
HasJournal e = (journal : Journal) × (e.journal ≡ Some journal)

end_has_journal : (limit : ℕ) (journal : Journal) (e : End) → (e ≡ end.OutOfMemory → ⊥) → HasJournal (ending_by limit journal e)
end_has_journal limit journal (end.Factored terms) other = (journal, refl)
end_has_journal limit journal (end.Separated w value) other = (journal, refl)
end_has_journal limit journal (end.Depth path) other = (journal, refl)
end_has_journal limit journal end.Pivots other = (journal, refl)
end_has_journal limit journal (end.Overflow owed) other = (journal, refl)
end_has_journal limit journal end.OutOfMemory other = absurd (other refl)

pub solved_has_journal : (traced : Bool) (limits : Limits) (a : RationalMatrix) (e : Ended) (text : List ℕ) → IsSolved traced limits a e text → HasJournal e
solved_has_journal traced limits a e text (inl refused) = (no_visit, ap (λ (e : Ended). e.journal) refused.0.ended)
solved_has_journal traced limits a e text (inr h) =
    subst HasJournal (sym h.due.ended) (end_has_journal limits.pivots h.due.walked.journal h.due.walked.end h.due.in_memory)

-- what `sample` answers of a matrix, and of its numbers, which decide the matrix
pub sampling : (n k first : ℕ) → IsQuestion (IsSampled n k first) (IsSampleDue n k first)
sampling n k first = record {
  is_due = λ a e text h. (h.sample, (solving false usual_limits).is_due a e h.answer h.solved);
  once = λ a e f h k. (solving false usual_limits).once a e f h.1 k.1;
  status = λ a e h. (solving false usual_limits).status a e h.1;
}

pub sample_settled : (n k first : ℕ) → IsSettled (IsSampleAnswer n k first) (λ e. (a : RationalMatrix) × IsSampleDue n k first a e)
sample_settled n k first = record {
  given = λ e g text d h.
      let same : h.0 ≡ d.0 = one_sample n k first h.0 d.0 h.1.sample d.1.0 in
      inr ((sampling n k first).once d.0 g e (subst (λ (m : RationalMatrix). IsSampleDue n k first m g) same ((sampling n k first).is_due h.0 g text h.1)) d.1);
  status = λ e text h. (sampling n k first).status h.0 e ((sampling n k first).is_due h.0 e text h.1);
}
