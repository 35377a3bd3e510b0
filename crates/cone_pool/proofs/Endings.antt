-- What is judged at the end is fair.
use Rattle.std.proofs.Common.{◌≡◌, ℕ, ◌≤◌, ◌⊎◌, min, [], map, ap, ◌∙◌, inl, inr, arith}
use Rattle.std.specs.List.{Contains}
use Rattle.unimodular_cone.specs.declared.Mode.{Mode}
use Rattle.unimodular_cone.specs.Paths.{Path}
use Rattle.unimodular_cone.specs.Cones.{Matrix}
use Rattle.search_core.specs.declared.Judged.{Judged}
use Rattle.search_core.specs.Fair.{code, start_word, IsFair}
use Rattle.search_core.specs.Machine.{times, paths, due}
use Rattle.search_core.proofs.Finish.{AreDue, are_due}
use Rattle.bound_word.specs.Seats.{TableId, Seat, greatest_word}
use Rattle.cone_pool.specs.Keeping.{Judgements}
use Rattle.cone_pool.specs.Lots.{IsEmptied, deque_of}
use Rattle.cone_pool.specs.Parts.{Member, AreJudgedAt, IsWorkerPart, IsSameMember, HasGathered}
use Rattle.cone_pool.proofs.SeatJudgements.{lesser, lower_told}
use Rattle.cone_pool.proofs.Gatherings.{all_judged, no_tokens}

-- all that is due was judged; the seat's judgements, and what is known when its table is closed
pub fair_at_end : (m : Mode) (n : ℕ) (q : Matrix) (d : ℕ) (seat : Seat) (js : Judgements) (start final : ℕ)
    → ((p : Path) → times p (paths js.items) ≡ times p (due js.items)) → AreJudgedAt m n q d seat js
    → start ≡ start_word m n q → start ≤ greatest_word → final ≡ min start seat.given → final ≤ seat.told → IsFair m n q d js.items final
fair_at_end m n q d seat js start final counts h started small word low =
    let dues : AreDue js.items = are_due js.items counts in record {
      due = dues.due;
      no_other = dues.no_other;
      once = dues.once;
      judgements = λ j there. lower_told m n q d seat.told final j low (h.judgements j there);
      final_word = record {
        below_start = omega arith;
        below_codes = λ j there. (let b = h.given_below j there in omega arith);
        attained = by h.given_is (lesser start seat.given);
      };
    }
  where
    by : ((seat.given ≡ greatest_word) ⊎ ((j : Judged) × Contains js.items j × (seat.given ≡ code m n q j.path)))
        → ((min start seat.given ≡ start) ⊎ (min start seat.given ≡ seat.given))
        → (final ≡ start_word m n q) ⊎ ((j : Judged) × Contains js.items j × (final ≡ code m n q j.path))
    by i (inl e) = inl (word ∙ e ∙ started)
    by (inl e) (inr f) = inl (omega arith)
    by (inr (j, there, e)) (inr f) = inr (j, there, word ∙ f ∙ e)

-- the coordinator has taken over all, and judged what was left
pub all_fair : (m : Mode) (n : ℕ) (q : Matrix) (d : ℕ) (table : TableId) (start final : ℕ) (chief w : Member) → HasGathered m n q d table [] chief
    → IsWorkerPart m n q d [] w → IsSameMember chief w → IsEmptied w.lot → w.kept ≡ [] → start ≡ start_word m n q → start ≤ greatest_word
    → final ≡ min start w.seat.given → final ≤ w.seat.told → IsFair m n q d w.judged.items final
all_fair m n q d table start final chief w gathered part same emptied none started small word low =
    fair_at_end m n q d w.seat w.judged start final
    (all_judged m n q d w part (same.number ∙ gathered.number)
    (no_tokens w.lot.tokens (same.tokens ∙ ap (map deque_of) gathered.tokens)) (same.out ∙ gathered.out) emptied none)
    part.judged started small word low
