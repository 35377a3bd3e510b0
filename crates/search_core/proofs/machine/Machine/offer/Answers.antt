use Rattle.std.specs.Prelude.{ℕ, ◌-◌, min, slice_set}
use Rattle.std.proofs.Common.{ap, refl, ◌∙◌}
use Rattle.search_core.specs.declared.event.Event.TheVariants.{Offer}
use Rattle.search_core.specs.Machine.{Taken, Offered, State}
use Rattle.search_core.specs.Events.{HasInHand}
use Rattle.search_core.proofs.Steps.{shown_of, saw, taken_in_tree, offers, event_keeps}
use Rattle.search_core.proofs.machine.Machine.offer.Goals as goal

pub code_of_path-requires-clause-in_tree : goal.code_of_path-requires-clause-in_tree
code_of_path-requires-clause-in_tree c =
    let has : HasInHand c.self.inside.hands.items c.args.worker (Taken c.in-Taken.path) = saw c.deref.ensures.value c.in-Taken.is c.in-Some.ensures in
    taken_in_tree _ c.args.worker c.in-Taken.path c.self.invariant has

pub invariant_of-self : goal.invariant_of-self
invariant_of-self c =
    let m = shown_of c.self.inside in
    let has : HasInHand m.state.hands c.args.worker (Taken c.in-Taken.path) = saw c.deref.ensures.value c.in-Taken.is c.in-Some.ensures in
    let new : State = record {
      waiting = c.self.inside.waiting.items;
      hands = slice_set c.self.inside.hands.items (c.from.result - 1) (Offered c.in-Taken.path c.min-self-inside.result);
      word = c.min-self-inside.result;
      judged = c.self.inside.judged.items;
    } in
    event_keeps m (Offer c.args.worker) new c.self.invariant
    (offers m c.args.worker c.in-Taken.path new has (c.min-self-inside.ensures ∙ ap (min c.self.inside.word) c.code_of_path.ensures)
    (ap (λ (k : ℕ). slice_set m.state.hands (k - 1) (Offered c.in-Taken.path c.min-self-inside.result)) c.from.ensures) refl refl)
