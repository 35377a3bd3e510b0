use Rattle.std.specs.Prelude.{ℕ, ◌-◌, List, slice_set}
use Rattle.std.proofs.Common.{ap, refl, subst}
use Rattle.unimodular_cone.specs.Paths.{Path}
use Rattle.search_core.specs.declared.event.Event.TheVariants.{Take}
use Rattle.search_core.specs.Machine.{Empty, Taken, State}
use Rattle.search_core.specs.Events.{ShownMachine, HasInHand, IsPlaceOf, IsIgnored, IsEvent}
use Rattle.search_core.proofs.Steps.{shown_of, saw, takes, may_take, event_keeps}
use Rattle.search_core.proofs.machine.Machine.take.Goals.{After-from}
use Rattle.search_core.proofs.machine.Machine.take.Goals as goal

abbrev new : After-from → State
new c = record {
  waiting = c.remove.new.self.items;
  hands = slice_set c.self.inside.hands.items (c.from.result - 1) (Taken c.args.path);
  word = c.self.inside.word;
  judged = c.self.inside.judged.items;
}

-- what the event takes: it may, and it is one
taken : (c : After-from)
    → (¬ IsIgnored (shown_of c.self.inside).state (Take c.args.worker c.args.path)) × IsEvent (shown_of c.self.inside) (Take c.args.worker c.args.path) (new c)
taken c =
    let m = shown_of c.self.inside in
    let place = c.in-Some-place_among.place in
    let has : HasInHand m.state.hands c.args.worker Empty = saw c.deref.ensures.value c.if-not-is_empty.ensures c.in-Some.ensures in
    let at : IsPlaceOf m.state.waiting c.args.path place =
    subst (λ (ps : List Path). IsPlaceOf ps c.args.path place) c.deref-2.ensures.value c.in-Some-place_among.ensures in (
      may_take m.state c.args.worker place c.args.path has at,
      takes m c.args.worker place c.args.path (new c) has at c.remove.ensures.items
          (ap (λ (k : ℕ). slice_set m.state.hands (k - 1) (Taken c.args.path)) c.from.ensures) refl refl,
    )

pub invariant_of-self : goal.invariant_of-self
invariant_of-self c =
    let n = (goal.at.invariant_of-self c).After-from in
    event_keeps (shown_of c.self.inside) (Take c.args.worker c.args.path) (new n) c.self.invariant (taken n).1

pub returns-clause-answer : goal.returns-clause-answer
returns-clause-answer c =
    let n = (goal.at.returns-clause-answer c).After-from in
    subst (λ (s : ShownMachine). (¬ IsIgnored s.state (Take c.args.worker c.args.path)) × IsEvent s (Take c.args.worker c.args.path) (new n)) c.self.view_is
    (taken n)
