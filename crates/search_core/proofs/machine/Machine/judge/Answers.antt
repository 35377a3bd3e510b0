use Rattle.std.specs.Prelude.{ℕ, ◌-◌, List, [], ◌∷◌, ◌++◌, slice_set}
use Rattle.std.proofs.Common.{ap, refl, subst, ◌∙◌}
use Rattle.symmetric_matrix.specs.Symmetric.{entry}
use Rattle.unimodular_cone.specs.Paths.{Path}
use Rattle.unimodular_cone.specs.Tree.{IsInTree}
use Rattle.search_core.specs.declared.event.Event.TheVariants.{Judge}
use Rattle.search_core.specs.Fair.{Judged}
use Rattle.search_core.specs.Machine.{Empty, Offered, State, children_of}
use Rattle.search_core.specs.Events.{ShownMachine, HasInHand, IsIgnored, IsEvent}
use Rattle.search_core.proofs.Steps.{shown_of, saw, offered_in_tree, split_short, judges, may_judge, event_keeps}
use Rattle.search_core.proofs.machine.Machine.judge.Goals.{After-note, In-Offered}
use Rattle.search_core.proofs.machine.Machine.judge.Goals as goal

has : (c : In-Offered) → HasInHand c.self.inside.hands.items c.args.worker (Offered c.in-Offered.path c.in-Offered.noted)
has c = saw c.deref.ensures.value c.in-Offered.is c.in-Some.ensures

in_tree : (c : In-Offered) → IsInTree c.self.inside.matrix.size (entry c.self.inside.matrix) c.self.inside.limit c.in-Offered.path
in_tree c = offered_in_tree (shown_of c.self.inside) c.args.worker c.in-Offered.path c.in-Offered.noted c.self.invariant (has c)

pub judgement_of_path-j-requires-clause-in_tree : goal.judgement_of_path-j-requires-clause-in_tree
judgement_of_path-j-requires-clause-in_tree c = in_tree (goal.at.judgement_of_path-j-requires-clause-in_tree c).In-Offered

pub add_children-requires-clause-short : goal.add_children-requires-clause-short
add_children-requires-clause-short c =
    λ split. split_short c.self.inside.mode c.self.inside.matrix.size (entry c.self.inside.matrix) c.self.inside.limit c.in-Offered.path c.in-Offered.noted
    c.judgement_of_path-j.result.fate c.self.invariant.limited (in_tree (goal.at.add_children-requires-clause-short c).In-Offered)
    c.judgement_of_path-j.ensures.fate split

abbrev new : After-note → State
new c = record {
  waiting = c.add_children.new.waiting.items;
  hands = slice_set c.self.inside.hands.items (c.from.result - 1) Empty;
  word = c.self.inside.word;
  judged = c.note.new.judged.items;
}

step : (c : After-note) → IsEvent (shown_of c.self.inside) (Judge c.args.worker) (new c)
step c =
    judges (shown_of c.self.inside) c.args.worker c.in-Offered.path c.in-Offered.noted c.judgement_of_path-j.result (new c)
    (saw c.deref.ensures.value c.in-Offered.is c.in-Some.ensures) c.judgement_of_path-j.ensures
    (ap (λ (k : ℕ). slice_set c.self.inside.hands.items (k - 1) Empty) c.from.ensures)
    (c.add_children.ensures ∙ ap (λ (ps : List Path). ps ++ children_of c.in-Offered.path c.judgement_of_path-j.result.fate) c.in-Ok.ensures.paths) refl
    (c.note.ensures ∙ ap (λ (js : List Judged). js ++ c.judgement_of_path-j.result ∷ []) c.in-Ok.ensures.judgements)

pub invariant_of-self-2 : goal.invariant_of-self-2
invariant_of-self-2 c =
    let n = (goal.at.invariant_of-self-2 c).After-note in event_keeps (shown_of c.self.inside) (Judge c.args.worker) (new n) c.self.invariant (step n)

pub returns-clause-answer : goal.returns-clause-answer
returns-clause-answer c =
    let at = goal.at.returns-clause-answer c in
    subst (λ (s : ShownMachine). (¬ IsIgnored s.state (Judge c.args.worker)) × IsEvent s (Judge c.args.worker) (new at.After-note)) c.self.view_is
    (may_judge (shown_of c.self.inside).state c.args.worker c.in-Offered.path c.in-Offered.noted (has at.In-Offered), step at.After-note)
