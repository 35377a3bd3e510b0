use Rattle.std.specs.Prelude.{List}
use Rattle.std.proofs.Common.{ap, sym, subst, ◌∙◌}
use Rattle.symmetric_matrix.specs.Symmetric.{entry}
use Rattle.search_core.specs.Fair.{Judged, IsFair}
use Rattle.search_core.specs.Events.{ShownMachine, IsRunning}
use Rattle.search_core.proofs.Steps.{ended_fair}
use Rattle.search_core.proofs.machine.Machine.judged.Goals as goal

pub returns-clause-fair : goal.returns-clause-fair
returns-clause-fair c = λ ended.
    let m : ShownMachine = c.args.self.now in
    subst (λ (js : List Judged). IsFair m.mode m.matrix.size (entry m.matrix) m.limit js m.state.word)
    (sym (c.as_slice.ensures.value ∙ ap (λ (s : ShownMachine). s.state.judged) c.self.view_is))
    (ended_fair m (subst IsRunning c.self.view_is c.self.invariant) ended)
