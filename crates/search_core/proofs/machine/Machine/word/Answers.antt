use Rattle.std.specs.Prelude.{ℕ}
use Rattle.std.proofs.Common.{ap, sym, subst}
use Rattle.symmetric_matrix.specs.Symmetric.{entry}
use Rattle.search_core.specs.Fair.{IsFair}
use Rattle.search_core.specs.Events.{ShownMachine, IsRunning}
use Rattle.search_core.proofs.Steps.{ended_fair}
use Rattle.search_core.proofs.machine.Machine.word.Goals as goal

pub returns-clause-fair : goal.returns-clause-fair
returns-clause-fair c = λ ended.
    let m : ShownMachine = c.args.self.now in
    subst (λ (w : ℕ). IsFair m.mode m.matrix.size (entry m.matrix) m.limit m.state.judged w) (sym (ap (λ (s : ShownMachine). s.state.word) c.self.view_is))
    (ended_fair m (subst IsRunning c.self.view_is c.self.invariant) ended)
