use Rattle.std.proofs.Common.{refl, sym, subst, ℕ, List, IfOk}
use Rattle.cpfactor_lines.specs.Sinks.{IsPut, sink_shown}
use Rattle.cpfactor_top.specs.Outcomes.{EndsBy, IsOnly}
use Rattle.cpfactor_top.proofs.OutcomeLaws.{ended_by_put}
use Rattle.cpfactor_top.proofs.refusal.put_answer.Goals as goal

pub returns-in-Ok-clause-put : goal.returns-in-Ok-clause-put
returns-in-Ok-clause-put g c =
    let shown = sink_shown g.K.Sink c.args.sink.now c.put_lines.new.sink in
    subst (λ made. IfOk made (λ r. EndsBy (IsOnly r.0 r.1.items) shown c.after.result)) (sym c.in-Ok.is)
    (ended_by_put c.in-Ok.ended c.in-Ok.ended c.after.result c.in-Ok.text.items shown c.put_lines.result refl c.after.ensures
    (subst (λ (t : List ℕ). IsPut t shown c.put_lines.result) c.deref.ensures.value c.put_lines.ensures))
