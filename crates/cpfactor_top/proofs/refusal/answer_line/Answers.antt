use Rattle.std.proofs.Common.{◌≡◌, ◌∙◌, refl, subst, IfOk}
use Rattle.cpfactor_lines.specs.Sinks.{sink_shown}
use Rattle.cpfactor_lines.proofs.Fronts.{put_is}
use Rattle.cpfactor_top.specs.Outcomes.{IsOnly}
use Rattle.cpfactor_top.proofs.OutcomeLaws.{ends_by_none, ended_by_put}
use Rattle.cpfactor_top.proofs.refusal.answer_line.Goals as goal

pub returns-in-Ok : goal.returns-in-Ok
returns-in-Ok g c text given =
    let made : c.in-Ok.line.items ≡ text = subst (λ r. IfOk r (λ made. made.items ≡ text)) c.in-Ok.is given in
    ended_by_put c.args.ended c.args.ended c.after.result text (sink_shown g.K.Sink c.args.sink.now c.put.new.self) c.put.result refl c.after.ensures
    (put_is text c.deref.result.now _ _ _ _ c.put.result (c.deref.ensures.value
    ∙ made) c.put.ensures.done c.put.ensures.front c.put.ensures.nothing c.put.ensures.failed c.put.ensures.quiet)

pub returns-in-Err : goal.returns-in-Err
returns-in-Err g c text made = ends_by_none (IsOnly c.args.ended text) _ _ c.want_memory.ensures
