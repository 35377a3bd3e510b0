use Rattle.std.proofs.Common.{ap, subst}
use Rattle.cpfactor_lines.specs.Sinks.{sink_shown}
use Rattle.cpfactor_lines.specs.CheckTexts.{checked_text}
use Rattle.cpfactor_top.specs.declared.ended.Ended.{Ended}
use Rattle.cpfactor_top.specs.declared.ended.Cause.{Cause}
use Rattle.cpfactor_top.specs.Causes.{ending, checked_cause}
use Rattle.cpfactor_top.specs.Outcomes.{EndsBy, IsOnly}
use Rattle.cpfactor_top.specs.Checking.{IsVerdictAnswer}
use Rattle.cpfactor_top.proofs.OutcomeLaws.{ends_by_only}
use Rattle.cpfactor_top.proofs.CheckLaws.{verdict_answer}
use Rattle.std.proofs.Common.{◌∙◌}
use Rattle.cpfactor_top.proofs.checking.check_one.Goals as goal

pub returns : goal.returns
returns g c =
    let checked = c.check_verdict-checked.result in let text = checked_text checked in
    ends_by_only (IsVerdictAnswer c.args.a.now c.args.verdict.now) (ending (checked_cause checked)) text _ _
    (verdict_answer c.args.a.now c.args.verdict.now checked c.check_verdict-checked.ensures.exact c.check_verdict-checked.ensures.right)
    (subst (λ (e : Ended). EndsBy (IsOnly e text) (sink_shown g.K.Sink c.args.sink.now c.answer_line.new.sink) c.answer_line.result)
    (c.by.ensures ∙ ap (λ (cause : Cause). ending cause) c.cause_of.ensures) (c.answer_line.ensures text c.checked_line.ensures))
