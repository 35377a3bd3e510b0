use Rattle.std.proofs.Common.{refl, subst, inl, inr}
use Rattle.cpfactor_top.specs.declared.ended.Cause.TheVariants.{Usage}
use Rattle.cpfactor_top.specs.Causes.{ending, refusal_text}
use Rattle.cpfactor_lines.specs.declared.command.Command.{Command}
use Rattle.cpfactor_lines.specs.Commands.{IsCommandLine}
use Rattle.cpfactor_lines.specs.Requests.{texts, request_of}
use Rattle.cpfactor_top.specs.Files.{file_shown}
use Rattle.cpfactor_top.specs.Answers.{answers_of, IsAnswer, IsCheckAnswer}
use Rattle.cpfactor_top.proofs.OutcomeLaws.{ends_by_follows, ends_by_only}
use Rattle.cpfactor_top.proofs.CheckWords.{check_is_answer}
use Rattle.cpfactor_top.proofs.program.answer.Goals as goal

pub returns-in-Ok-Check-clause-ended : goal.returns-in-Ok-Check-clause-ended
returns-in-Ok-Check-clause-ended g c =
    let files = file_shown g.F.Files c.args.files.now c.check_run.new.files in
    ends_by_follows (IsCheckAnswer (texts c.args.words.now) files) (IsAnswer (texts c.args.words.now) files) _
    (check_is_answer (texts c.args.words.now) files _ _
    (subst (λ (k : Command). IsCommandLine (texts c.args.words.now) (request_of k)) c.in-Ok-Check.field-0-is c.in-Ok-Check.ensures.command)) _
    c.check_run.ensures.ended

pub returns-in-Ok-clause-ended : goal.returns-in-Ok-clause-ended
returns-in-Ok-clause-ended g c =
    let files = file_shown g.F.Files c.args.files.now c.answer_command.new.files in let request = request_of c.in-Ok.command in
    ends_by_follows (answers_of request files) (IsAnswer (texts c.args.words.now) files) _ (λ e text h. inr (request, c.in-Ok.ensures.command, h)) _
    c.answer_command.ensures.ended

pub returns-in-Ok-clause-others_stay : goal.returns-in-Ok-clause-others_stay
returns-in-Ok-clause-others_stay g c name unnamed = c.answer_command.ensures.others_stay name (unnamed (request_of c.in-Ok.command) c.in-Ok.ensures.command)

pub returns-in-Err-clause-ended : goal.returns-in-Err-clause-ended
returns-in-Err-clause-ended g c =
    let files = file_shown g.F.Files c.args.files.now c.args.files.now in let cause = Usage c.in-Err.field-0.position in
    ends_by_only (IsAnswer (texts c.args.words.now) files) (ending cause) (refusal_text cause) _ _
    (inl ((c.in-Err.field-0.position, c.in-Err.ensures.usage, refl), refl)) c.refuse.ensures
