use Rattle.std.proofs.Common.{refl, subst, inl, inr}
use Rattle.cpfactor_lines.specs.Commands.{Check, IsCommandLine}
use Rattle.cpfactor_lines.specs.declared.command.Command.{Command}
use Rattle.cpfactor_lines.specs.Requests.{texts, request_of}
use Rattle.cpfactor_top.specs.declared.ended.Cause.TheVariants.{Usage}
use Rattle.cpfactor_top.specs.Causes.{ending, refusal_text}
use Rattle.cpfactor_top.specs.Files.{file_shown}
use Rattle.cpfactor_top.specs.Answers.{answers_of, IsCheckAnswer}
use Rattle.cpfactor_top.proofs.OutcomeLaws.{ends_by_follows, ends_by_only}
use Rattle.cpfactor_top.proofs.CheckWords.{other_refused}
use Rattle.cpfactor_top.proofs.program.check_words.Goals as goal

pub returns-in-Ok-Check-clause-ended : goal.returns-in-Ok-Check-clause-ended
returns-in-Ok-Check-clause-ended g c =
    let files = file_shown g.F.Files c.args.files.now c.answer_command.new.files in
    ends_by_follows (answers_of (Check c.in-Ok-Check.file.now c.in-Ok-Check.proof.now) files) (IsCheckAnswer (texts c.args.words.now) files) _
    (λ e text h. inr (
      c.in-Ok-Check.file.now,
      c.in-Ok-Check.proof.now,
      subst (λ (k : Command). IsCommandLine (texts c.args.words.now) (request_of k)) c.in-Ok-Check.field-0-is c.in-Ok-Check.ensures.command,
      h,
    )) _
    c.answer_command.ensures.ended

pub returns-in-Ok-Check-clause-others_stay : goal.returns-in-Ok-Check-clause-others_stay
returns-in-Ok-Check-clause-others_stay g c name unnamed =
    c.answer_command.ensures.others_stay name
    (unnamed _ (subst (λ (k : Command). IsCommandLine (texts c.args.words.now) (request_of k)) c.in-Ok-Check.field-0-is c.in-Ok-Check.ensures.command))

pub returns-in-Ok-Solve-clause-ended : goal.returns-in-Ok-Solve-clause-ended
returns-in-Ok-Solve-clause-ended g c =
    let asked = subst (λ (k : Command). IsCommandLine (texts c.args.words.now) (request_of k)) c.in-Ok-Solve.field-0-is c.in-Ok-Solve.ensures.command in
    other_refused (texts c.args.words.now) (file_shown g.F.Files c.args.files.now c.args.files.now) _ asked tt _ _ c.refuse.ensures

pub returns-in-Ok-Minimum-clause-ended : goal.returns-in-Ok-Minimum-clause-ended
returns-in-Ok-Minimum-clause-ended g c =
    let asked = subst (λ (k : Command). IsCommandLine (texts c.args.words.now) (request_of k)) c.in-Ok-Minimum.field-0-is c.in-Ok-Minimum.ensures.command in
    other_refused (texts c.args.words.now) (file_shown g.F.Files c.args.files.now c.args.files.now) _ asked tt _ _ c.refuse-in-Ok-Minimum.ensures

pub returns-in-Ok-Copositive-clause-ended : goal.returns-in-Ok-Copositive-clause-ended
returns-in-Ok-Copositive-clause-ended g c =
    let asked = subst (λ (k : Command). IsCommandLine (texts c.args.words.now) (request_of k)) c.in-Ok-Copositive.field-0-is
    c.in-Ok-Copositive.ensures.command in
    other_refused (texts c.args.words.now) (file_shown g.F.Files c.args.files.now c.args.files.now) _ asked tt _ _ c.refuse-in-Ok-Copositive.ensures

pub returns-in-Ok-Sample-clause-ended : goal.returns-in-Ok-Sample-clause-ended
returns-in-Ok-Sample-clause-ended g c =
    let asked = subst (λ (k : Command). IsCommandLine (texts c.args.words.now) (request_of k)) c.in-Ok-Sample.field-0-is c.in-Ok-Sample.ensures.command in
    other_refused (texts c.args.words.now) (file_shown g.F.Files c.args.files.now c.args.files.now) _ asked tt _ _ c.refuse-in-Ok-Sample.ensures

pub returns-in-Err-clause-ended : goal.returns-in-Err-clause-ended
returns-in-Err-clause-ended g c =
    let files = file_shown g.F.Files c.args.files.now c.args.files.now in let cause = Usage c.in-Err.field-0.position in
    ends_by_only (IsCheckAnswer (texts c.args.words.now) files) (ending cause) (refusal_text cause) _ _
    (inl ((c.in-Err.field-0.position, inl c.in-Err.ensures.usage, refl), refl)) c.refuse-in-Err.ensures
