use Rattle.std.proofs.Common.{refl}
use Rattle.cpfactor_lines.specs.Requests.{texts}
use Rattle.cpfactor_top.specs.Files.{file_shown}
use Rattle.cpfactor_top.specs.Answers.{IsCheckAnswer}
use Rattle.cpfactor_top.proofs.OutcomeLaws.{ends_with_status, ends_quietly}
use Rattle.cpfactor_top.proofs.CheckWords.{check_status, check_usage_yields, check_yields, check_refusal}
use Rattle.cpfactor_top.proofs.program.check_run.Goals as goal

pub returns-clause-status : goal.returns-clause-status
returns-clause-status g c =
    let files = file_shown g.F.Files c.args.files.now c.check_words.new.files in
    ends_with_status (IsCheckAnswer (texts c.args.words.now) files) _ _ (check_status (texts c.args.words.now) files) c.check_words.ensures.ended

pub returns-clause-usage : goal.returns-clause-usage
returns-clause-usage g c position at =
    check_usage_yields (texts c.args.words.now) (file_shown g.F.Files c.args.files.now c.check_words.new.files) _ _ position at c.check_words.ensures.ended

pub returns-clause-due : goal.returns-clause-due
returns-clause-due g c e due =
    check_yields (texts c.args.words.now) (file_shown g.F.Files c.args.files.now c.check_words.new.files) (g.F.Files.told c.args.files.now) _
    c.check_words.result e (λ n. refl) c.check_words.ensures.ended due

pub returns-clause-refusal : goal.returns-clause-refusal
returns-clause-refusal g c checked same =
    check_refusal checked (texts c.args.words.now) (file_shown g.F.Files c.args.files.now c.check_words.new.files) _ _ c.check_words.ensures.ended same

pub returns-clause-quiet_sink : goal.returns-clause-quiet_sink
returns-clause-quiet_sink g c other =
    ends_quietly (IsCheckAnswer (texts c.args.words.now) (file_shown g.F.Files c.args.files.now c.check_words.new.files)) _ _ other c.check_words.ensures.ended
