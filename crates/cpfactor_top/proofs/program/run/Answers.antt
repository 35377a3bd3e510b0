use Rattle.std.proofs.Common.{refl}
use Rattle.cpfactor_lines.specs.Requests.{texts}
use Rattle.cpfactor_top.specs.Files.{file_shown}
use Rattle.cpfactor_top.specs.Answers.{IsAnswer}
use Rattle.cpfactor_top.proofs.OutcomeLaws.{ends_with_status, ends_quietly}
use Rattle.cpfactor_top.proofs.RequestLaws.{words_status, words_yield, usage_yields}
use Rattle.cpfactor_top.proofs.EasyMatrices.{easy_request_due, factors_after_reading}
use Rattle.cpfactor_top.proofs.program.run.Goals as goal

pub returns-clause-status : goal.returns-clause-status
returns-clause-status g c =
    let files = file_shown g.F.Files c.args.files.now c.answer.new.files in
    ends_with_status (IsAnswer (texts c.args.words.now) files) _ _ (words_status (texts c.args.words.now) files) c.answer.ensures.ended

pub returns-clause-usage : goal.returns-clause-usage
returns-clause-usage g c position at =
    usage_yields (texts c.args.words.now) (file_shown g.F.Files c.args.files.now c.answer.new.files) _ _ position at c.answer.ensures.ended

pub returns-clause-due : goal.returns-clause-due
returns-clause-due g c e due =
    words_yield (texts c.args.words.now) (file_shown g.F.Files c.args.files.now c.answer.new.files) (g.F.Files.told c.args.files.now) _ c.answer.result e
    (λ n. refl) c.answer.ensures.ended due

pub returns-clause-quiet_sink : goal.returns-clause-quiet_sink
returns-clause-quiet_sink g c other =
    ends_quietly (IsAnswer (texts c.args.words.now) (file_shown g.F.Files c.args.files.now c.answer.new.files)) _ _ other c.answer.ensures.ended

pub returns-clause-first_cone : goal.returns-clause-first_cone
returns-clause-first_cone g c easy =
    let due = easy_request_due (texts c.args.words.now) (g.F.Files.told c.args.files.now) easy in
    factors_after_reading due.0 c.answer.result due.2
    (words_yield (texts c.args.words.now) (file_shown g.F.Files c.args.files.now c.answer.new.files) (g.F.Files.told c.args.files.now) _ c.answer.result due.0
    (λ n. refl) c.answer.ensures.ended due.1)
