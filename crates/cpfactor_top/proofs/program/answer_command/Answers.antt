use Rattle.std.proofs.Common.{ℕ, List, sym, subst}
use Rattle.cpfactor_lines.specs.declared.command.Command.{Command}
use Rattle.cpfactor_lines.specs.Requests.{request_of}
use Rattle.cpfactor_lines.specs.Sinks.{sink_shown}
use Rattle.cpfactor_top.specs.Outcomes.{EndsBy}
use Rattle.cpfactor_top.specs.Files.{FileShown, file_shown}
use Rattle.cpfactor_top.specs.Answers.{answers_of}
use Rattle.cpfactor_top.proofs.program.answer_command.Goals as goal

pub returns-in-Sample-clause-ended : goal.returns-in-Sample-clause-ended
returns-in-Sample-clause-ended g c =
    let files : List ℕ → FileShown = file_shown g.F.Files c.args.files.now c.args.files.now in
    subst (λ (k : Command). EndsBy (answers_of (request_of k) files) (sink_shown g.K.Sink c.args.sink.now c.sample_by.new.sink) c.sample_by.result)
    (sym c.in-Sample.is) c.sample_by.ensures
