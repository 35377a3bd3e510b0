use Rattle.std.specs.Prelude.{◌≢◌}
use Rattle.std.specs.List.{All}
use Rattle.std.proofs.Common.{ℕ, List, sym, subst}
use Rattle.commutative_ring.proofs.SmallCases.{at_most_itself}
use Rattle.cpfactor_lines.specs.declared.command.Command.{Command}
use Rattle.cpfactor_lines.specs.Requests.{request_of}
use Rattle.cpfactor_lines.specs.Sinks.{sink_shown}
use Rattle.cpfactor_top.specs.Outcomes.{EndsBy}
use Rattle.cpfactor_top.specs.Files.{FileShown, file_shown}
use Rattle.cpfactor_top.specs.Answers.{files_of, answers_of_matrix, IsBytesAnswer}
use Rattle.cpfactor_top.proofs.RequestLaws.{proof_among}
use Rattle.cpfactor_top.proofs.program.answer_bytes.Goals as goal

pub returns-in-Check-clause-ended : goal.returns-in-Check-clause-ended
returns-in-Check-clause-ended g c =
    let files : List ℕ → FileShown = file_shown g.F.Files c.args.files.now c.check_bytes.new.files in
    subst (λ (k : Command). EndsBy (IsBytesAnswer (answers_of_matrix files (request_of k)) c.args.bytes.now)
    (sink_shown g.K.Sink c.args.sink.now c.check_bytes.new.sink) c.check_bytes.result)
    (sym c.in-Check.is) c.check_bytes.ensures.ended

pub returns-in-Check-clause-others_stay : goal.returns-in-Check-clause-others_stay
returns-in-Check-clause-others_stay g c name unnamed =
    c.check_bytes.ensures.others_stay name
    (proof_among _ _ name (subst (λ (k : Command). All (λ file. name ≢ file) (files_of (request_of k))) c.in-Check.is unnamed))

pub returns-in-Solve-clause-never_falls : goal.returns-in-Solve-clause-never_falls
returns-in-Solve-clause-never_falls g c name = at_most_itself (g.F.Files.faults c.args.files.now name)

pub returns-in-Minimum-clause-never_falls : goal.returns-in-Minimum-clause-never_falls
returns-in-Minimum-clause-never_falls g c name = at_most_itself (g.F.Files.faults c.args.files.now name)

pub returns-in-Copositive-clause-never_falls : goal.returns-in-Copositive-clause-never_falls
returns-in-Copositive-clause-never_falls g c name = at_most_itself (g.F.Files.faults c.args.files.now name)
