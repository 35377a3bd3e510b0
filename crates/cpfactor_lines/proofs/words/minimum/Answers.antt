use Rattle.std.proofs.lemmas.Result.{err_from_is_err_and}
use Rattle.cpfactor_lines.specs.Commands.{minimum}
use Rattle.cpfactor_lines.specs.Requests.{texts}
use Rattle.cpfactor_lines.proofs.ArgumentLaws.{read_as-usage, read_as-request}
use Rattle.cpfactor_lines.proofs.words.minimum.Goals as goal

pub returns-in_err-file-clause-usage : goal.returns-in_err-file-clause-usage
returns-in_err-file-clause-usage c =
    let p = err_from_is_err_and c.from_residual.result c.from_residual.ensures.1 in
    rw (p.1, p.2) (read_as-usage minimum (texts c.args.words.now) c.in_err-file.field-0.0.position c.in_err-file.ensures.usage)

pub returns-clause-command : goal.returns-clause-command
returns-clause-command c =
    rw (c.in_ok-file.ensures.depth, c.in_ok-file.ensures.file, c.workers.ensures.value)
    (read_as-request minimum (texts c.args.words.now) c.in_ok-file.ensures.read)
