use Rattle.std.proofs.Common.{arith, refl}
use Rattle.std.proofs.lemmas.Result.{err_from_is_err_and}
use Rattle.cpfactor_lines.specs.Arguments.{is_option}
use Rattle.cpfactor_lines.specs.Commands.{solve}
use Rattle.cpfactor_lines.specs.Requests.{texts}
use Rattle.cpfactor_lines.proofs.ReaderSteps.{argument_text}
use Rattle.cpfactor_lines.proofs.ArgumentLaws.{read_as-usage, read_as-request}
use Rattle.cpfactor_lines.proofs.words.solve.Goals as goal

pub plain_places-requires-clause-named : goal.plain_places-requires-clause-named
unfolding is_option
plain_places-requires-clause-named c = refl

pub returns-in_err-file-clause-usage : goal.returns-in_err-file-clause-usage
returns-in_err-file-clause-usage c =
    let p = err_from_is_err_and c.from_residual.result c.from_residual.ensures.1 in
    rw (p.1, p.2) (read_as-usage solve (texts c.args.words.now) c.in_err-file.field-0.0.position c.in_err-file.ensures.usage)

pub returns-clause-command : goal.returns-clause-command
returns-clause-command c =
    let file = argument_text _ c.args.words.now c.in_ok-file.field-0 0 c.index-words-file.result c.in_ok-file.ensures.read (omega arith)
    c.index-words-file.is in
    rw (c.as_str.ensures.value, file, c.limits.ensures.value, c.workers.ensures.value, c.is_among.ensures)
    (read_as-request solve (texts c.args.words.now) c.in_ok-file.ensures.read.no_fault)
