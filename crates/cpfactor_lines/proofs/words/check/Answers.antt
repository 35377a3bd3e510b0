use Rattle.std.proofs.Common.{arith}
use Rattle.std.proofs.lemmas.Result.{err_from_is_err_and}
use Rattle.cpfactor_lines.specs.Commands.{check}
use Rattle.cpfactor_lines.specs.Requests.{texts}
use Rattle.cpfactor_lines.proofs.ReaderSteps.{argument_text}
use Rattle.cpfactor_lines.proofs.ArgumentLaws.{read_as-usage, read_as-request}
use Rattle.cpfactor_lines.proofs.words.check.Goals as goal

pub returns-in_err-file-clause-usage : goal.returns-in_err-file-clause-usage
returns-in_err-file-clause-usage c =
    let p = err_from_is_err_and c.from_residual.result c.from_residual.ensures.1 in
    rw (p.1, p.2) (read_as-usage check (texts c.args.words.now) c.in_err-file.field-0.0.position c.in_err-file.ensures.usage)

pub returns-clause-command : goal.returns-clause-command
returns-clause-command c =
    let file = argument_text _ c.args.words.now c.in_ok-file.field-0 0 c.index-words-file.result c.in_ok-file.ensures.read (omega arith)
    c.index-words-file.is in
    let proof = argument_text _ c.args.words.now c.in_ok-file.field-0 1 c.index-words-proof.result c.in_ok-file.ensures.read (omega arith)
    c.index-words-proof.is in
    rw (c.as_str.ensures.value, c.as_str-2.ensures.value, file, proof) (read_as-request check (texts c.args.words.now) c.in_ok-file.ensures.read.no_fault)
