use Rattle.std.proofs.Common.{rules}
use Rattle.std.proofs.lemmas.Result.{err_from_is_err_and}
use Rattle.text_lines.specs.Content.{line_of}
use Rattle.cone_tree_certificate.specs.ProofText.{missing_line}
use Rattle.cone_tree_certificate.proofs.Steps.{row_refused, row_reads}
use Rattle.cone_tree_certificate.proofs.lines.next_row.Goals as goal

pub returns-in_err-entries-clause-read : goal.returns-in_err-entries-clause-read
returns-in_err-entries-clause-read c =
    let p = err_from_is_err_and c.from_residual-in_err-entries.result c.from_residual-in_err-entries.ensures.1 in
    rw (p.1, p.2)
    (row_refused c.args.n (missing_line c.args.lines.now.end) c.in_err-entries.field-0.0 c.row.result (line_of c.in_ok-line.line) c.args.lines.now.lines
    c.next_line.new.lines.lines (search rules) c.row.ensures c.in_err-entries.ensures)

pub returns-clause-read : goal.returns-clause-read
returns-clause-read c =
    row_reads c.args.n (missing_line c.args.lines.now.end) c.in_ok-entries.entries c.row.result (line_of c.in_ok-line.line) c.args.lines.now.lines
    c.next_line.new.lines.lines (search rules) c.row.ensures c.in_ok-entries.ensures
