use Rattle.std.proofs.Common.{rules}
use Rattle.text_lines.specs.Content.{line_of}
use Rattle.cone_tree_certificate.specs.Words.{value_of}
use Rattle.cone_tree_certificate.specs.ProofText.{missing_line}
use Rattle.cone_tree_certificate.proofs.Steps.{next_reads, gives_same}
use Rattle.cone_tree_certificate.proofs.lines.next_value.Goals as goal

pub returns-clause-read : goal.returns-clause-read
returns-clause-read c =
    next_reads (λ x. x) (value_of) (missing_line c.args.lines.now.end) c.placed.result c.value.result (line_of c.in_ok-line.line) c.args.lines.now.lines
    c.next_line.new.lines.lines (search rules) (gives_same c.value.result _ c.value.ensures) c.placed.ensures
