use Rattle.std.proofs.Common.{rules}
use Rattle.text_lines.specs.Content.{line_of}
use Rattle.cone_tree_certificate.specs.declared.fault.VerdictKind.TheVariants.{NoHeader}
use Rattle.cone_tree_certificate.specs.Words.{verdict_header}
use Rattle.cone_tree_certificate.specs.ProofText.{verdict_fault}
use Rattle.cone_tree_certificate.proofs.Steps.{next_reads, gives_same}
use Rattle.cone_tree_certificate.proofs.lines.next_header.Goals as goal

pub returns-clause-read : goal.returns-clause-read
returns-clause-read c =
    next_reads (λ x. x) (verdict_header) (verdict_fault NoHeader c.args.lines.now.end) c.placed.result c.header_in.result (line_of c.in_ok-line.line)
    c.args.lines.now.lines c.next_line.new.lines.lines (search rules) (gives_same c.header_in.result _ c.header_in.ensures.value) c.placed.ensures
