use Rattle.text_lines.proofs.Counted.{IsReading}
use Rattle.cone_tree_certificate.specs.Words.{tree_line_of}
use Rattle.cone_tree_certificate.specs.ProofText.{missing_line, verdict_line}
use Rattle.cone_tree_certificate.proofs.lines.tree_in.Given as goal

abbrev pub invariant-loop-index : goal.invariant-loop-index
invariant-loop-index l =
    IsReading (verdict_line (tree_line_of l.n)) (missing_line l.fn.lines.end) l.count l.index l.tree l.fn.lines.lines l.lines.lines l.fn.lines.end l.lines.end
