use Rattle.std.specs.List.{All}
use Rattle.cone_tree_certificate.specs.VerdictText.{HasSplit}
use Rattle.verdict_rows.proofs.checker_tests.lines.Given as goal

abbrev pub invariant-loop-split : goal.invariant-loop-split
invariant-loop-split l = All (HasSplit 2) l.tree
