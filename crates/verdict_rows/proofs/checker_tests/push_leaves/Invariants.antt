use Rattle.std.specs.List.{All}
use Rattle.cone_tree_certificate.specs.VerdictText.{HasSplit}
use Rattle.verdict_rows.proofs.checker_tests.push_leaves.Given as goal

abbrev pub invariant-loop-leaf : goal.invariant-loop-leaf
invariant-loop-leaf l = All (HasSplit 2) l.tree
