use Rattle.std.proofs.Common.{take}
use Rattle.std.specs.List.{flat_map}
use Rattle.cone_tree_certificate.specs.declared.tree.TreeLine.{TreeLine}
use Rattle.text_lines.specs.Spelling.{line_of_words}
use Rattle.cone_tree_certificate.specs.VerdictText.{tree_words}
use Rattle.text_lines.proofs.Written.{IsWriting}
use Rattle.cone_tree_certificate.proofs.writing.push_tree.Given as goal

abbrev pub invariant-loop-index : goal.invariant-loop-index
invariant-loop-index l = IsWriting l.fn.into.items l.into.items (flat_map (λ (line : TreeLine). line_of_words (tree_words line)) (take l.index l.tree))
