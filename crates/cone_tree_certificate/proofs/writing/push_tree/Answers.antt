use Rattle.std.proofs.Common.{◌≡◌, ◌≤◌, length, refl, arith}
use Rattle.cone_tree_certificate.specs.declared.tree.TreeLine.{TreeLine}
use Rattle.text_lines.specs.Spelling.{line_of_words}
use Rattle.text_lines.proofs.Written.{Extends-same, still_kept}
use Rattle.cone_tree_certificate.specs.VerdictText.{tree_words, written_tree}
use Rattle.cone_tree_certificate.proofs.WrittenLines.{flat_none, flat_more, flat_all}
use Rattle.cone_tree_certificate.proofs.writing.push_tree.Goals as goal

pub loop-index-init : goal.loop-index-init
loop-index-init c = record { so_far = flat_none (λ (line : TreeLine). line_of_words (tree_words line)) c.args.into.now.items; kept = Extends-same _ _ refl }

pub loop-index-preserved : goal.loop-index-preserved
loop-index-preserved c = record {
  so_far = flat_more (λ (line : TreeLine). line_of_words (tree_words line)) c.args.tree.now c.loop-index.index _ c.args.into.now.items c.loop-index.into.items
      c.push_tree_line.new.into.items c.at.ensures c.loop-index.invariant.so_far c.in_ok-push_tree_line.ensures.ok;
  kept = still_kept _ _ _ _ c.loop-index.invariant c.push_tree_line.ensures.kept;
}

pub returns-in_err-push_tree_line-clause-kept : goal.returns-in_err-push_tree_line-clause-kept
returns-in_err-push_tree_line-clause-kept c = still_kept _ _ _ _ c.loop-index.invariant c.push_tree_line.ensures.kept

pub returns-clause-ok : goal.returns-clause-ok
unfolding written_tree
returns-clause-ok c =
    let n = c.len-index-end.ensures in
    let test = c.loop-index-test.false in
    let all : length c.args.tree.now ≤ c.loop-index.index = omega (arith, n, test) in
    flat_all (λ (line : TreeLine). line_of_words (tree_words line)) c.args.tree.now c.loop-index.index c.args.into.now.items c.loop-index.into.items all
    c.loop-index.invariant.so_far
