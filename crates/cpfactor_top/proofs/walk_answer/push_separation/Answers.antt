use Rattle.std.proofs.Common.{◌≡◌, refl, List, ℕ, ◌++◌}
use Rattle.symmetric_matrix.specs.Symmetric.{entry}
use Rattle.cone_tree_certificate.specs.declared.verdict.Verdict.TheVariants.{Separator}
use Rattle.cone_tree_certificate.specs.VerdictText.{verdict_text, IsWhole}
use Rattle.cpfactor_top.specs.WalkTexts.{AddsSeparation}
use Rattle.cpfactor_top.proofs.WalkAnswers.{on_ok_follows, on_ok_both}
use Rattle.cpfactor_top.proofs.TreeLines.{proving_splits}
use Rattle.cpfactor_top.proofs.walk_answer.push_separation.Goals as goal

pub write_verdict-requires : goal.write_verdict-requires
write_verdict-requires c = (c.requires.few, proving_splits c.args.w.size (entry c.args.w) c.in_ok-tree.tree c.in_ok-tree.ensures.proves)

pub returns : goal.returns
returns c =
    let old : List ℕ = c.args.text.now.items in let new : List ℕ = c.write_verdict.new.into.items in
    let made : List ℕ = verdict_text (Separator c.args.w c.args.value c.in_ok-tree.tree) in
    let whole : Type 0 = IsWhole (Separator c.args.w c.args.value c.in_ok-tree.tree) in
    on_ok_follows ((new ≡ old ++ made) × whole) (AddsSeparation c.args.depth c.args.w c.args.value old new) c.write_verdict.result
    (λ (h : (new ≡ old ++ made) × whole). (
      made,
      record {
        tree = c.in_ok-tree.tree;
        by_pairs = c.in_ok-tree.ensures.pairs;
        proved = c.in_ok-tree.ensures.proves;
        written = refl;
        whole = h.1;
      },
      h.0,
    ))
    (on_ok_both (new ≡ old ++ made) whole c.write_verdict.result c.write_verdict.ensures.ok c.write_verdict.ensures.whole)
