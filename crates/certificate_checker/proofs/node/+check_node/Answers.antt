use Rattle.std.proofs.Common.{ℕ, ◌-◌, Ok, Err, arith}
use Rattle.cone_tree_certificate.proofs.Trees.{split_first, split_second}
use Rattle.certificate_checker.specs.Rows.{at}
use Rattle.certificate_checker.proofs.RowSets.{twice_back}
use Rattle.certificate_checker.proofs.TreeWalks.{IsSplitHere, node, node_ends, node_too_deep, leaf_goes_on, leaf_refused, split_refused, first_child_refused}
use Rattle.certificate_checker.proofs.TreeWalks.{both_children}
use Rattle.certificate_checker.proofs.node.+check_node.Goals as goal
use Rattle.certificate_checker.proofs.node.+check_node.Goals.{After-check_node}

-- the split of this line
split_here : (t : ℕ) (c : After-check_node t)
    → IsSplitHere c.args.n c.args.v.now c.in-Ok-mediant.sums c.args.tree.now c.args.k c.in-Split.i c.in-Split.j c.args.levels
split_here t c = record {
  room = c.told-v;
  few = c.requires.few;
  split = c.in-Split.ensures.split;
  line = c.in-Split.ensures.line;
  some = c.if-levels-eq0.false;
  fits = c.in-Ok-mediant.ensures.fits;
  sums_are = c.in-Ok-mediant.ensures.value;
}

pub returns-then-k-len-clause-follows : goal.returns-then-k-len-clause-follows
returns-then-k-len-clause-follows t c = λ q g due same agree. node_ends c.args.n q c.args.tree.now c.args.k (node g c.args.levels) due (grind arith)

pub returns-then-levels-eq0-clause-follows : goal.returns-then-levels-eq0-clause-follows
returns-then-levels-eq0-clause-follows t c =
    λ q g due same agree. node_too_deep c.args.n q c.args.tree.now c.args.k _ _ c.args.levels g due c.in-Split.ensures.line (grind arith)

pub returns-in-Err-mediant-clause-follows : goal.returns-in-Err-mediant-clause-follows
returns-in-Err-mediant-clause-follows t c = λ q g due same agree.
    split_refused c.args.n q (at c.args.v.now) g c.args.tree.now c.args.k c.in-Split.i c.in-Split.j c.args.levels due _ agree c.in-Split.ensures.line
    c.if-levels-eq0.false
    (split_first _ _ _ c.in-Split.ensures.split) (split_second _ _ _ c.in-Split.ensures.split) c.in-Err-mediant.ensures.wide

pub returns-in-Err-check_node-clause-follows : goal.returns-in-Err-check_node-clause-follows
returns-in-Err-check_node-clause-follows t c =
    first_child_refused _ (at c.args.w.now) _ _ _ _ _ _ _ (split_here t (goal.at.returns-in-Err-check_node-clause-follows t c).After-check_node) _
    c.in-Err-check_node.ensures.follows

pub returns-in-Ok-clause-follows : goal.returns-in-Ok-clause-follows
returns-in-Ok-clause-follows t c =
    λ q g due same agree. leaf_goes_on c.args.n (at c.args.w.now) q (at c.args.v.now) g c.args.tree.now c.args.k c.args.levels due same agree
    c.in-Leaf.ensures.line c.in-Ok.ensures.passes

pub returns-in-Err-clause-follows : goal.returns-in-Err-clause-follows
returns-in-Err-clause-follows t c =
    λ q g due same agree. leaf_refused c.args.n (at c.args.w.now) q (at c.args.v.now) g c.args.tree.now c.args.k c.args.levels due _ same agree
    c.in-Leaf.ensures.line c.in-Err.ensures.refused

pub returns-in-Ok-check_node-2-clause-kept : goal.returns-in-Ok-check_node-2-clause-kept
returns-in-Ok-check_node-2-clause-kept t c =
    let first = split_first _ _ _ c.in-Split.ensures.split in
    let second = split_second _ _ _ c.in-Split.ensures.split in
    twice_back c.args.v.now c.in-Ok-mediant.sums c.check_node.new.v c.check_node-in-Split.new.v (c.in-Split.i - 1) (c.in-Split.j - 1)
    (omega (arith, first, c.requires.few, c.told-v)) (omega (arith, second, c.requires.few, c.told-v)) c.in-Ok-check_node.ensures.kept
    c.in-Ok-check_node-2.ensures.kept

pub returns-in-Err-check_node-2-clause-follows : goal.returns-in-Err-check_node-2-clause-follows
returns-in-Err-check_node-2-clause-follows t c =
    both_children _ (at c.args.w.now) _ _ _ _ _ _ _ (split_here t (goal.at.returns-in-Err-check_node-2-clause-follows t c).After-check_node) _
    c.check_node.new.v (Err _)
    c.in-Ok-check_node.ensures.follows c.in-Ok-check_node.ensures.kept c.in-Err-check_node-2.ensures.follows

pub returns-in-Ok-check_node-2-clause-follows : goal.returns-in-Ok-check_node-2-clause-follows
returns-in-Ok-check_node-2-clause-follows t c =
    both_children _ (at c.args.w.now) _ _ _ _ _ _ _ (split_here t (goal.at.returns-in-Ok-check_node-2-clause-follows t c).After-check_node) _ c.check_node.new.v
    (Ok _)
    c.in-Ok-check_node.ensures.follows c.in-Ok-check_node.ensures.kept c.in-Ok-check_node-2.ensures.follows
