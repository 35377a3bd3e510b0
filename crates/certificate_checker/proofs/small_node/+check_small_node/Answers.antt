use Rattle.std.proofs.Common.{ℕ, ◌-◌, ◌+◌, ◌≡◌, ◌∙◌, true, false, Ok, Err, arith, sym}
use Rattle.std.proofs.lemmas.Result.{err_from_is_err_and}
use Rattle.unimodular_cone.specs.Cones.{gram}
use Rattle.cone_tree_certificate.proofs.Trees.{split_first, split_second}
use Rattle.certificate_checker.specs.Rows.{at}
use Rattle.certificate_checker.specs.Leaves.{is_closed}
use Rattle.certificate_checker.proofs.RowSets.{twice_back}
use Rattle.certificate_checker.proofs.SmallSlacks.{closed_by_images, images_small, leaf_none, mediant_none}
use Rattle.certificate_checker.proofs.TreeWalks.{IsSplitHere, node, node_ends, node_too_deep, leaf_passes, leaf_is_open, leaf_goes_on, leaf_refused}
use Rattle.certificate_checker.proofs.TreeWalks.{first_child_refused, both_children}
use Rattle.certificate_checker.proofs.small_node.+check_small_node.Goals as goal
use Rattle.certificate_checker.proofs.small_node.+check_small_node.Goals.{After-check_small_node}

pub returns-then-k-len-clause-follows : goal.returns-then-k-len-clause-follows
returns-then-k-len-clause-follows t c = λ q g due same agree. node_ends c.args.n q c.args.tree.now c.args.k (node g c.args.levels) due (grind arith)

pub returns-in-Split-clause-follows : goal.returns-in-Split-clause-follows
returns-in-Split-clause-follows t c =
    λ q g due same agree. node_too_deep c.args.n q c.args.tree.now c.args.k _ _ c.args.levels g due c.in-Split.ensures.line (grind arith)

-- ---- a leaf
pub is_closed-requires-clause-images : goal.is_closed-requires-clause-images
is_closed-requires-clause-images t c =
    images_small c.args.n (at c.args.w.now) (at c.args.v.now) (at c.args.images.now) c.requires.few c.requires.matrix c.requires.generators c.requires.images

pub returns-then-is_closed-clause-follows : goal.returns-then-is_closed-clause-follows
returns-then-is_closed-clause-follows t c =
    let w = at c.args.w.now in
    let v = at c.args.v.now in
    let closed : is_closed c.args.n (gram c.args.n w v) ≡ true =
    sym (closed_by_images c.args.n w v (at c.args.images.now) c.requires.symmetric c.requires.images) ∙ sym c.is_closed.ensures ∙ c.if-is_closed.true in
    λ q g due same agree. leaf_goes_on c.args.n w q v g c.args.tree.now c.args.k c.args.levels due same agree c.in-Leaf.ensures.line
    (leaf_passes c.args.n w v (c.args.k + 1) (leaf_none c.args.n w v c.requires.few c.requires.matrix c.requires.generators) closed)

pub returns-else-is_closed-clause-follows : goal.returns-else-is_closed-clause-follows
returns-else-is_closed-clause-follows t c =
    let w = at c.args.w.now in
    let v = at c.args.v.now in
    let not : is_closed c.args.n (gram c.args.n w v) ≡ false = sym (closed_by_images c.args.n w v (at c.args.images.now) c.requires.symmetric c.requires.images)
    ∙ sym c.is_closed.ensures ∙ c.if-is_closed.false in
    λ q g due same agree. leaf_refused c.args.n w q v g c.args.tree.now c.args.k c.args.levels due _ same agree c.in-Leaf.ensures.line
    (leaf_is_open c.args.n w v (c.args.k + 1) (leaf_none c.args.n w v c.requires.few c.requires.matrix c.requires.generators) not)

-- ---- a split
split_here : (t : ℕ) (c : After-check_small_node t)
    → IsSplitHere c.args.n c.args.v.now c.sums_of-sums.result c.args.tree.now c.args.k c.in-Split.i c.in-Split.j c.args.levels
split_here t c = record {
  room = c.told-v;
  few = c.requires.few;
  split = c.in-Split.ensures.split;
  line = c.in-Split.ensures.line;
  some = c.if-levels-eq0.false;
  fits = mediant_none c.args.n (at c.args.v.now) (c.in-Split.i - 1) (c.in-Split.j - 1) (split_first _ _ _ c.in-Split.ensures.split)
      (split_second _ _ _ c.in-Split.ensures.split) c.requires.generators;
  sums_are = c.sums_of-sums.ensures;
}

pub returns-in_err-next-in-Split-2-clause-follows : goal.returns-in_err-next-in-Split-2-clause-follows
returns-in_err-next-in-Split-2-clause-follows t c =
    let p = err_from_is_err_and c.from_residual.result c.from_residual.ensures.1 in
    rw (p.1, p.2)
    (first_child_refused c.args.n (at c.args.w.now) c.args.v.now c.sums_of-sums.result c.args.tree.now c.args.k c.in-Split.i c.in-Split.j c.args.levels
    (split_here t (goal.at.returns-in_err-next-in-Split-2-clause-follows t c).After-check_small_node) _ c.in_err-next-in-Split-2.ensures.follows)

pub returns-in_err-end-in-Split-2-clause-follows : goal.returns-in_err-end-in-Split-2-clause-follows
returns-in_err-end-in-Split-2-clause-follows t c =
    let p = err_from_is_err_and c.from_residual-in_err-end-in-Split-2.result c.from_residual-in_err-end-in-Split-2.ensures.1 in
    rw (p.1, p.2)
    (both_children _ (at c.args.w.now) _ _ _ _ _ _ _ (split_here t (goal.at.returns-in_err-end-in-Split-2-clause-follows t c).After-check_small_node)
    _ c.check_small_node.new.v (Err _) c.in_ok-next-in-Split-2.ensures.follows c.in_ok-next-in-Split-2.ensures.kept c.in_err-end-in-Split-2.ensures.follows)

pub returns-in_ok-end-in-Split-2-clause-kept : goal.returns-in_ok-end-in-Split-2-clause-kept
returns-in_ok-end-in-Split-2-clause-kept t c =
    let first = split_first _ _ _ c.in-Split.ensures.split in
    let second = split_second _ _ _ c.in-Split.ensures.split in
    twice_back c.args.v.now c.sums_of-sums.result c.check_small_node.new.v c.check_small_node-in-Split-2.new.v (c.in-Split.i - 1) (c.in-Split.j - 1)
    (omega (arith, first, c.requires.few, c.told-v)) (omega (arith, second, c.requires.few, c.told-v)) c.in_ok-next-in-Split-2.ensures.kept
    c.in_ok-end-in-Split-2.ensures.kept

pub returns-in_ok-end-in-Split-2-clause-images_kept : goal.returns-in_ok-end-in-Split-2-clause-images_kept
returns-in_ok-end-in-Split-2-clause-images_kept t c =
    let first = split_first _ _ _ c.in-Split.ensures.split in
    let second = split_second _ _ _ c.in-Split.ensures.split in
    twice_back c.args.images.now c.image-image.result c.check_small_node.new.images c.check_small_node-in-Split-2.new.images (c.in-Split.i - 1)
    (c.in-Split.j - 1)
    (omega (arith, first, c.requires.few, c.told-images)) (omega (arith, second, c.requires.few, c.told-images)) c.in_ok-next-in-Split-2.ensures.images_kept
    c.in_ok-end-in-Split-2.ensures.images_kept

pub returns-in_ok-end-in-Split-2-clause-follows : goal.returns-in_ok-end-in-Split-2-clause-follows
returns-in_ok-end-in-Split-2-clause-follows t c =
    both_children _ (at c.args.w.now) _ _ _ _ _ _ _ (split_here t (goal.at.returns-in_ok-end-in-Split-2-clause-follows t c).After-check_small_node)
    _ c.check_small_node.new.v (Ok _) c.in_ok-next-in-Split-2.ensures.follows c.in_ok-next-in-Split-2.ensures.kept c.in_ok-end-in-Split-2.ensures.follows
