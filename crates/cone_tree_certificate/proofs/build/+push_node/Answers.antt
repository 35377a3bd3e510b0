use Rattle.std.specs.Bool.{IsTrue}
use Rattle.std.specs.Prelude.{pos}
use Rattle.std.proofs.Common.{◌≡◌, ℕ, Bool, suc, ◌-◌, ◌<◌, ◌++◌, ◌∷◌, [], length, true, false, ◌∙◌, sym, subst, arith, rules, ap}
use Rattle.std.proofs.lemmas.Result.{on_ok_weaker}
use Rattle.symmetric_matrix.specs.Symmetric.{entry}
use Rattle.symmetric_matrix.proofs.Places.{entry_flip}
use Rattle.unimodular_cone.specs.Cones.{Matrix}
use Rattle.unimodular_cone.specs.Paths.{Path}
use Rattle.unimodular_cone.specs.Shown.{ShownCone, IsConeAt, IsChild}
use Rattle.unimodular_cone.specs.Tree.{IsClosedAt}
use Rattle.unimodular_cone.proofs.ShownAt.{closed_at, pair_at, no_pair_at}
use Rattle.unimodular_cone.proofs.Tree.{length_child}
use Rattle.cone_tree_certificate.specs.WayDown.{IsOnWayDown}
use Rattle.cone_tree_certificate.proofs.Building.{closed_if_no_pair, short_of, not_wide_below, child_way, leaf_added, split_added, child_reached, open_at}
use Rattle.cone_tree_certificate.proofs.Building.{wide_child, split_is, same_way}
use Rattle.cone_tree_certificate.proofs.build.+push_node.Goals as goal
use Rattle.cone_tree_certificate.proofs.build.+push_node.Goals.{After-pair, After-split-zero}

never : IsTrue false → ⊥
never h = cc

always : IsTrue true
always = search rules

pub returns-then-closed : goal.returns-then-closed
returns-then-closed t c =
    on_ok_weaker c.push.result
    (λ e. leaf_added c.args.w.now.size (entry c.args.w.now) (c.args.limit - length c.args.cone.path) _ _ _
    (closed_at c.args.w.now.size (entry c.args.w.now) c.args.cone.path c.args.cone c.requires.reached (pos 0) (c.if-closed.ensures.0 always)) e)
    c.push.ensures.ok

-- the cone is not closed
open_here : (t : ℕ) (c : After-pair t) → IsClosedAt c.args.w.now.size (entry c.args.w.now) c.args.cone.path (pos 0) → ⊥
open_here t c = open_at c.args.w.now.size (entry c.args.w.now) c.args.cone c.requires.reached (λ k. never (c.if-closed.ensures.1 k))

-- so it has fewer splits above it than the limit
short_here : (t : ℕ) (c : After-pair t) → length c.args.cone.path < c.args.limit
short_here t c =
    short_of c.args.w.now.size (entry c.args.w.now) c.args.limit (λ i j li lj. entry_flip c.args.w.now i j) c.requires.answer c.args.cone.path c.requires.way
    (open_here t c)

-- a child is on the way down too, with one split more above it
record IsBelow (n : ℕ) (w : Matrix) (limit : ℕ) (p : Path) (d : ShownCone) : Type 0 where
  reached : IsConeAt n w d.path d
  way : IsOnWayDown n w limit d.path
  longer : length d.path ≡ suc (length p)

child_here : (t : ℕ) (c : After-split-zero t) (d : ShownCone) (side : Bool)
    → (IsClosedAt c.args.w.now.size (entry c.args.w.now) c.args.cone.path (pos 0) → ⊥) → IsChild c.args.cone (c.in-Some.i - 1) (c.in-Some.j - 1) side d
    → IsBelow c.args.w.now.size (entry c.args.w.now) c.args.limit c.args.cone.path d
child_here t c d side not_closed is =
    let pair = pair_at c.args.w.now.size (entry c.args.w.now) c.args.cone.path c.args.cone c.requires.reached (c.in-Some.i - 1) (c.in-Some.j - 1)
    c.in-Some.ensures.1 in
    record {
      reached = child_reached c.args.w.now.size (entry c.args.w.now) c.args.cone d (c.in-Some.i - 1) (c.in-Some.j - 1) side c.requires.reached
          c.in-Some.ensures.1 is;
      way = subst (λ (p : Path). IsOnWayDown c.args.w.now.size (entry c.args.w.now) c.args.limit p) (sym is.path_is)
          (child_way c.args.w.now.size (entry c.args.w.now) c.args.limit (λ i j li lj. entry_flip c.args.w.now i j) c.requires.answer c.args.cone.path
          c.requires.way not_closed (c.in-Some.i - 1) (c.in-Some.j - 1) pair side);
      longer = ap length is.path_is ∙ length_child c.args.cone.path side;
    }

pub unreachable-requires : goal.unreachable-requires
unreachable-requires t c =
    open_here t (goal.at.unreachable-requires t c).After-pair
    (closed_if_no_pair c.args.w.now.size (entry c.args.w.now) c.args.limit (λ i j li lj. entry_flip c.args.w.now i j) c.requires.answer c.args.cone.path
    c.requires.way (no_pair_at c.args.w.now.size (entry c.args.w.now) c.args.cone.path c.args.cone c.requires.reached c.in_default.ensures))

pub children_fit-requires-clause-room : goal.children_fit-requires-clause-room
children_fit-requires-clause-room t c =
    let short = short_here t (goal.at.children_fit-requires-clause-room t c).After-pair in omega (arith, short, c.requires.limited)

pub unreachable-requires-in_default-children_fit : goal.unreachable-requires-in_default-children_fit
unreachable-requires-in_default-children_fit t c =
    not_wide_below c.args.w.now.size (entry c.args.w.now) c.args.limit (λ i j li lj. entry_flip c.args.w.now i j) c.requires.answer c.args.cone.path
    c.requires.way (open_here t (goal.at.unreachable-requires-in_default-children_fit t c).After-pair)
    (wide_child c.args.w.now.size (entry c.args.w.now) c.args.cone (c.in-Some.i - 1) (c.in-Some.j - 1) c.in_default-children_fit.field-0 c.requires.reached
    c.in-Some.ensures.1 c.in_default-children_fit.ensures)

pub split-zero-requires-clause-room : goal.split-zero-requires-clause-room
split-zero-requires-clause-room t c =
    let short = short_here t (goal.at.split-zero-requires-clause-room t c).After-pair in omega (arith, short, c.requires.limited)

pub push_node-requires : goal.push_node-requires
push_node-requires t c =
    let at = goal.at.push_node-requires t c in
    let short = short_here t at.After-pair in
    let child = child_here t at.After-split-zero c.split-zero.result false (open_here t at.After-pair) c.split-zero.ensures.zero in
    (omega (arith, c.decreases, child.longer, short), (c.requires.limited, (c.requires.answer, (child.reached, child.way))))

pub push_node-requires-2 : goal.push_node-requires-2
push_node-requires-2 t c =
    let at = goal.at.push_node-requires-2 t c in
    let short = short_here t at.After-pair in
    let child = child_here t at.After-split-zero c.split-zero.new.self true (open_here t at.After-pair) c.split-zero.ensures.one in
    (omega (arith, c.decreases, child.longer, short), (c.requires.limited, (c.requires.answer, (child.reached, child.way))))

pub returns : goal.returns
returns t c =
    let at = (goal.at.returns t c).After-pair in
    let pair = pair_at c.args.w.now.size (entry c.args.w.now) c.args.cone.path c.args.cone c.requires.reached (c.in-Some.i - 1) (c.in-Some.j - 1)
    c.in-Some.ensures.1 in
    on_ok_weaker c.push_node-2.result
    (λ one. split_added c.args.w.now.size (entry c.args.w.now) c.args.limit c.in-Some.i c.in-Some.j c.args.cone.path c.args.tree.now c.push-2.new.self
    c.push_node.new.tree c.push_node-2.new.tree (short_here t at) (open_here t at)
    (split_is c.args.w.now.size (entry c.args.w.now) c.args.cone c.in-Some.i c.in-Some.j c.requires.reached c.in-Some.ensures.0 c.in-Some.ensures.1) pair
    c.in_ok-push.ensures.ok
    (same_way c.args.w.now.size (entry c.args.w.now) c.args.limit c.split-zero.result.path (c.args.cone.path ++ false ∷ []) c.push-2.new.self
    c.push_node.new.tree c.split-zero.ensures.zero.path_is c.in_ok-push_node.ensures)
    (same_way c.args.w.now.size (entry c.args.w.now) c.args.limit c.split-zero.new.self.path (c.args.cone.path ++ true ∷ []) c.push_node.new.tree
    c.push_node-2.new.tree c.split-zero.ensures.one.path_is one)) c.push_node-2.ensures
