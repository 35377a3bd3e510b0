use Rattle.std.specs.Prelude.{◌≡◌, ◌<◌, ◌≤◌, ◌+◌, ◌-◌, ℕ, List, true, false, [], ◌∷◌, ◌++◌, length, take, slice_index_or}
use Rattle.std.proofs.Common.{arith, ◌∙◌, ap, sym, subst, length-take, length-set}
use Rattle.unimodular_cone.specs.Shown.{ShownCone, IsChild, FitsOnBothSides}
use Rattle.cone_pool.specs.Turns.{IsSplitPair}
use Rattle.unimodular_cone.proofs.Tops.{on_top, set_parts, take_pair}
use Rattle.cone_pool.proofs.Tops.{top_read}
use Rattle.cone_pool.proofs.Rows.{rest_below}
use Rattle.cone_pool.proofs.cone_stack.split_rows.Goals as goal

here : (c : goal.After-index-above-0) → c.args.top + 1 ≡ length (take (c.args.top + 1) c.args.rows.now)
here c = omega (arith, length-take (c.args.top + 1) c.args.rows.now, c.requires.inside)

read : (c : goal.After-index-above-0)
    → c.index-below-top.result ≡ slice_index_or (take (c.args.top + 1) c.args.rows.now) c.args.top c.index-below-top.result
read c = c.index-below-top.is ∙ ap (λ (s : List ShownCone). slice_index_or s c.args.top c.index-below-top.result) c.split_at_mut-below.ensures.front

top_splits : (c : goal.After-index-above-0) → IsSplitPair c.index-below-top.result c.args.i c.args.j
top_splits c =
    let stack : List ShownCone = take (c.args.top + 1) c.args.rows.now in
    c.requires.splits c.index-below-top.result (take c.args.top stack) (on_top stack c.index-below-top.result c.args.top (here c) (read c))

pub split_into-requires-clause-first : goal.split_into-requires-clause-first
split_into-requires-clause-first c = (top_splits c).0.0

pub split_into-requires-clause-order : goal.split_into-requires-clause-order
split_into-requires-clause-order c = let s = top_splits c in let o : c.args.i - 1 < c.args.j - 1 = s.0.1.order in omega arith

pub split_into-requires-clause-last : goal.split_into-requires-clause-last
split_into-requires-clause-last c = subst (λ (d : ShownCone). c.args.j ≤ d.size) c.index-below-top.is
    (let s = top_splits c in let r : c.args.j - 1 < c.index-below-top.result.size = s.0.1.range in omega arith)

pub split_into-requires-clause-room : goal.split_into-requires-clause-room
split_into-requires-clause-room c = subst (λ (d : ShownCone). length d.path < 200) c.index-below-top.is (top_splits c).2

pub split_into-requires-clause-fits : goal.split_into-requires-clause-fits
split_into-requires-clause-fits c =
    subst (λ (d : ShownCone). FitsOnBothSides d (c.args.i - 1) (c.args.j - 1)) c.index-below-top.is (top_splits c).1

pub returns-clause-split : goal.returns-clause-split
returns-clause-split c cone rest top =
    let rows : List ShownCone = c.args.rows.now in
    let at : ℕ = c.args.top in
    let second : ShownCone = c.split_into.new.self in
    let first : ShownCone = c.split_into.new.above in
    let is : c.index-below-top.result ≡ cone = top_read (take (at + 1) rows) rest cone c.index-below-top.result at top
    (omega (arith, length-take (at + 1) rows, c.requires.inside))
    (c.index-below-top.is ∙ ap (λ (s : List ShownCone). slice_index_or s at c.index-below-top.result) c.split_at_mut-below.ensures.front) in
    record {
      second = second;
      first = first;
      is_second = subst (λ (d : ShownCone). IsChild d (c.args.i - 1) (c.args.j - 1) true second) (sym c.index-below-top.is ∙ is) c.split_into.ensures.one;
      is_first = subst (λ (d : ShownCone). IsChild d (c.args.i - 1) (c.args.j - 1) false first) (sym c.index-below-top.is ∙ is) c.split_into.ensures.zero;
      stack = ap (take (at + 2)) (set_parts _ _ _ at _ _ c.split_at_mut-below.ensures.value c.split_at_mut-below.ensures.front_len)
          ∙ take_pair rows at second first c.requires.inside
          ∙ ap (λ (s : List ShownCone). s ++ second ∷ first ∷ []) (rest_below rows rest cone at (omega (arith, c.requires.inside)) top);
    }

pub returns-clause-counted : goal.returns-clause-counted
returns-clause-counted c =
    ap length (set_parts _ _ _ c.args.top _ _ c.split_at_mut-below.ensures.value c.split_at_mut-below.ensures.front_len)
    ∙ length-set _ _ _ ∙ length-set _ _ _
