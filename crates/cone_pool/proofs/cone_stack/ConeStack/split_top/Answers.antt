use Rattle.std.specs.Prelude.{◌≡◌, ◌+◌, ◌-◌, ℕ, List, take}
use Rattle.std.proofs.Common.{arith, sym, subst}
use Rattle.unimodular_cone.specs.Shown.{ShownCone}
use Rattle.cone_pool.specs.Turns.{CanSplitTop, IsTopSplit}
use Rattle.cone_pool.proofs.Rows.{some_rows, rows_stand}
use Rattle.cone_pool.proofs.cone_stack.ConeStack.split_top.Goals as goal

pub split_in-requires-clause-splits : goal.split_in-requires-clause-splits
split_in-requires-clause-splits c =
    subst (λ (s : List ShownCone). CanSplitTop s c.args.i c.args.j)
    (sym (rows_stand c.self.inside.rows.items c.fill_above.new.rows.items c.args.self.now c.self.inside.len c.self.view_is c.requires.some
    c.in_ok-fill_above.ensures.same)) c.requires.splits

pub returns : goal.returns
returns c =
    let rows : List ShownCone = c.self.inside.rows.items in
    let filled : List ShownCone = c.fill_above.new.rows.items in
    let after : List ShownCone = c.split_in.new.rows.items in
    let len : ℕ = c.self.inside.len in
    let e : take (len - 1 + 1) filled ≡ c.args.self.now = rows_stand rows filled c.args.self.now len c.self.view_is c.requires.some
    c.in_ok-fill_above.ensures.same in
    let f : len - 1 + 2 ≡ len + 1 = omega (arith, some_rows rows c.args.self.now len c.self.view_is c.requires.some) in
    subst (λ (s : List ShownCone). IsTopSplit s c.args.i c.args.j (take (len + 1) after)) e
    (subst (λ (k : ℕ). IsTopSplit (take (len - 1 + 1) filled) c.args.i c.args.j (take k after)) f c.split_in.ensures.split)
