use Rattle.std.specs.Prelude.{◌≤◌, ◌^◌, nat_abs}
use Rattle.std.proofs.Common.{arith, inl, refl, ◌∙◌}
use Rattle.unimodular_cone.specs.Shown.{shown_gram}
use Rattle.unimodular_cone.proofs.NarrowSums.{read_64}
use Rattle.unimodular_cone.proofs.NarrowParts.{narrow_start, narrow_kept, narrow_whole, narrow_back}
use Rattle.unimodular_cone.proofs.narrow_bound.slack_of.Goals as goal

pub left_after-left-requires-clause-part : goal.left_after-left-requires-clause-part
left_after-left-requires-clause-part c =
    let small : nat_abs (shown_gram c.args.c.now c.args.i c.args.i) ≤ 2 ^ 59 = rw (← c.entry.ensures.value) c.entry.ensures.narrow in
    rw (read_64 _ _ c.entry.ensures.value small) (narrow_start _ _ small)

pub left_after-requires-clause-part : goal.left_after-requires-clause-part
left_after-requires-clause-part c =
    rw (narrow_back _ _ _ _ c.left_after-left.ensures (omega (arith, c.requires.few, c.requires.range)))
    (narrow_kept _ _ _ _ c.left_after-left.ensures (inl refl))

pub returns-clause-value : goal.returns-clause-value
returns-clause-value c = narrow_back _ _ _ _ c.left_after.ensures (omega (arith, c.requires.few)) ∙ narrow_whole _ _ _ _ c.left_after.ensures

pub returns-clause-high : goal.returns-clause-high
returns-clause-high c = rw (narrow_back _ _ _ _ c.left_after.ensures (omega (arith, c.requires.few))) c.left_after.ensures.high
