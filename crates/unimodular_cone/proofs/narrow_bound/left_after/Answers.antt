use Rattle.std.specs.Prelude.{◌≢◌, ◌<◌, ◌≤◌, ◌^◌, nat_abs}
use Rattle.std.proofs.Common.{arith}
use Rattle.unimodular_cone.specs.Shown.{shown_gram}
use Rattle.unimodular_cone.proofs.NarrowSums.{read_64}
use Rattle.unimodular_cone.proofs.NarrowParts.{narrow_fits, narrow_added_read, narrow_kept_read}
use Rattle.unimodular_cone.proofs.narrow_bound.left_after.Goals as goal
use Rattle.unimodular_cone.proofs.narrow_bound.left_after.Goals.{After-entry-beside, then-beside-lt0, else-beside-lt0}

within : (c : After-entry-beside) → (c.loop-j.j < 8) × (nat_abs (shown_gram c.args.c.now c.args.i c.loop-j.j) ≤ 2 ^ 59)
within c = (omega (arith, c.requires.few, c.requires.columns), rw (← c.entry-beside.ensures.value) c.entry-beside.ensures.narrow)

pub overflow_add-left : goal.overflow_add-left
overflow_add-left c =
    let h = within (goal.at.overflow_add-left c).After-entry-beside in
    rw (read_64 _ _ c.entry-beside.ensures.value h.1) (narrow_fits _ _ _ _ _ c.loop-j.invariant h.0 h.1)

pub loop-j-preserved : goal.loop-j-preserved
loop-j-preserved c =
    let h = within (goal.at.loop-j-preserved c).After-entry-beside in
    let back = read_64 _ _ c.entry-beside.ensures.value h.1 in
    let ne : c.loop-j.j ≢ c.args.i = c.requires.beside c.loop-j.j c.loop-j.auto.j c.loop-j-test.true in
    elim c.if-beside-lt0.branch [
      | then-beside-lt0 w ↦ narrow_added_read _ _ _ _ _ _ c.loop-j.invariant h.0 back h.1 ne w.if-beside-lt0.true w.left-is
      | else-beside-lt0 w ↦ narrow_kept_read _ _ _ _ _ _ c.loop-j.invariant back w.if-beside-lt0.false w.left-is
    ]
