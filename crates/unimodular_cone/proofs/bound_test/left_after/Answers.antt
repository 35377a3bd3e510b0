use Rattle.std.specs.Prelude.{◌≢◌, ◌<◌, ◌≤◌, ◌^◌, nat_abs}
use Rattle.std.proofs.Common.{arith, inr}
use Rattle.unimodular_cone.specs.Shown.{shown_gram}
use Rattle.unimodular_cone.proofs.PartSlack.{part_fits, read_back, part_added_read, part_kept_read}
use Rattle.unimodular_cone.proofs.ShownLaws.{gram_within}
use Rattle.unimodular_cone.proofs.bound_test.left_after.Given.{Over}
use Rattle.unimodular_cone.proofs.bound_test.left_after.Goals as goal
use Rattle.unimodular_cone.proofs.bound_test.left_after.Goals.{After-entry-beside, then-beside-lt0, else-beside-lt0}

within : (g : Over) (c : After-entry-beside g)
    → (c.loop-j.j < 8) × (nat_abs (shown_gram (g.C.ConeRead.cone c.args.c.now) c.args.i c.loop-j.j) ≤ 2 ^ 100)
within g c = (omega (arith, c.requires.fits.few), gram_within _ _ _ c.requires.fits c.requires.range (omega arith))

pub overflow_add-left : goal.overflow_add-left
overflow_add-left g c =
    let h = within g (goal.at.overflow_add-left g c).After-entry-beside in
    rw (read_back _ _ c.entry-beside.ensures h.1) (part_fits _ _ _ _ c.loop-j.invariant h.0 h.1)

pub loop-j-preserved : goal.loop-j-preserved
loop-j-preserved g c =
    let h = within g (goal.at.loop-j-preserved g c).After-entry-beside in
    let back = read_back _ _ c.entry-beside.ensures h.1 in
    let ne : c.loop-j.j ≢ c.args.i = c.requires.beside c.loop-j.j c.loop-j.auto.j c.loop-j-test.true in
    elim c.if-beside-lt0.branch [
      | then-beside-lt0 w ↦ part_added_read _ _ _ _ _ _ c.loop-j.invariant h.0 back h.1 ne w.if-beside-lt0.true w.left-is
      | else-beside-lt0 w ↦ part_kept_read _ _ _ _ _ _ c.loop-j.invariant back (inr w.if-beside-lt0.false) w.left-is
    ]
