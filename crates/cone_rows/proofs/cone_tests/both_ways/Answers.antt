use Rattle.std.specs.Prelude.{◌-◌}
use Rattle.std.proofs.Common.{subst}
use Rattle.unimodular_cone.specs.Shown.{NamesPair}
use Rattle.unimodular_cone.proofs.ShownAt.{child_at_path}
use Rattle.unimodular_cone.proofs.Ways.{reachable_more}
use Rattle.cone_rows.proofs.cone_tests.both_ways.Goals as goal

pub loop-digit-preserved : goal.loop-digit-preserved
loop-digit-preserved g c =
    let pair = subst (NamesPair c.loop-digit.walked) c.in_ok-i.ensures.ok_part c.pair.ensures in
    let i = c.in_ok-i.i - 1 in
    let j = c.in_ok-i.j - 1 in
    rw c.child-path.ensures (record {
      there = child_at_path _ _ _ _ c.loop-digit.invariant.there i j _ _ pair.1 c.in_ok-walked-2.ensures.made;
      within = c.in_ok-walked-2.ensures.fits;
      reach = reachable_more _ _ _ _ i j _ c.loop-digit.invariant.reach c.loop-digit.invariant.there c.loop-digit.invariant.within pair.1;
    })
