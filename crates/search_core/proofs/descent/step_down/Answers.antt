use Rattle.std.specs.Prelude.{ℕ, Bool, true, false, nat_eq, ◌-◌}
use Rattle.unimodular_cone.specs.Shown.{ShownCone, FitsOnBothSides, FitsOnSide}
use Rattle.search_core.proofs.descent.step_down.Goals as goal

on_side : (c : ShownCone) (i j : ℕ) (side : Bool) → FitsOnBothSides c i j → FitsOnSide c i j side
on_side c i j false f = f.first
on_side c i j true f = f.second

pub step-requires-clause-fits : goal.step-requires-clause-fits
step-requires-clause-fits c =
    on_side c.args.c.now (c.in-Some.i - 1) (c.in-Some.j - 1) (nat_eq c.args.side 1) (c.requires.splits.fits c.in-Some.i c.in-Some.j c.in-Some.ensures)
