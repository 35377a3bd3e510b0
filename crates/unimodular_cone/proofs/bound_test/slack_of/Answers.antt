use Rattle.std.specs.Prelude.{◌≤◌, ◌^◌, nat_abs}
use Rattle.std.proofs.Common.{arith, inl, refl, ◌∙◌}
use Rattle.unimodular_cone.specs.Shown.{shown_gram}
use Rattle.unimodular_cone.proofs.PartSlack.{part_start, part_kept, part_whole, part_back, read_back}
use Rattle.unimodular_cone.proofs.ShownLaws.{gram_within}
use Rattle.unimodular_cone.proofs.bound_test.slack_of.Goals as goal

pub left_after-left-requires-clause-part : goal.left_after-left-requires-clause-part
left_after-left-requires-clause-part g c =
    let small : nat_abs (shown_gram (g.C.ConeRead.cone c.args.c.now) c.args.i c.args.i) ≤ 2 ^ 100 =
    gram_within _ _ _ c.requires.fits (omega arith) (omega arith) in
    rw (read_back _ _ c.entry.ensures small) (part_start _ _ small)

pub left_after-requires-clause-part : goal.left_after-requires-clause-part
left_after-requires-clause-part g c =
    rw (part_back _ _ _ _ c.left_after-left.ensures (omega (arith, c.requires.fits.few))) (part_kept _ _ _ _ c.left_after-left.ensures (inl refl))

pub returns : goal.returns
returns g c = part_back _ _ _ _ c.left_after.ensures (omega (arith, c.requires.fits.few)) ∙ part_whole _ _ _ _ c.left_after.ensures
