use Rattle.std.specs.Prelude.{◌<◌, ◌≤◌, ◌^◌, ◌+◌, ℕ}
use Rattle.std.proofs.Common.{arith, ap₂, ◌∙◌, length-set, get_or-set_other}
use Rattle.unimodular_cone.specs.Shown.{shown_coordinate}
use Rattle.unimodular_cone.proofs.ShownLaws.{coordinate_within}
use Rattle.exact_forms.proofs.Lists.{more_set}
use Rattle.unimodular_cone.proofs.mediant.mediant_coordinates.Goals as goal

pub overflow_add-sums : goal.overflow_add-sums
overflow_add-sums g c =
    let a : shown_coordinate (g.C.ConeRead.cone c.args.c.now) c.args.r c.loop-p.p ≤ 2 ^ 62 =
    coordinate_within _ _ _ c.requires.fits (omega arith) (omega arith) in
    let b : shown_coordinate (g.C.ConeRead.cone c.args.c.now) c.args.s c.loop-p.p ≤ 2 ^ 62 =
    coordinate_within _ _ _ c.requires.fits (omega arith) (omega arith) in
    omega arith

pub loop-p-preserved : goal.loop-p-preserved
loop-p-preserved g c =
    let few : c.loop-p.p < 8 = omega (arith, c.requires.fits.few) in
    record {
      room = length-set c.loop-p.sums c.from.result _ ∙ c.loop-p.invariant.room;
      sums = more_set 0 c.loop-p.sums
          (λ (k : ℕ). shown_coordinate (g.C.ConeRead.cone c.args.c.now) c.args.r k + shown_coordinate (g.C.ConeRead.cone c.args.c.now) c.args.s k)
          c.loop-p.p c.from.result _ c.loop-p.invariant.sums (omega (arith, c.loop-p.invariant.room)) c.from.ensures
          (ap₂ (λ (a : ℕ) (b : ℕ). a + b) c.coordinate_at.ensures c.coordinate_at-in-loop-p.ensures);
      rest = λ k l. get_or-set_other c.loop-p.sums c.from.result k _ 0 (λ e. omega (arith, e, l, c.from.ensures)) ∙ c.loop-p.invariant.rest k (omega arith);
    }
