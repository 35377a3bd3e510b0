use Rattle.std.specs.Prelude.{◌<◌, ◌+ℤ◌, ℕ, pos}
use Rattle.std.proofs.Common.{arith, ◌∙◌, length-set}
use Rattle.unimodular_cone.specs.Shown.{shown_gram}
use Rattle.exact_forms.proofs.Lists.{more_set}
use Rattle.unimodular_cone.proofs.Mediants.{IsSumRead, read_entries}
use Rattle.unimodular_cone.proofs.mediant.products.Given.{Over}
use Rattle.unimodular_cone.proofs.mediant.products.Goals.{After-entry-in-loop-k}
use Rattle.unimodular_cone.proofs.mediant.products.Goals as goal

sum : (g : Over) (c : After-entry-in-loop-k g) → IsSumRead c.entry.result c.entry-in-loop-k.result
    (shown_gram (g.C.ConeRead.cone c.args.c.now) c.args.r c.loop-k.k +ℤ shown_gram (g.C.ConeRead.cone c.args.c.now) c.args.s c.loop-k.k)
sum g c =
    read_entries (g.C.ConeRead.cone c.args.c.now) c.args.r c.args.s c.loop-k.k c.entry.result c.entry-in-loop-k.result c.requires.fits
    (omega arith) (omega arith) (omega arith) c.entry.ensures c.entry-in-loop-k.ensures

pub overflow_add-sums : goal.overflow_add-sums
overflow_add-sums g c = (sum g (goal.at.overflow_add-sums g c).After-entry-in-loop-k).fits

pub loop-k-preserved : goal.loop-k-preserved
loop-k-preserved g c =
    let few : c.loop-k.k < 8 = omega arith in
    record {
      room = length-set c.loop-k.sums c.from.result _ ∙ c.loop-k.invariant.room;
      sums = more_set (pos 0) c.loop-k.sums
          (λ (k : ℕ). shown_gram (g.C.ConeRead.cone c.args.c.now) c.args.r k +ℤ shown_gram (g.C.ConeRead.cone c.args.c.now) c.args.s k)
          c.loop-k.k c.from.result _ c.loop-k.invariant.sums (omega (arith, c.loop-k.invariant.room)) c.from.ensures
          (sum g (goal.at.loop-k-preserved g c).After-entry-in-loop-k).is;
    }
