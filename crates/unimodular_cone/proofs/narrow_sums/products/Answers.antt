use Rattle.std.specs.Prelude.{◌<◌, ◌+ℤ◌, ℕ, ℤ, pos}
use Rattle.std.proofs.Common.{arith, refl, ◌∙◌, ap₂, length-set}
use Rattle.unimodular_cone.specs.Shown.{shown_gram}
use Rattle.exact_forms.proofs.Lists.{more_set}
use Rattle.unimodular_cone.proofs.NarrowSums.{sum_fits_64, sum_64}
use Rattle.unimodular_cone.proofs.narrow_sums.products.Goals as goal

pub overflow_add-sums : goal.overflow_add-sums
overflow_add-sums c = sum_fits_64 c.entry.result c.entry-in-loop-k.result c.entry.result c.entry-in-loop-k.result refl refl c.entry.ensures.narrow
    c.entry-in-loop-k.ensures.narrow

pub loop-k-preserved : goal.loop-k-preserved
loop-k-preserved c =
    let few : c.loop-k.k < 8 = omega arith in
    record {
      room = length-set c.loop-k.sums c.from.result _ ∙ c.loop-k.invariant.room;
      sums = more_set (pos 0) c.loop-k.sums (λ (k : ℕ). shown_gram c.args.c.now c.args.r k +ℤ shown_gram c.args.c.now c.args.s k)
          c.loop-k.k c.from.result _ c.loop-k.invariant.sums (omega (arith, c.loop-k.invariant.room)) c.from.ensures
          (sum_64 c.entry.result c.entry-in-loop-k.result c.entry.result c.entry-in-loop-k.result refl refl c.entry.ensures.narrow
          c.entry-in-loop-k.ensures.narrow ∙ ap₂ (λ (a : ℤ) (b : ℤ). a +ℤ b) c.entry.ensures.value c.entry-in-loop-k.ensures.value);
    }
