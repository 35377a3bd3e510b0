use Rattle.std.proofs.Common.{◌∙◌, sym, subst, arith, set, ◌+◌, ◌<◌, nat_abs, ℤ, List, length, to_z-of_z}
use Rattle.std.proofs.lemmas.List.{length-map}
use Rattle.exact_forms.specs.Rational.{Rational, ratio}
use Rattle.exact_linear.specs.Whole.{fractions_over}
use Rattle.exact_linear.proofs.Fill.{Filled, fill_set, fill_keep, fill_all}
use Rattle.exact_linear.proofs.KeptEntries.{set_small, one_written}
use Rattle.exact_linear.proofs.kept.fill_last_wholes.Goals as goal
use Rattle.exact_linear.proofs.kept.fill_last_wholes.Goals.{then-k-width, else-k-width}

pub loop-k-preserved : goal.loop-k-preserved
loop-k-preserved c =
    let d = nat_abs c.args.den in
    let old = fractions_over d c.args.wholes.now in
    let l : c.loop-k.k < length c.loop-k.wholes = (let t = c.loop-k-test.true in let a = c.loop-k.auto.wholes in omega arith) in
    let room = length-map c.loop-k.wholes (λ (w : ℤ). ratio w d) in
    let filled : Filled c.args.width old (fractions_over d c.loop-k.wholes) c.loop-k.k = rw (to_z-of_z c.ranges.den) at c.loop-k.invariant.filled in
    elim c.if-k-width.branch [
      | then-k-width w ↦ rw (w.wholes-is, to_z-of_z c.ranges.den) record {
        small = set_small c.loop-k.wholes c.loop-k.k c.args.den l c.loop-k.invariant.small c.requires.den_small;
        filled = subst (λ (now : List Rational). Filled c.args.width old now (c.loop-k.k + 1))
            (sym (one_written c.args.den c.loop-k.k c.loop-k.wholes c.requires.den))
            (fill_set c.args.width c.loop-k.k old (fractions_over d c.loop-k.wholes) (omega arith) w.if-k-width.true filled);
      }
      | else-k-width w ↦ rw (w.wholes-is, to_z-of_z c.ranges.den) record {
        small = c.loop-k.invariant.small;
        filled = fill_keep c.args.width c.loop-k.k old (fractions_over d c.loop-k.wholes) w.if-k-width.false filled;
      }
    ]

pub returns-clause-made : goal.returns-clause-made
returns-clause-made c =
    let d = nat_abs c.args.den in
    let size = length-map c.loop-k.wholes (λ (w : ℤ). ratio w d) ∙ c.loop-k.auto.wholes ∙ c.requires.size in
    fill_all c.args.rows c.args.width c.loop-k.k (fractions_over d c.args.wholes.now) (fractions_over d c.loop-k.wholes) size
    (let l = c.loop-k-test.false in let s = c.requires.size in let a = c.loop-k.auto.wholes in omega arith)
    (rw (to_z-of_z c.ranges.den) at c.loop-k.invariant.filled)
