use Rattle.std.proofs.Common.{◌≡◌, ◌<◌, ◌^◌, ◌∙◌, sym, ap, arith, to_z-of_z, nat_abs, pos, slice_index_or, SFits, drop, ℕ, ℤ, ◌+◌, refl}
use Rattle.std.proofs.lemmas.Int.{fits_signed_from_abs}
use mir.Syntax.{w128}
use Rattle.commutative_ring.specs.Gcd.{gcd_of}
use Rattle.symmetric_matrix.specs.Divisors.{divisor_from}
use Rattle.symmetric_matrix.proofs.Divisors.{gcd_of_below, gcd_of_abs, divisor_more, divisor_ends}
use Rattle.symmetric_matrix.proofs.divisor.divisor_of.Goals as goal

pub loop-entry-preserved : goal.loop-entry-preserved
loop-entry-preserved c =
    let entry : ℤ = slice_index_or c.args.lower.now c.loop-entry.entry-index (pos 0) in
    let narrow : nat_abs (slice_index_or c.args.lower.now c.loop-entry.entry-index (pos 0)) < 2 ^ 127 =
    omega (arith, c.requires c.loop-entry.entry-index c.loop-entry-test.true) in
    let fits : SFits w128 (slice_index_or c.args.lower.now c.loop-entry.entry-index (pos 0)) = fits_signed_from_abs w128 _ narrow in
    let found : c.gcd_wide-divisor.result ≡ gcd_of c.loop-entry.divisor (nat_abs (slice_index_or c.args.lower.now c.loop-entry.entry-index (pos 0))) =
    gcd_of_abs c.gcd_wide-divisor.result c.loop-entry.divisor c.unsigned_abs.result c.loop-entry.divisor
    (nat_abs (slice_index_or c.args.lower.now c.loop-entry.entry-index (pos 0)))
    c.gcd_wide-divisor.ensures refl (c.unsigned_abs.ensures.value ∙ ap nat_abs (to_z-of_z fits)) in
    record {
      fits = omega (
        arith,
        gcd_of_below c.loop-entry.divisor (nat_abs (slice_index_or c.args.lower.now c.loop-entry.entry-index (pos 0))) (2 ^ 127)
            c.loop-entry.invariant.fits narrow,
      );
      same = c.loop-entry.invariant.same ∙ divisor_more c.loop-entry.divisor c.args.lower.now c.loop-entry.entry-index c.loop-entry-test.true
          ∙ ap (λ (g : ℕ). divisor_from g (drop (c.loop-entry.entry-index + 1) c.args.lower.now)) (sym found);
    }

pub returns-clause-value : goal.returns-clause-value
returns-clause-value c = sym (c.loop-entry.invariant.same ∙ divisor_ends c.loop-entry.divisor c.args.lower.now c.loop-entry.entry-index c.loop-entry-test.false)
