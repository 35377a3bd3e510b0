use Rattle.std.proofs.Common.{◌≡◌, ◌∙◌, nat_abs, sym, to_z-of_z}
use Rattle.std.proofs.lemmas.List.{length-set}
use Rattle.symmetric_matrix.proofs.Narrow.{read_64_128}
use Rattle.commutative_ring.proofs.SmallCases.{positive_abs}
use Rattle.exact_forms.specs.Rational.{ratio}
use Rattle.exact_linear.specs.Whole.{whole_at}
use Rattle.exact_linear.proofs.KeptEntries.{fraction_written, wide_den_back}
use Rattle.exact_linear.proofs.kept.write_fractions.Goals as goal

entry_is : (c : goal.After-new) → c.new.result ≡ ratio (whole_at c.args.wholes.now c.loop-k.k) (nat_abs c.args.den)
entry_is c = rw (read_64_128 (whole_at c.args.wholes.now c.loop-k.k) (c.requires.small.small c.loop-k.k), wide_den_back c.args.den c.ranges.den)
    at c.new.ensures

pub loop-k-preserved : goal.loop-k-preserved
loop-k-preserved c =
    rw (to_z-of_z c.ranges.den, entry_is c) record {
      size = length-set c.loop-k.into c.loop-k.k (ratio (whole_at c.args.wholes.now c.loop-k.k) (nat_abs c.args.den)) ∙ c.loop-k.invariant.size;
      made = sym (fraction_written (nat_abs c.args.den) c.loop-k.k c.args.wholes.now c.loop-k.into (positive_abs c.args.den c.requires.den)
          c.loop-k-test.true c.loop-k.invariant.size) ∙ (rw (to_z-of_z c.ranges.den) at c.loop-k.invariant.made);
    }
