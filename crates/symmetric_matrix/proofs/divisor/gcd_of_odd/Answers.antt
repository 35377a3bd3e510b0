use Rattle.std.proofs.Common.{sym, ◌∙◌, ap}
use Rattle.commutative_ring.specs.Gcd.{gcd_of}
use Rattle.symmetric_matrix.proofs.BinaryDivisors.{step, gcd_of_same}
use Rattle.symmetric_matrix.proofs.divisor.gcd_of_odd.Goals as goal

pub loop-a-preserved : goal.loop-a-preserved
loop-a-preserved c =
    let s = step c.loop-a.a c.loop-a.b c.loop-a.invariant.a_odd c.loop-a.invariant.b_odd c.loop-a.invariant.a_fits c.loop-a.invariant.b_fits
    c.loop-a-test.true in
    rw (c.abs_diff-gap.ensures, c.min-b.ensures) (record {
      a_odd = s.odd;
      b_odd = s.kept;
      a_fits = s.fits;
      b_fits = s.kept_fits;
      same = c.loop-a.invariant.same
          ∙ s.same;
    })

pub returns : goal.returns
returns c = sym (c.loop-a.invariant.same ∙ ap (λ n. gcd_of c.loop-a.a n) (sym c.loop-a-test.false) ∙ gcd_of_same c.loop-a.a)
