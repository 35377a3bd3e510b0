use Rattle.std.proofs.Common.{◌≡◌, Ok, ◌+◌, ◌∙◌, sym, arith, rules, to_z, of_z, nat_abs, pos, ap, subst, ℤ, ◌≤ℤ◌, drop}
use Rattle.std.specs.Int.{w128}
use Rattle.std.proofs.lemmas.Int.{to_z-of_z}
use Rattle.symmetric_matrix.specs.Owed.{answer}
use Rattle.symmetric_matrix.specs.Operations.{is_owed}
use Rattle.symmetric_matrix.specs.Symmetric.{FitsInt}
use Rattle.extreme_ray.specs.Clearing.{lifted, lift_ops}
use Rattle.extreme_ray.proofs.Clearings.{denominator_refused, denominator_done, denominator_end, denominator_left, lifted_positive, lifted_narrow}
use Rattle.extreme_ray.proofs.clearing.common_denominator.Goals as goal

pub returns-in_err-common-clause-value : goal.returns-in_err-common-clause-value
returns-in_err-common-clause-value c = grind (arith, denominator_refused)

pub loop-k-preserved : goal.loop-k-preserved
loop-k-preserved c =
    let h : answer is_owed (lift_ops (nat_abs (to_z w128 c.loop-k.common-bits)) c.index-coefficients-k.result)
    (pos (lifted (nat_abs (to_z w128 c.loop-k.common-bits)) c.index-coefficients-k.result)) ≡ Ok c.in_ok-common.common = sym c.lifted.ensures
    ∙ c.in_ok-common.was in
    let fits : to_z w128 (of_z w128 c.in_ok-common.common) ≡ c.in_ok-common.common = search (rules, to_z-of_z) in
    record {
      same = c.loop-k.invariant.same
          ∙ denominator_done (nat_abs (to_z w128 c.loop-k.common-bits)) c.loop-k.k c.index-coefficients-k.result c.args.coefficients.now c.in_ok-common.common
          c.loop-k-test.true c.index-coefficients-k.is h
          ∙ ap (λ (z : ℤ). denominator_left (nat_abs z) (drop (c.loop-k.k + 1) c.args.coefficients.now)) (sym fits);
      positive = subst (λ (z : ℤ). pos 1 ≤ℤ z) (sym fits)
          (lifted_positive (to_z w128 c.loop-k.common-bits) c.index-coefficients-k.result c.in_ok-common.common c.loop-k.invariant.positive h);
      fits = subst (λ (z : ℤ). FitsInt z) (sym fits)
          (lifted_narrow (nat_abs (to_z w128 c.loop-k.common-bits)) c.index-coefficients-k.result c.in_ok-common.common h);
    }

pub returns-clause-value : goal.returns-clause-value
returns-clause-value c =
    sym (c.loop-k.invariant.same
    ∙ denominator_end (to_z w128 c.loop-k.common-bits) c.loop-k.k c.args.coefficients.now c.loop-k.invariant.positive c.loop-k-test.false)
