use Rattle.std.proofs.Common.{◌≡◌, arith, rules, sym, ◌∙◌, ap, subst, Ok, Err, ℤ, nat_abs, to_z, to_z-of_z}
use mir.Syntax.{w128}
use mir.Val.{SFits}
use Rattle.commutative_ring.specs.Gcd.{gcd_of, divided}
use Rattle.fraction128.proofs.Products.{both_parts, gcd_at_least_one}
use Rattle.fraction128.proofs.Sums.{shared, IsSummed, IsLastMade, IsSumOf, total_made, sum_done, sum_refused, last_refused}
use Rattle.fraction128.proofs.fraction.Fraction.add.Goals.{After-quotient-3, In_ok-sum}
use Rattle.fraction128.proofs.fraction.Fraction.add.Goals as goal

pub add_over_same-requires : goal.add_over_same-requires
add_over_same-requires c =
    let p = both_parts c.self.invariant c.self.view_is c.other.invariant c.other.view_is in
    let self_den : SFits w128 c.self.inside.den = search rules in
    let other_den : SFits w128 c.other.inside.den = search rules in
    ap nat_abs (sym p.1 ∙ sym (to_z-of_z self_den) ∙ ap (to_z w128) c.if-self-other.true ∙ to_z-of_z other_den ∙ p.3)

pub quotient-own-requires : goal.quotient-own-requires
quotient-own-requires c = grind (arith, to_z-of_z, gcd_at_least_one)

pub quotient-requires : goal.quotient-requires
quotient-requires c = grind (arith, to_z-of_z, gcd_at_least_one)

pub returns-in_err-sum : goal.returns-in_err-sum
returns-in_err-sum c =
    let p = both_parts c.self.invariant c.self.view_is c.other.invariant c.other.view_is in
    let h : IsSummed c.args.self c.args.other (Err c.in_err-sum.field-0.0) = grind (arith, to_z-of_z) in
    let e = sum_refused c.args.self c.args.other c.in_err-sum.field-0.0 h in
    grind arith

summed : (c : In_ok-sum) → IsSummed c.args.self c.args.other (Ok c.in_ok-sum.sum)
summed c = let p = both_parts c.self.invariant c.self.view_is c.other.invariant c.other.view_is in grind (arith, to_z-of_z)

pub common_divisor-divisor-requires-clause-value : goal.common_divisor-divisor-requires-clause-value
common_divisor-divisor-requires-clause-value c =
    let f : SFits w128 c.in_ok-sum.sum = search rules in
    let h = summed (goal.at.common_divisor-divisor-requires-clause-value c).In_ok-sum in
    let fits = (total_made c.args.self c.args.other c.in_ok-sum.sum h).fits in
    rw (to_z-of_z f) (omega arith)

pub quotient-requires-2 : goal.quotient-requires-2
quotient-requires-2 c = grind (arith, to_z-of_z, gcd_at_least_one)

pub returns-in_err-den : goal.returns-in_err-den
returns-in_err-den c =
    let p = both_parts c.self.invariant c.self.view_is c.other.invariant c.other.view_is in
    let h = summed (goal.at.returns-in_err-den c).In_ok-sum in
    let s = (total_made c.args.self c.args.other c.in_ok-sum.sum h).is in
    let k : IsLastMade c.args.self c.args.other (Err c.in_err-den.field-0.0) = grind (arith, to_z-of_z) in
    let e = last_refused c.args.self c.args.other c.in_ok-sum.sum c.in_err-den.field-0.0 h k in
    grind arith

pub quotient-requires-3 : goal.quotient-requires-3
quotient-requires-3 c = grind (arith, to_z-of_z, gcd_at_least_one)

done : (c : After-quotient-3) → IsSummed c.args.self c.args.other (Ok c.in_ok-sum.sum)
    → IsSumOf c.args.self c.args.other c.quotient-3.result c.in_ok-den.den
done c h =
    let p = both_parts c.self.invariant c.self.view_is c.other.invariant c.other.view_is in
    let s = (total_made c.args.self c.args.other c.in_ok-sum.sum h).is in
    let k : IsLastMade c.args.self c.args.other (Ok c.in_ok-den.den) = grind (arith, to_z-of_z) in
    let n : c.quotient-3.result ≡ divided c.in_ok-sum.sum (gcd_of (nat_abs c.in_ok-sum.sum) (shared c.args.self c.args.other)) = grind (arith, to_z-of_z) in
    subst (λ (z : ℤ). IsSumOf c.args.self c.args.other z c.in_ok-den.den) (sym n) (sum_done c.args.self c.args.other c.in_ok-sum.sum c.in_ok-den.den h k)

pub invariant_of-result : goal.invariant_of-result
invariant_of-result c =
    let num_fits : SFits w128 c.quotient-3.result = search rules in
    let den_fits : SFits w128 c.in_ok-den.den = search rules in
    let at = goal.at.invariant_of-result c in
    rw (to_z-of_z num_fits, to_z-of_z den_fits) (done at.After-quotient-3 (summed at.In_ok-sum)).lowest

pub returns : goal.returns
returns c =
    let num_fits : SFits w128 c.quotient-3.result = search rules in
    let den_fits : SFits w128 c.in_ok-den.den = search rules in
    let at = goal.at.returns c in
    rw (to_z-of_z num_fits, to_z-of_z den_fits) (sym (done at.After-quotient-3 (summed at.In_ok-sum)).answered)
