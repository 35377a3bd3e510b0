use Rattle.std.proofs.Common.{arith, rules, sym, Ok, Err, to_z-of_z}
use mir.Syntax.{w128}
use mir.Val.{SFits}
use Rattle.fraction128.proofs.Products.{both_parts, IsNumMade, IsDenMade, IsProduct, gcd_at_least_one, num_refused, den_refused, product_done}
use Rattle.fraction128.proofs.fraction.Fraction.mul.Goals.{In_ok-den, In_ok-num}
use Rattle.fraction128.proofs.fraction.Fraction.mul.Goals as goal

pub quotient-requires : goal.quotient-requires
quotient-requires c = grind (arith, to_z-of_z, gcd_at_least_one)

pub quotient-requires-2 : goal.quotient-requires-2
quotient-requires-2 c = grind (arith, to_z-of_z, gcd_at_least_one)

pub returns-in_err-num : goal.returns-in_err-num
returns-in_err-num c =
    let p = both_parts c.self.invariant c.self.view_is c.other.invariant c.other.view_is in
    let h : IsNumMade c.args.self c.args.other (Err c.in_err-num.field-0.0) = grind (arith, to_z-of_z) in
    let e = num_refused c.args.self c.args.other c.in_err-num.field-0.0 h in
    grind arith

pub quotient-requires-3 : goal.quotient-requires-3
quotient-requires-3 c = grind (arith, to_z-of_z, gcd_at_least_one)

pub quotient-requires-4 : goal.quotient-requires-4
quotient-requires-4 c = grind (arith, to_z-of_z, gcd_at_least_one)

num : (c : In_ok-num) → IsNumMade c.args.self c.args.other (Ok c.in_ok-num.num)
num c = let p = both_parts c.self.invariant c.self.view_is c.other.invariant c.other.view_is in grind (arith, to_z-of_z)

pub returns-in_err-den : goal.returns-in_err-den
returns-in_err-den c =
    let p = both_parts c.self.invariant c.self.view_is c.other.invariant c.other.view_is in
    let n = num (goal.at.returns-in_err-den c).In_ok-num in
    let d : IsDenMade c.args.self c.args.other (Err c.in_err-den.field-0.0) = grind (arith, to_z-of_z) in
    let e = den_refused c.args.self c.args.other c.in_ok-num.num c.in_err-den.field-0.0 n d in
    grind arith

done : (c : In_ok-den) → IsNumMade c.args.self c.args.other (Ok c.in_ok-num.num) → IsProduct c.args.self c.args.other c.in_ok-num.num c.in_ok-den.den
done c n =
    let p = both_parts c.self.invariant c.self.view_is c.other.invariant c.other.view_is in
    let d : IsDenMade c.args.self c.args.other (Ok c.in_ok-den.den) = grind (arith, to_z-of_z) in
    product_done c.args.self c.args.other c.in_ok-num.num c.in_ok-den.den n d

pub invariant_of-result : goal.invariant_of-result
invariant_of-result c =
    let num_fits : SFits w128 c.in_ok-num.num = search rules in
    let den_fits : SFits w128 c.in_ok-den.den = search rules in
    let at = goal.at.invariant_of-result c in
    rw (to_z-of_z num_fits, to_z-of_z den_fits) (done at.In_ok-den (num at.In_ok-num)).lowest

pub returns : goal.returns
returns c =
    let num_fits : SFits w128 c.in_ok-num.num = search rules in
    let den_fits : SFits w128 c.in_ok-den.den = search rules in
    let at = goal.at.returns c in
    rw (to_z-of_z num_fits, to_z-of_z den_fits) (sym (done at.In_ok-den (num at.In_ok-num)).answered)
