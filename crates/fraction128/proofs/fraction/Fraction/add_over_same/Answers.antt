use Rattle.std.proofs.Common.{arith, rules, sym, ◌∙◌, ap, ap₂, Ok, Err, ℤ, nat_abs, to_z-of_z}
use mir.Syntax.{w128}
use mir.Val.{SFits}
use Rattle.exact_forms.specs.Rational.{ratio}
use Rattle.exact_forms.proofs.Lowest.{parts_of}
use Rattle.fraction128.proofs.Sums.{both_over_one, IsAdded, IsSumOver, same_den_refused, same_den_made}
use Rattle.fraction128.proofs.fraction.Fraction.add_over_same.Goals.{In_ok-sum}
use Rattle.fraction128.proofs.fraction.Fraction.add_over_same.Goals as goal

pub returns-in_err-sum : goal.returns-in_err-sum
returns-in_err-sum c =
    let o = both_over_one c.self.invariant c.self.view_is c.other.invariant c.other.view_is (search rules) c.requires in
    let h : IsAdded c.args.self c.args.other (Err c.in_err-sum.field-0.0) = grind (arith, to_z-of_z) in
    let e = same_den_refused c.args.self c.args.other c.in_err-sum.field-0.0 o.2 h in
    grind arith

made : (c : In_ok-sum) → IsSumOver c.args.self c.args.other c.in_ok-sum.sum
made c =
    let o = both_over_one c.self.invariant c.self.view_is c.other.invariant c.other.view_is (search rules) c.requires in
    let h : IsAdded c.args.self c.args.other (Ok c.in_ok-sum.sum) = grind (arith, to_z-of_z) in
    same_den_made c.args.self c.args.other c.in_ok-sum.sum o.2 h

pub new-requires-clause-fits : goal.new-requires-clause-fits
new-requires-clause-fits c =
    let s : SFits w128 c.in_ok-sum.sum = search rules in
    rw (to_z-of_z s) (omega (arith, (made (goal.at.new-requires-clause-fits c).In_ok-sum).fits))

pub returns : goal.returns
returns c =
    let s : SFits w128 c.in_ok-sum.sum = search rules in
    let self_den : SFits w128 c.self.inside.den = search rules in
    let l = parts_of c.self.inside.num c.self.inside.den c.args.self c.self.invariant c.self.view_is in
    ap Ok (c.new.ensures ∙ ap₂ (λ (n : ℤ) (d : ℤ). ratio n (nat_abs d)) (to_z-of_z s) (to_z-of_z self_den ∙ l.1)) ∙ sym
    (made (goal.at.returns c).In_ok-sum).answered
