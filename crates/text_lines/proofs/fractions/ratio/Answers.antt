use Rattle.std.proofs.Common.{◌≡◌, arith, rules, ap, ap₂, ◌∙◌, Bool, cond, pos, neg_ℤ, nat_abs, to_z, of_z, Result, Ok}
use Rattle.std.specs.Int.{w128}
use Rattle.std.proofs.lemmas.Int.{to_z-of_z, ints}
use Rattle.exact_forms.specs.Rational.{Rational, ratio}
use Rattle.text_lines.specs.declared.fractions.NumberFault.{NumberFault}
use Rattle.text_lines.proofs.FractionWords.{ratio-good}
use Rattle.text_lines.proofs.fractions.ratio.Goals as goal

pub returns : goal.returns
returns c =
    let good = ratio-good c.args.limit c.args.top.now c.args.bottom.now c.value.result c.in-Some.num.magnitude c.in-Some-whole_number.den c.requires
    c.in-Some.ensures.0 c.in-Some-whole_number.ensures.0
    c.in-Some.ensures.2 c.in-Some-whole_number.ensures.1 c.if-num-limit.false c.if-den-limit.false c.if-den-eq0.false (c.value.ensures
    ∙ ap (λ (b : Bool). cond b (neg_ℤ (pos c.in-Some.num.magnitude)) (pos c.in-Some.num.magnitude)) c.in-Some.ensures.1) in
    let num : to_z w128 (of_z w128 c.value.result) ≡ c.value.result = search (rules, to_z-of_z) in
    let den : nat_abs (to_z w128 c.in-Some-whole_number.den) ≡ c.in-Some-whole_number.den = grind (arith, ints) in
    rw good (ap ok (c.new.ensures ∙ ap₂ ratio num den))
  where
    ok : Rational → Result Rational NumberFault
    ok q = Ok q
