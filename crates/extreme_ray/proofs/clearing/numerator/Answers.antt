use Rattle.std.proofs.Common.{◌≡◌, ◌∙◌, ◌/◌, ◌*ℤ◌, ◌∷◌, [], sym, ap, ap₂, arith, ℤ, Result, Ok, pos, nat_abs, rules, to_z, of_z}
use Rattle.std.specs.Int.{w128}
use Rattle.std.proofs.lemmas.Int.{to_z-of_z}
use Rattle.symmetric_matrix.specs.declared.operation.IntOp.{IntOp}
use Rattle.symmetric_matrix.specs.Owed.{answer}
use Rattle.symmetric_matrix.specs.Operations.{is_owed, mul_op}
use Rattle.extreme_ray.specs.Clearing.{over_denominator}
use Rattle.extreme_ray.proofs.Clearings.{numerator_first, numerator_twice, numerator_once}
use Rattle.extreme_ray.proofs.clearing.numerator.Goals as goal
use Rattle.extreme_ray.proofs.clearing.numerator.Goals.{After-int_mul}

-- the product of the numerator and the rest of the common denominator
product_is : (c : After-int_mul) → c.int_mul.result
    ≡ answer is_owed (mul_op c.args.coefficient.value.num (pos (nat_abs c.args.common / c.args.coefficient.value.den)) ∷ [])
    (over_denominator (nat_abs c.args.common) c.args.coefficient)
product_is c =
    let whole : to_z w128 (of_z w128 c.args.common) ≡ c.args.common = search (rules, to_z-of_z) in
    let fits : to_z w128 (of_z w128 c.den.result) ≡ c.den.result = search (rules, to_z-of_z) in
    let part : c.part_of-factor.result ≡ pos (nat_abs c.args.common / c.args.coefficient.value.den) = c.part_of-factor.ensures
    ∙ ap₂ (λ x y. pos (nat_abs x / nat_abs y)) whole (fits ∙ c.den.ensures.value) in
    let keeps : to_z w128 (of_z w128 c.part_of-factor.result) ≡ c.part_of-factor.result = search (rules, to_z-of_z) in
    let same : to_z w128 (of_z w128 c.num.result) ≡ c.num.result = search (rules, to_z-of_z) in
    c.int_mul.ensures ∙ ap₂ (λ (x : ℤ) (y : ℤ). answer is_owed (mul_op x y ∷ []) (x *ℤ y)) (same ∙ c.num.ensures.value) (keeps ∙ part)

pub returns-in_err-over : goal.returns-in_err-over
returns-in_err-over c =
    let made = product_is (goal.at.returns-in_err-over c).After-int_mul in
    let h = numerator_first (nat_abs c.args.common) c.args.coefficient c.in_err-over.field-0.0 in
    grind arith

pub returns-then-coefficient : goal.returns-then-coefficient
returns-then-coefficient c =
    let made = product_is (goal.at.returns-then-coefficient c).After-int_mul in
    let over : to_z w128 (of_z w128 c.in_ok-over.over) ≡ c.in_ok-over.over = search (rules, to_z-of_z) in
    c.int_mul-then-coefficient.ensures ∙ ap (λ (z : ℤ). answer is_owed (mul_op z (pos 2) ∷ []) (z *ℤ pos 2)) over
    ∙ numerator_twice (nat_abs c.args.common) c.args.coefficient c.in_ok-over.over c.if-coefficient.true (sym made ∙ c.in_ok-over.was)

pub returns-else-coefficient : goal.returns-else-coefficient
returns-else-coefficient c =
    let made = product_is (goal.at.returns-else-coefficient c).After-int_mul in
    let over : to_z w128 (of_z w128 c.in_ok-over.over) ≡ c.in_ok-over.over = search (rules, to_z-of_z) in
    ap ok over ∙ numerator_once (nat_abs c.args.common) c.args.coefficient c.in_ok-over.over c.if-coefficient.false (sym made ∙ c.in_ok-over.was)
  where
    ok : ℤ → Result ℤ IntOp
    ok z = Ok z
