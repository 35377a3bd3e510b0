use Rattle.std.proofs.Common.{◌≡◌, ◌∙◌, sym, ap, arith, Result, Err}
use Rattle.exact_forms.specs.Rational.{Rational, ◌/ℚ◌}
use Rattle.fraction128.specs.Recipes.{div_ops}
use Rattle.symmetric_matrix.specs.declared.operation.IntOp.{IntOp}
use Rattle.symmetric_matrix.specs.Owed.{answer, tagged}
use Rattle.exact_lp.specs.declared.placed.PlaceOp.TheVariants.{Weight}
use Rattle.exact_lp.specs.Placement.{place_is_owed, coefficient, coefficient_ops}
use Rattle.exact_lp.proofs.Weighing.{weight_tagged, weight_refused, weight_then}
use Rattle.exact_lp.proofs.ends.weight.Goals as goal

pub returns-in_err-coefficient : goal.returns-in_err-coefficient
returns-in_err-coefficient c =
    let whole : answer place_is_owed (coefficient_ops c.args.tableau.now c.args.vectors c.args.firsts.now c.args.d c.args.vector)
    (coefficient c.args.tableau.now c.args.vectors c.args.firsts.now c.args.vector /ℚ c.args.d) ≡ Err c.in_err-coefficient.field-0.0 =
    weight_refused c.args.tableau.now c.args.vectors c.args.firsts.now c.args.d c.args.vector c.in_err-coefficient.field-0.0 (sym c.coefficient.ensures
    ∙ c.in_err-coefficient.was) in
    grind arith

pub returns : goal.returns
returns c =
    c.at_weight.ensures
    ∙ ap (λ (r : Result Rational IntOp). tagged (Weight c.args.vector) r) c.div.ensures
    ∙ weight_tagged c.args.vector (div_ops c.in_ok-coefficient.coefficient c.args.d) (c.in_ok-coefficient.coefficient /ℚ c.args.d)
    ∙ weight_then c.args.tableau.now c.args.vectors c.args.firsts.now c.args.d c.args.vector c.in_ok-coefficient.coefficient (sym c.coefficient.ensures
    ∙ c.in_ok-coefficient.was)
