use Rattle.std.proofs.Common.{◌≡◌, ◌∙◌, ap, length}
use Rattle.std.proofs.lemmas.Result.{IfOk-weaker}
use Rattle.exact_linear.specs.Tables.{rows_of}
use Rattle.hot_paths.proofs.Sizes.{rows_over_units, width_over_units}
use Rattle.hot_paths.proofs.exchanging.tableau.Goals as goal

pub returns-clause-rows : goal.returns-clause-rows
returns-clause-rows c = IfOk-weaker c.over_units.result _ (λ t. rows_of t ≡ 21) (rows_over_units c.deref.result.now) c.over_units.ensures.table

pub returns-clause-width : goal.returns-clause-width
returns-clause-width c =
    IfOk-weaker c.over_units.result _ (λ t. t.width ≡ 516) (λ t. width_over_units c.deref.result.now t (ap length c.deref.ensures.value
    ∙ c.in_ok-given.ensures.count)) c.over_units.ensures.table
