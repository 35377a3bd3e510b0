use Rattle.exact_linear.specs.Tables.{row_of}
use Rattle.exact_lp.proofs.Choices.{top_some, top_none, row_within_table}
use Rattle.std.proofs.Common.{◌∙◌, ap, ℕ}
use Rattle.exact_lp.proofs.rule.top_row.Goals as goal

pub returns-in-Some-clause-value : goal.returns-in-Some-clause-value
returns-in-Some-clause-value c =
    top_some c.args.tableau.now c.args.vectors c.in-Some.row (c.in-Some.ensures ∙ ap (λ (k : ℕ). row_of c.args.tableau.now k) c.top_of.ensures.value)

pub returns-in-Some-clause-within : goal.returns-in-Some-clause-within
returns-in-Some-clause-within c = row_within_table c.args.tableau.now c.top_of.result c.in-Some.row c.in-Some.ensures

pub returns-in-None-clause-value : goal.returns-in-None-clause-value
returns-in-None-clause-value c =
    top_none c.args.tableau.now c.args.vectors (c.in-None.ensures ∙ ap (λ (k : ℕ). row_of c.args.tableau.now k) c.top_of.ensures.value)
