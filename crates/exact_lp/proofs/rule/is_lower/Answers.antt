use Rattle.std.proofs.Common.{◌≡◌, ◌∙◌, ap, ap₂, ℕ, nat_lt}
use Rattle.std.specs.declared.cmp.Ordering.TheVariants.{Less, Equal, Greater}
use Rattle.exact_linear.specs.Tables.{table_entry}
use Rattle.fraction128.specs.Order.{order_of}
use Rattle.exact_lp.specs.Rule.{target}
use Rattle.exact_lp.proofs.Choices.{lower_is}
use Rattle.exact_lp.proofs.rule.is_lower.Goals as goal
use Rattle.exact_lp.proofs.rule.is_lower.Goals.{After-entry_at-2}

-- the order of the two entries of the target
order_is : (c : After-entry_at-2) → order_of c.entry_at.result c.entry_at-2.result
    ≡ order_of (table_entry c.args.tableau.now c.args.row (target c.args.tableau.now c.args.vectors))
    (table_entry c.args.tableau.now c.args.best (target c.args.tableau.now c.args.vectors))
order_is c = ap₂ order_of (c.entry_at.ensures ∙ ap (λ (k : ℕ). table_entry c.args.tableau.now c.args.row k) c.target_of-target.ensures.value)
    (c.entry_at-2.ensures ∙ ap (λ (k : ℕ). table_entry c.args.tableau.now c.args.best k) c.target_of-target.ensures.value)

pub returns-in-Less : goal.returns-in-Less
returns-in-Less c = lower_is c.args.tableau.now c.args.vectors c.args.best c.args.row Less
    (c.in-Less.ensures.order ∙ order_is (goal.at.returns-in-Less c).After-entry_at-2)

pub returns-in-Greater : goal.returns-in-Greater
returns-in-Greater c = lower_is c.args.tableau.now c.args.vectors c.args.best c.args.row Greater
    (c.in-Greater.ensures.order ∙ order_is (goal.at.returns-in-Greater c).After-entry_at-2)

pub returns-in-Equal : goal.returns-in-Equal
returns-in-Equal c =
    ap₂ (λ (a : ℕ) (b : ℕ). nat_lt a b) c.basic_of.ensures c.basic_of-in-Equal.ensures
    ∙ lower_is c.args.tableau.now c.args.vectors c.args.best c.args.row Equal
    (c.in-Equal.ensures.order ∙ order_is (goal.at.returns-in-Equal c).After-entry_at-2)
