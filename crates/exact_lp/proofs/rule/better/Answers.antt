use Rattle.std.proofs.Common.{◌≡◌, ◌∙◌, sym, subst, arith, Ok, Err, Some, Option, ℕ, true, false}
use Rattle.symmetric_matrix.specs.Owed.{answer}
use Rattle.symmetric_matrix.proofs.Owed.{answer_nothing}
use Rattle.exact_linear.specs.Exchange.{entry_is_owed}
use Rattle.exact_lp.specs.Rule.{better, better_ops}
use Rattle.exact_lp.proofs.Choices.{better_as, better_refused}
use Rattle.exact_lp.proofs.rule.better.Goals as goal

pub returns-in-None : goal.returns-in-None
returns-in-None c =
    subst (λ (o : Option ℕ). Ok (Some c.args.row)
    ≡ answer entry_is_owed (better_ops c.args.tableau.now c.args.entering c.args.columns.now o c.args.row)
    (better c.args.tableau.now c.args.entering c.args.columns.now o c.args.row)) (sym c.in-None.is)
    (sym (answer_nothing entry_is_owed (Some c.args.row)))

pub returns-in_err-is_less-in-Some : goal.returns-in_err-is_less-in-Some
returns-in_err-is_less-in-Some c =
    let whole : answer entry_is_owed (better_ops c.args.tableau.now c.args.entering c.args.columns.now c.args.best c.args.row)
    (better c.args.tableau.now c.args.entering c.args.columns.now c.args.best c.args.row) ≡ Err c.in_err-is_less-in-Some.field-0.0 =
    better_refused c.args.tableau.now c.args.entering c.in-Some.best c.args.row c.args.columns.now c.args.best c.in_err-is_less-in-Some.field-0.0 c.in-Some.is
    (sym c.is_less.ensures ∙ c.in_err-is_less-in-Some.was) in
    grind arith

pub returns-then-branch : goal.returns-then-branch
returns-then-branch c =
    better_as c.args.tableau.now c.args.entering c.in-Some.best c.args.row c.args.columns.now c.args.best c.in_ok-is_less-in-Some.field-0 true c.in-Some.is
    (sym c.is_less.ensures ∙ c.in_ok-is_less-in-Some.was) c.if-branch.true

pub returns-else-branch : goal.returns-else-branch
returns-else-branch c =
    better_as c.args.tableau.now c.args.entering c.in-Some.best c.args.row c.args.columns.now c.args.best c.in_ok-is_less-in-Some.field-0 false c.in-Some.is
    (sym c.is_less.ensures ∙ c.in_ok-is_less-in-Some.was) c.if-branch.false
