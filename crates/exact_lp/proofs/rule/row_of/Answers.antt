use Rattle.std.proofs.Common.{◌∙◌, ap, ◌+◌, ◌-◌, ℕ}
use Rattle.exact_linear.specs.Tables.{row_of}
use Rattle.exact_linear.proofs.Seeking.{from_one_some, from_one_none, back_one}
use Rattle.exact_lp.proofs.rule.row_of.Goals as goal

pub returns-in-Some : goal.returns-in-Some
returns-in-Some c =
    (from_one_some (row_of c.args.tableau.now (c.args.column + 1 - 1)) c.in-Some.row c.in-Some.ensures).1
    ∙ ap (λ (k : ℕ). row_of c.args.tableau.now k) (back_one c.args.column)

pub returns-in-None : goal.returns-in-None
returns-in-None c =
    from_one_none (row_of c.args.tableau.now (c.args.column + 1 - 1)) c.in-None.ensures
    ∙ ap (λ (k : ℕ). row_of c.args.tableau.now k) (back_one c.args.column)
