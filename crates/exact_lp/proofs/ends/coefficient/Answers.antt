use Rattle.std.proofs.Common.{◌≡◌, ◌∙◌, sym, ap, arith, ◌+◌, Result, true, false}
use Rattle.exact_forms.specs.Rational.{Rational}
use Rattle.symmetric_matrix.specs.declared.operation.IntOp.{IntOp}
use Rattle.symmetric_matrix.specs.Owed.{tagged}
use Rattle.exact_linear.specs.Tables.{rows_of}
use Rattle.exact_lp.specs.declared.placed.PlaceOp.TheVariants.{Weight}
use Rattle.exact_lp.specs.Placement.{is_raised}
use Rattle.exact_lp.proofs.Weighing.{raised_as, raised_not_basic, target_at, raised_from, plain_from}
use Rattle.exact_lp.proofs.ends.coefficient.Goals as goal
use Rattle.exact_lp.proofs.ends.coefficient.Goals.{else-is_basic-via-then-is_basic+else-contains, else-is_basic-via-else-is_basic}

pub returns-then-contains : goal.returns-then-contains
returns-then-contains c =
    let column : c.rows.result + c.args.vector ≡ rows_of c.args.tableau.now + c.args.vector = (let a = c.rows.ensures.value in omega arith) in
    c.at_weight.ensures
    ∙ ap (λ (r : Result Rational IntOp). tagged (Weight c.args.vector) r) c.add.ensures
    ∙ raised_from c.args.tableau.now c.args.vectors c.args.firsts.now c.args.vector c.at_target-own.result c.at_target.result
    (raised_as c.args.tableau.now c.args.vectors c.args.firsts.now c.args.vector c.top_of-top.result (c.rows.result + c.args.vector) true
    c.top_of-top.ensures.value column (sym c.is_basic.ensures ∙ c.if-is_basic.true) (sym c.contains.ensures ∙ c.if-contains.true))
    (target_at c.args.tableau.now c.args.vectors (c.rows.result + c.args.vector) _ c.at_target-own.result c.at_target-own.ensures column)
    (target_at c.args.tableau.now c.args.vectors c.top_of-top.result _ c.at_target.result c.at_target.ensures c.top_of-top.ensures.value)

pub returns-else-is_basic : goal.returns-else-is_basic
returns-else-is_basic c =
    let column : c.rows.result + c.args.vector ≡ rows_of c.args.tableau.now + c.args.vector = (let a = c.rows.ensures.value in omega arith) in
    plain_from c.args.tableau.now c.args.vectors c.args.firsts.now c.args.vector c.at_target-own.result
    (elim c.else-is_basic.branch as (λ _. is_raised c.args.tableau.now c.args.vectors c.args.firsts.now c.args.vector ≡ false) [
      | else-is_basic-via-then-is_basic+else-contains w ↦ raised_as c.args.tableau.now c.args.vectors c.args.firsts.now c.args.vector c.top_of-top.result
          (c.rows.result + c.args.vector) false c.top_of-top.ensures.value column (sym c.is_basic.ensures ∙ w.if-is_basic.true) (sym w.contains.ensures
          ∙ w.if-contains.false)
      | else-is_basic-via-else-is_basic w ↦ raised_not_basic c.args.tableau.now c.args.vectors c.args.firsts.now c.args.vector c.top_of-top.result
          c.top_of-top.ensures.value (sym c.is_basic.ensures ∙ w.if-is_basic.false)
    ])
    (target_at c.args.tableau.now c.args.vectors (c.rows.result + c.args.vector) _ c.at_target-own.result c.at_target-own.ensures column)
