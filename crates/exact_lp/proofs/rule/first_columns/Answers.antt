use Rattle.std.proofs.Common.{◌∙◌, sym, arith}
use Rattle.exact_linear.proofs.Seeking.{gather_take, gather_skip, gather_done}
use Rattle.exact_lp.proofs.Choices.{columns_start}
use Rattle.exact_lp.proofs.rule.first_columns.Goals as goal
use Rattle.exact_lp.proofs.rule.first_columns.Goals.{then-is_basic+in_ok-push, else-is_basic}

pub loop-column-init : goal.loop-column-init
loop-column-init c =
    columns_start c.args.tableau.now c.args.vectors c.rows-units.result c.new-columns.result.items c.rows-units.ensures.value c.new-columns.ensures.items

pub loop-column-preserved : goal.loop-column-preserved
loop-column-preserved c = elim c.if-is_basic.branch [
  | then-is_basic+in_ok-push w ↦ rw w.columns-is
      (gather_take _ _ w.push.new.self.items _ _ _ c.loop-column.invariant
      (let a = c.loop-column-test.true in let b = c.target_of-column-end.ensures.value in omega arith) (sym c.is_basic.ensures
      ∙ w.if-is_basic.true) w.in_ok-push.ensures.items)
  | else-is_basic w ↦ rw w.columns-is
      (gather_skip _ _ _ _ _ c.loop-column.invariant
      (let a = c.loop-column-test.true in let b = c.target_of-column-end.ensures.value in omega arith) (sym c.is_basic.ensures ∙ w.if-is_basic.false))
]

pub returns : goal.returns
returns c = gather_done _ _ _ _ _ c.loop-column.invariant (let a = c.loop-column-test.false in let b = c.target_of-column-end.ensures.value in
    omega arith)
