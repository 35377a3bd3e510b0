use Rattle.std.proofs.Common.{◌∙◌, sym, arith, get_or, true, false, refl}
use Rattle.std.specs.declared.cmp.Ordering.TheVariants.{Less, Equal, Greater}
use Rattle.symmetric_matrix.proofs.Owed.{answer_nothing}
use Rattle.exact_linear.specs.Exchange.{entry_is_owed}
use Rattle.exact_lp.proofs.Choices.{compare_refused_best, compare_refused_own, compare_both, compare_done}
use Rattle.exact_lp.proofs.rule.is_less.Goals as goal

pub returns-in_err-other : goal.returns-in_err-other
returns-in_err-other c =
    let whole = compare_refused_best c.args.tableau.now c.args.entering c.args.best c.args.row c.args.columns.now c.loop-column.column-index
    (get_or c.args.columns.now c.loop-column.column-index 0) c.in_err-other.field-0.0 c.loop-column.invariant c.loop-column-test.true refl
    (sym c.ratio.ensures ∙ c.in_err-other.was) in
    grind arith

pub returns-in_err-own : goal.returns-in_err-own
returns-in_err-own c =
    let whole = compare_refused_own c.args.tableau.now c.args.entering c.args.best c.args.row c.args.columns.now c.loop-column.column-index
    (get_or c.args.columns.now c.loop-column.column-index 0) c.in_ok-other.other c.in_err-own.field-0.0 c.loop-column.invariant c.loop-column-test.true refl
    (sym c.ratio.ensures ∙ c.in_ok-other.was) (sym c.ratio-in-loop-column.ensures ∙ c.in_err-own.was) in
    grind arith

pub returns-in-Less : goal.returns-in-Less
returns-in-Less c =
    sym (compare_both _ _ _ _ _ _ (get_or c.args.columns.now c.loop-column.column-index 0) c.in_ok-other.other c.in_ok-own.own Less c.loop-column.invariant
    c.loop-column-test.true refl
    (sym c.ratio.ensures ∙ c.in_ok-other.was) (sym c.ratio-in-loop-column.ensures ∙ c.in_ok-own.was) c.in-Less.ensures.order
    ∙ answer_nothing entry_is_owed true)

pub returns-in-Greater : goal.returns-in-Greater
returns-in-Greater c =
    sym (compare_both _ _ _ _ _ _ (get_or c.args.columns.now c.loop-column.column-index 0) c.in_ok-other.other c.in_ok-own.own Greater c.loop-column.invariant
    c.loop-column-test.true refl
    (sym c.ratio.ensures ∙ c.in_ok-other.was) (sym c.ratio-in-loop-column.ensures ∙ c.in_ok-own.was) c.in-Greater.ensures.order
    ∙ answer_nothing entry_is_owed false)

pub loop-column-preserved : goal.loop-column-preserved
loop-column-preserved c = record {
  same =
      compare_both _ _ _ _ _ _ (get_or c.args.columns.now c.loop-column.column-index 0) c.in_ok-other.other c.in_ok-own.own Equal c.loop-column.invariant
      c.loop-column-test.true refl
      (sym c.ratio.ensures ∙ c.in_ok-other.was) (sym c.ratio-in-loop-column.ensures ∙ c.in_ok-own.was) c.in-Equal.ensures.order;
}

pub returns : goal.returns
returns c = compare_done c.args.tableau.now c.args.entering c.args.best c.args.row c.args.columns.now c.loop-column.column-index c.loop-column.invariant
    c.loop-column-test.false
