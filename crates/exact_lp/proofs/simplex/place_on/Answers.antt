use Rattle.std.proofs.Common.{◌≡◌, ◌∙◌, ◌∷◌, sym, ap, ap₂, subst, arith, ℕ, List, length, length-append, [], ◌+◌, ◌≤◌}
use Rattle.symmetric_matrix.specs.Owed.{first_owed}
use Rattle.symmetric_matrix.proofs.Owed.{some_of_err}
use Rattle.exact_linear.specs.Tables.{Table, rows_of}
use Rattle.exact_linear.specs.Exchange.{entry_is_owed, first_ops, first_bases}
use Rattle.exact_lp.specs.Rule.{is_settled}
use Rattle.exact_lp.specs.Placement.{opened, opened_ops, IsPlaceAnswer, IsWeightsAnswer, IsOutsideAnswer}
use Rattle.exact_lp.proofs.Weighing.{on_ok}
use Rattle.exact_lp.proofs.Placing.{problem, err_owed, no_error, if_ok_made, is_none, IsFirstDone, first_done, wide_first, wide_open, settled_weighed}
use Rattle.exact_lp.proofs.Placing.{last_free, at_start, at_inside, at_outside, at_pivots, at_wide, at_more, firsts_columns, ranks_columns, entering_within}
use Rattle.exact_lp.proofs.Placing.{stepped_facts, step_owed, at_row}
use Rattle.exact_lp.proofs.simplex.place_on.Goals as goal
use Rattle.exact_lp.proofs.simplex.place_on.Goals.{In-Ok}

pub returns-in-Err : goal.returns-in-Err
returns-in-Err c = subst (IsPlaceAnswer (problem c.args.start c.args.vectors c.args.d) c.args.budget) (sym c.wide.ensures)
    (wide_first (problem c.args.start c.args.vectors c.args.d) c.args.budget c.new-steps.result c.in-Err.op c.new-steps.ensures
    (some_of_err entry_is_owed (first_ops c.args.start c.args.vectors) (first_bases c.args.start c.args.vectors) c.in-Err.op
    (sym c.bring_in_first.ensures.made ∙ c.in-Err.is)))

-- the first columns have come in
first_is : (c : In-Ok) → IsFirstDone c.args.start c.in-Ok.tableau c.args.vectors
first_is c = first_done c.args.start c.in-Ok.tableau c.args.vectors (sym c.in-Ok.is ∙ c.bring_in_first.ensures.made)

width_is : (c : In-Ok) → rows_of c.in-Ok.tableau + c.args.vectors + 2 ≡ c.in-Ok.tableau.width
width_is c = let D = first_is c in let r = D.rows in let w = D.width in let q = c.requires.width in omega arith

wide_enough : (c : In-Ok) → rows_of c.in-Ok.tableau + c.args.vectors + 2 ≤ c.in-Ok.tableau.width
wide_enough c = let w = width_is c in omega arith

some_rows : (c : In-Ok) → 1 ≤ rows_of c.in-Ok.tableau
some_rows c = let D = first_is c in let r = D.rows in let o = c.requires.row in omega arith

pub first_columns-requires : goal.first_columns-requires
first_columns-requires c = wide_enough (goal.at.first_columns-requires c).In-Ok

pub is_settled-requires : goal.is_settled-requires
is_settled-requires c = wide_enough (goal.at.is_settled-requires c).In-Ok

pub inside-requires-clause-width : goal.inside-requires-clause-width
inside-requires-clause-width c = wide_enough (goal.at.inside-requires-clause-width c).In-Ok

pub target_of-requires : goal.target_of-requires
target_of-requires c = wide_enough (goal.at.target_of-requires c).In-Ok

pub open-requires-clause-width : goal.open-requires-clause-width
open-requires-clause-width c = width_is (goal.at.open-requires-clause-width c).In-Ok

pub open-requires-clause-row : goal.open-requires-clause-row
open-requires-clause-row c = some_rows (goal.at.open-requires-clause-row c).In-Ok

pub returns-then-is_settled : goal.returns-then-is_settled
returns-then-is_settled c =
    let D = first_is (goal.at.returns-then-is_settled c).In-Ok in
    settled_weighed (problem c.args.start c.args.vectors c.args.d) c.args.budget c.in-Ok.tableau c.deref.result.now c.new-steps.result c.inside.result
    c.new-steps.ensures D.owes D.table (sym c.is_settled.ensures ∙ c.if-is_settled.true) (c.deref.ensures.value
    ∙ c.in-Ok-first_columns.ensures) c.inside.ensures

pub open-requires-clause-free : goal.open-requires-clause-free
open-requires-clause-free c = let D = first_is (goal.at.open-requires-clause-free c).In-Ok in
    last_free c.args.start c.in-Ok.tableau c.args.vectors D.table c.requires.units c.requires.width

pub returns-in-Err-open : goal.returns-in-Err-open
returns-in-Err-open c =
    let D = first_is (goal.at.returns-in-Err-open c).In-Ok in
    subst (IsPlaceAnswer (problem c.args.start c.args.vectors c.args.d) c.args.budget) (sym c.wide-in-Err-open.ensures)
    (wide_open (problem c.args.start c.args.vectors c.args.d) c.args.budget c.new-steps.result c.in-Err-open.op c.new-steps.ensures D.owes
    (ap (λ (t : Table). is_settled t c.args.vectors) (sym D.table) ∙ sym c.is_settled.ensures ∙ c.if-is_settled.false)
    (ap (λ (t : Table). first_owed entry_is_owed (opened_ops t c.args.vectors)) (sym D.table)
    ∙ err_owed (opened_ops c.in-Ok.tableau c.args.vectors) c.in-Err-open.op (sym c.open.ensures.refused ∙ c.in-Err-open.is)))

pub loop-tableau-init : goal.loop-tableau-init
loop-tableau-init c =
    let D = first_is (goal.at.loop-tableau-init c).In-Ok in
    let o = no_error c.open.result (opened_ops c.in-Ok.tableau c.args.vectors) c.open.ensures.refused (λ e h. c.in_default-open.not-Err e h) in
    at_start (problem c.args.start c.args.vectors c.args.d) c.args.budget c.in-Ok.tableau c.open.new.tableau c.in-Ok-first_columns.firsts.items
    c.in-Ok-ranks.ranks.items c.new-steps.result c.new-steps.ensures D.owes D.table
    (sym c.is_settled.ensures ∙ c.if-is_settled.false) c.in-Ok-first_columns.ensures (c.in-Ok-ranks.ensures
    ∙ ap₂ (λ (x : ℕ) (xs : List ℕ). x ∷ xs) c.target_of.ensures.value c.deref-2.ensures.value)
    o.0 (if_ok_made c.open.result (c.open.new.tableau ≡ opened c.in-Ok.tableau c.args.vectors) o.1 c.open.ensures.made)

pub returns-then-is_inside : goal.returns-then-is_inside
returns-then-is_inside c =
    at_inside (problem c.args.start c.args.vectors c.args.d) c.args.budget c.loop-tableau.tableau c.in-Ok-first_columns.firsts.items c.in-Ok-ranks.ranks.items
    c.loop-tableau.steps c.loop-tableau.invariant c.inside-then-is_inside.result (sym c.is_inside.ensures ∙ c.if-is_inside.true)
    (subst (λ (cs : List ℕ). IsWeightsAnswer c.loop-tableau.tableau c.args.vectors cs c.args.d c.loop-tableau.steps c.inside-then-is_inside.result)
    c.deref-then-is_inside.ensures.value c.inside-then-is_inside.ensures)

pub outside-requires-clause-columns : goal.outside-requires-clause-columns
outside-requires-clause-columns c =
    let D = first_is (goal.at.outside-requires-clause-columns c).In-Ok in
    firsts_columns c.in-Ok.tableau c.loop-tableau.tableau c.args.vectors c.deref-in_default-entering.result.now (c.deref-in_default-entering.ensures.value
    ∙ c.in-Ok-first_columns.ensures) (let r = D.rows in let w = D.width in let q = c.requires.width in omega arith) (c.loop-tableau.invariant.width
    ∙ sym D.width)

pub returns-in_default-entering : goal.returns-in_default-entering
returns-in_default-entering c =
    at_outside (problem c.args.start c.args.vectors c.args.d) c.args.budget c.loop-tableau.tableau c.in-Ok-first_columns.firsts.items c.in-Ok-ranks.ranks.items
    c.loop-tableau.steps c.loop-tableau.invariant c.outside.result (sym c.is_inside.ensures ∙ c.if-is_inside.false)
    (sym c.entering.ensures ∙ is_none c.entering.result (λ e h. c.in_default-entering.not-Some e h))
    (subst (λ (cs : List ℕ). IsOutsideAnswer c.loop-tableau.tableau c.args.vectors cs c.loop-tableau.steps c.outside.result)
    c.deref-in_default-entering.ensures.value c.outside.ensures)

pub returns-then-len-budget : goal.returns-then-len-budget
returns-then-len-budget c =
    at_pivots (problem c.args.start c.args.vectors c.args.d) c.args.budget c.loop-tableau.tableau c.in-Ok-first_columns.firsts.items c.in-Ok-ranks.ranks.items
    c.loop-tableau.steps c.loop-tableau.invariant c.in-Some.column (sym c.is_inside.ensures ∙ c.if-is_inside.false)
    (sym c.entering.ensures ∙ c.in-Some.is) (sym c.len.ensures ∙ c.if-len-budget.true)

pub step-requires-clause-columns : goal.step-requires-clause-columns
step-requires-clause-columns c =
    let D = first_is (goal.at.step-requires-clause-columns c).In-Ok in
    let cs = firsts_columns c.in-Ok.tableau c.loop-tableau.tableau c.args.vectors c.in-Ok-first_columns.firsts.items c.in-Ok-first_columns.ensures
    (let r = D.rows in let w = D.width in let q = c.requires.width in omega arith) (c.loop-tableau.invariant.width ∙ sym D.width) in
    ranks_columns c.loop-tableau.tableau c.args.vectors c.in-Ok-first_columns.firsts.items c.deref-in-loop-tableau-2.result.now
    (c.deref-in-loop-tableau-2.ensures.value ∙ c.loop-tableau.invariant.ranks_are
    ∙ ap (λ (n : ℕ). (n + c.args.vectors) ∷ c.in-Ok-first_columns.firsts.items) (sym c.loop-tableau.invariant.rows)) cs
    (let r = c.loop-tableau.invariant.rows in let w = c.loop-tableau.invariant.width in let q = c.requires.width in omega arith)

pub step-requires-clause-entering : goal.step-requires-clause-entering
step-requires-clause-entering c =
    let b = entering_within c.loop-tableau.tableau c.args.vectors c.in-Some.column (sym c.entering.ensures ∙ c.in-Some.is) in
    let r = c.loop-tableau.invariant.rows in let w = c.loop-tableau.invariant.width in let q = c.requires.width in omega arith

pub loop-tableau-smaller : goal.loop-tableau-smaller
loop-tableau-smaller c =
    let more = on_ok c.push.result _ (sym c.is_err.ensures.value ∙ c.if-is_err.false) c.push.ensures.ok in
    let size = ap length more ∙ length-append c.loop-tableau.steps (c.in-Ok-step.exchange ∷ []) in
    let w = c.loop-tableau.invariant.run.within in let n = c.if-len-budget.false in let l = c.len.ensures in omega arith

pub loop-tableau-preserved : goal.loop-tableau-preserved
loop-tableau-preserved c =
    let more = on_ok c.push.result _ (sym c.is_err.ensures.value ∙ c.if-is_err.false) c.push.ensures.ok in
    let S = stepped_facts c.loop-tableau.tableau c.step.new.tableau c.args.vectors c.in-Some.column c.deref-in-loop-tableau.result.now
    c.in-Ok-first_columns.firsts.items c.step.result c.in-Ok-step.exchange c.deref-in-loop-tableau.ensures.value c.in-Ok-step.is c.step.ensures in
    at_more (problem c.args.start c.args.vectors c.args.d) c.args.budget c.loop-tableau.tableau c.in-Ok-first_columns.firsts.items c.in-Ok-ranks.ranks.items
    c.loop-tableau.steps c.loop-tableau.invariant c.in-Some.column c.in-Ok-step.exchange c.step.new.tableau c.push.new.self
    (sym c.is_inside.ensures ∙ c.if-is_inside.false) (sym c.entering.ensures ∙ c.in-Some.is) (λ e. c.if-len-budget.false (c.len.ensures ∙ e)) S.0 S.1 S.2 more

pub returns-in-Err-step : goal.returns-in-Err-step
returns-in-Err-step c =
    subst (IsPlaceAnswer (problem c.args.start c.args.vectors c.args.d) c.args.budget) (sym c.wide-in-Err-step.ensures)
    (at_wide (problem c.args.start c.args.vectors c.args.d) c.args.budget c.loop-tableau.tableau c.in-Ok-first_columns.firsts.items c.in-Ok-ranks.ranks.items
    c.loop-tableau.steps c.loop-tableau.invariant c.in-Some.column c.in-Err-step.op
    (sym c.is_inside.ensures ∙ c.if-is_inside.false) (sym c.entering.ensures ∙ c.in-Some.is) (λ e. c.if-len-budget.false (c.len.ensures ∙ e))
    (step_owed c.loop-tableau.tableau c.step.new.tableau c.args.vectors c.in-Some.column c.deref-in-loop-tableau.result.now c.in-Ok-first_columns.firsts.items
    c.step.result c.in-Err-step.op c.deref-in-loop-tableau.ensures.value c.in-Err-step.is c.step.ensures))

pub step-requires-clause-leaves : goal.step-requires-clause-leaves
step-requires-clause-leaves c =
    at_row (problem c.args.start c.args.vectors c.args.d) c.args.budget c.loop-tableau.tableau c.in-Ok-first_columns.firsts.items c.in-Ok-ranks.ranks.items
    c.loop-tableau.steps c.loop-tableau.invariant c.in-Some.column c.deref-in-loop-tableau.result.now
    c.requires.leaves (sym c.is_inside.ensures ∙ c.if-is_inside.false) (sym c.entering.ensures ∙ c.in-Some.is) c.deref-in-loop-tableau.ensures.value
