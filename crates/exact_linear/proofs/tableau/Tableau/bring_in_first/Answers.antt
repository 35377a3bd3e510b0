use Rattle.std.proofs.Common.{◌≡◌, ◌∙◌, ◌-◌, sym, subst, arith, ◌+◌, Ok, Err, ℕ}
use Rattle.symmetric_matrix.specs.Owed.{answer}
use Rattle.exact_linear.specs.Tables.{rows_of}
use Rattle.exact_linear.specs.Exchange.{entry_is_owed, bring_ops, brought_in, first_ops, first_bases}
use Rattle.exact_linear.proofs.BringIn.{so_far_none, so_far_more, so_far_refused, so_far_all, so_far_rows, answer_some}
use Rattle.exact_linear.proofs.tableau.Tableau.bring_in_first.Goals as goal

pub loop-k-init : goal.loop-k-init
loop-k-init c = so_far_none c.args.self

pub bring_in-requires-clause-last : goal.bring_in-requires-clause-last
bring_in-requires-clause-last c =
    let s = (so_far_rows c.args.self c.loop-k.tableau c.loop-k.k c.loop-k.invariant).0 in
    let r = c.rows-rows.ensures.value in let l = c.loop-k-test.true in let q = c.requires in omega arith

pub overflow_add-rows : goal.overflow_add-rows
overflow_add-rows c = let a = c.rows-rows.ensures.value in let b = c.loop-k-test.true in let w = c.columns-width.ensures in let q = c.requires in
    omega (arith, c.columns-width.type_inv)

pub overflow_add-rows-in-loop-k : goal.overflow_add-rows-in-loop-k
overflow_add-rows-in-loop-k c = let a = c.rows-rows.ensures.value in let b = c.loop-k-test.true in let w = c.columns-width.ensures in let q = c.requires in
    omega (arith, c.columns-width.type_inv)

pub returns-in_err-bring_in-clause-made : goal.returns-in_err-bring_in-clause-made
returns-in_err-bring_in-clause-made c =
    let column : (c.rows-rows.result + c.loop-k.k + 1) - 1 ≡ rows_of c.args.self + c.loop-k.k = (let r = c.rows-rows.ensures.value in omega arith) in
    let whole : Err c.in_err-bring_in.field-0.0 ≡ answer entry_is_owed (first_ops c.args.self c.args.count) (first_bases c.args.self c.args.count) =
    answer_some (first_ops c.args.self c.args.count) (first_bases c.args.self c.args.count) c.in_err-bring_in.field-0.0
    (so_far_refused c.args.self c.loop-k.tableau c.loop-k.k c.args.count c.in_err-bring_in.field-0.0 c.loop-k.invariant c.loop-k-test.true
    (subst (λ (n : ℕ). answer entry_is_owed (bring_ops c.loop-k.tableau n) (tt {0}) ≡ Err c.in_err-bring_in.field-0.0) column (sym c.bring_in.ensures.refused
    ∙ c.in_err-bring_in.was))) in
    grind arith

pub loop-k-preserved : goal.loop-k-preserved
loop-k-preserved c =
    let column : (c.rows-rows.result + c.loop-k.k + 1) - 1 ≡ rows_of c.args.self + c.loop-k.k = (let r = c.rows-rows.ensures.value in omega arith) in
    so_far_more c.args.self c.loop-k.tableau c.bring_in.new.self c.loop-k.k c.loop-k.invariant
    (subst (λ (n : ℕ). answer entry_is_owed (bring_ops c.loop-k.tableau n) (tt {0}) ≡ Ok (tt {0})) column (sym c.in_ok-bring_in.ensures.refused))
    (subst (λ (n : ℕ). c.bring_in.new.self ≡ brought_in c.loop-k.tableau n) column c.in_ok-bring_in.ensures.made) c.bring_in.ensures.coordinates

pub returns-clause-made : goal.returns-clause-made
returns-clause-made c =
    so_far_all c.args.self c.loop-k.tableau c.loop-k.k c.args.count c.loop-k.invariant (let a = c.loop-k-test.false in let b = c.loop-k.auto.k-end in
    omega arith)

pub returns-clause-coordinates : goal.returns-clause-coordinates
returns-clause-coordinates c = c.loop-k.invariant.coordinates
