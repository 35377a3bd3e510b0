use Rattle.std.proofs.Common.{◌≡◌, ◌∙◌, ◌+◌, sym, ap, arith, ℕ}
use Rattle.exact_linear.proofs.Seeking.{gather_take, gather_skip, gather_done}
use Rattle.exact_linear.specs.Tables.{rows_of, is_basic}
use Rattle.exact_lp.proofs.Weighing.{zeros_start}
use Rattle.exact_lp.proofs.ends.zeros.Goals as goal
use Rattle.exact_lp.proofs.ends.zeros.Goals.{then-is_basic+in_ok-push, else-is_basic}

pub loop-vector-init : goal.loop-vector-init
loop-vector-init c = zeros_start c.args.tableau.now c.args.vectors c.new-zeros.result c.new-zeros.ensures

pub loop-vector-preserved : goal.loop-vector-preserved
loop-vector-preserved c =
    let column : rows_of c.args.tableau.now + c.loop-vector.vector ≡ c.rows-units.result + c.loop-vector.vector =
    (let a = c.rows-units.ensures.value in omega arith) in
    elim c.if-is_basic.branch [
      | then-is_basic+in_ok-push w ↦ rw w.zeros-is
          (gather_take _ _ w.push.new.self _ _ _ c.loop-vector.invariant
          (let a = c.loop-vector-test.true in omega arith) (ap (λ (k : ℕ). is_basic c.args.tableau.now k) column ∙ sym c.is_basic.ensures
          ∙ w.if-is_basic.true) w.in_ok-push.ensures.ok)
      | else-is_basic w ↦ rw w.zeros-is
          (gather_skip _ _ _ _ _ c.loop-vector.invariant
          (let a = c.loop-vector-test.true in omega arith) (ap (λ (k : ℕ). is_basic c.args.tableau.now k) column ∙ sym c.is_basic.ensures
          ∙ w.if-is_basic.false))
    ]

pub returns : goal.returns
returns c = gather_done _ _ _ _ _ c.loop-vector.invariant (let a = c.loop-vector-test.false in omega arith)
