use Rattle.std.proofs.Common.{◌∙◌, sym, arith, refl}
use Rattle.exact_lp.proofs.Weighing.{weigh_start, weigh_refused, weigh_more, weigh_done, on_ok}
use Rattle.exact_lp.proofs.ends.inside.Goals as goal

pub loop-vector-init : goal.loop-vector-init
loop-vector-init c =
    record { weighing = weigh_start c.args.tableau.now c.args.vectors c.args.firsts.now c.args.d c.new-weights.result c.new-weights.ensures; steps = refl }

pub returns-in-Err : goal.returns-in-Err
returns-in-Err c = (
  c.loop-vector.invariant.steps,
  weigh_refused c.args.tableau.now c.args.vectors c.args.firsts.now c.args.d c.loop-vector.weights c.loop-vector.vector c.in-Err.op
      c.loop-vector.invariant.weighing c.loop-vector-test.true (sym c.weight.ensures ∙ c.in-Err.is),
)

pub loop-vector-preserved : goal.loop-vector-preserved
loop-vector-preserved c = record {
  weighing = weigh_more c.args.tableau.now c.args.vectors c.args.firsts.now c.args.d c.loop-vector.weights c.push.new.self c.loop-vector.vector c.in-Ok.value
      c.loop-vector.invariant.weighing c.loop-vector-test.true
      (sym c.weight.ensures ∙ c.in-Ok.is) (on_ok c.push.result _ (sym c.is_err.ensures.value ∙ c.if-is_err.false) c.push.ensures.ok);
  steps = c.loop-vector.invariant.steps;
}

pub returns : goal.returns
returns c = (
  c.loop-vector.invariant.steps,
  weigh_done c.args.tableau.now c.args.vectors c.args.firsts.now c.args.d c.loop-vector.weights c.loop-vector.vector c.loop-vector.invariant.weighing
      (let a = c.loop-vector-test.false in let b = c.loop-vector.auto.vector-end in omega arith),
)
