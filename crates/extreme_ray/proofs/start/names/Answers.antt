use Rattle.std.proofs.Common.{◌∙◌, sym, arith}
use Rattle.exact_linear.proofs.Seeking.{gather_take, gather_skip, gather_done}
use Rattle.extreme_ray.proofs.start.names.Goals as goal
use Rattle.extreme_ray.proofs.start.names.Goals.{then-is_listed+in_ok-push, else-is_listed}

pub loop-name-preserved : goal.loop-name-preserved
loop-name-preserved c =
    elim c.if-is_listed.branch [
      | then-is_listed+in_ok-push w ↦ rw w.names-is
          (gather_take _ _ w.push.new.self.items _ _ _ c.loop-name.invariant
          (let a = c.loop-name-test.true in omega arith) (sym c.is_listed.ensures ∙ w.if-is_listed.true) w.in_ok-push.ensures.items)
      | else-is_listed w ↦ rw w.names-is
          (gather_skip _ _ _ _ _ c.loop-name.invariant
          (let a = c.loop-name-test.true in omega arith) (sym c.is_listed.ensures ∙ w.if-is_listed.false))
    ]

pub returns : goal.returns
returns c = gather_done _ _ _ _ _ c.loop-name.invariant (let a = c.loop-name-test.false in omega arith)
