use Rattle.std.proofs.Common.{◌≡◌, ◌+◌, ◌-◌, ◌∙◌, refl, arith, append-nil}
use Rattle.symmetric_matrix.proofs.Runs.{runs_from_none, late_runs_more, can_follow_next, next_appended}
use Rattle.symmetric_matrix.proofs.start.push_runs.Goals as goal

pub loop-last-init : goal.loop-last-init
loop-last-init c =
    let none : c.args.n - 1 - c.args.later - (c.args.n - 1 - c.args.later) ≡ 0 = omega arith in
    c.requires.before ∙ (rw (none, runs_from_none, append-nil) refl)

pub push-requires : goal.push-requires
push-requires c =
    can_follow_next c.args.n c.args.later (c.args.n - 1 - c.args.later) c.loop-last.last c.loop-last.list c.vector_of_run.result
    c.requires.within refl (omega arith) (omega arith) c.loop-last.invariant c.vector_of_run.ensures

pub loop-last-preserved : goal.loop-last-preserved
loop-last-preserved c =
    next_appended c.args.n c.args.later (c.args.n - 1 - c.args.later) c.loop-last.last c.loop-last.list c.push-in-loop-last.new.self c.vector_of_run.result
    c.requires.within refl (omega arith) c.loop-last.invariant c.vector_of_run.ensures c.in_ok-push.ensures.ok

pub returns : goal.returns
returns c =
    let whole : c.loop-last.last - (c.args.n - 1 - c.args.later) ≡ c.args.later + 1 = omega arith in
    c.loop-last.invariant ∙ (rw (whole, late_runs_more) refl)
