use Rattle.std.proofs.Common.{ℕ, ap, ◌∙◌, ◌+◌, length}
use Rattle.std.proofs.Common.{length-append}
use Rattle.cone_pool.proofs.Newcomers.{one_hired, one_split, alike_more}
use Rattle.cone_pool.proofs.hiring.hired.Goals as goal

pub loop-k-preserved : goal.loop-k-preserved
loop-k-preserved c = record {
  workers = one_hired c.args.table.now.id c.loop-k.k _ _ _ c.loop-k.invariant.workers c.loop-k.invariant.many c.in_ok-hire.ensures.worker
      c.in_ok-push.ensures.items;
  alike = alike_more c.args.whole _ _ _ c.loop-k.invariant.alike c.in_ok-hire.ensures.whole c.in_ok-push.ensures.items;
  many = ap length c.in_ok-push.ensures.items ∙ length-append c.loop-k.members.items _ ∙ ap (λ (n : ℕ). n + 1) c.loop-k.invariant.many;
  seat = one_split c.loop-k.k c.args.first.now c.loop-k.first c.hire.new.first c.loop-k.invariant.seat c.in_ok-hire.ensures.seat;
}
