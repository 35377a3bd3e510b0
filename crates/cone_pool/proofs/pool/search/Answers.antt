use Rattle.std.proofs.Common.{◌≡◌, ◌∙◌, arith, subst, length, List}
use Rattle.std.specs.List.{Contains}
use Rattle.symmetric_matrix.specs.Symmetric.{entry}
use Rattle.cone_pool.specs.Parts.{Member}
use Rattle.cone_pool.proofs.Pooling.{gathers_back, written_back}
use Rattle.cone_pool.proofs.pool.search.Goals as goal

pub gather-requires-clause-returned : goal.gather-requires-clause-returned
gather-requires-clause-returned g c =
    let e = written_back c.in_ok-members.members.len c.in_ok-members.members.items c.share.new.members (omega arith) (omega arith) in
    λ w there. c.in_ok-share.ensures.returned w (subst (λ (l : List Member). Contains l w) e there)

pub gather-requires-clause-gathered : goal.gather-requires-clause-gathered
gather-requires-clause-gathered g c =
    let e = written_back c.in_ok-members.members.len c.in_ok-members.members.items c.share.new.members (omega arith) (omega arith) in
    let many : length c.share.new.members ≡ c.args.workers = omega (arith, c.in_ok-members.ensures.many) in
    rw (c.new-3.ensures, c.of.ensures) (gathers_back c.args.mode c.args.q.now.size
    (entry c.args.q.now) c.args.limit c.in_ok-table.table _ c.share.new.members c.args.workers c.in_ok-new.field-0 c.in_ok-table.seat c.hired.new.first
    c.new-2.result c.new-4.result
    e c.in_ok-share.ensures.sums c.in_ok-table.ensures.seat c.in_ok-members.ensures.seat many c.new-2.ensures.none c.new-4.ensures c.in_ok-new.ensures)

pub gather-requires-clause-alike : goal.gather-requires-clause-alike
gather-requires-clause-alike g c =
    let e = written_back c.in_ok-members.members.len c.in_ok-members.members.items c.share.new.members (omega arith) (omega arith) in
    rw (c.new-2.ensures.whole, e) (c.in_ok-share.ensures.alike c.args.whole (rw c.as_mut_slice.ensures.value c.in_ok-members.ensures.alike))

pub returns-clause-whole : goal.returns-clause-whole
returns-clause-whole g c whole = c.conclude.ensures.whole (c.in_ok-gather.ensures.whole ∙ c.new-2.ensures.whole ∙ whole)
