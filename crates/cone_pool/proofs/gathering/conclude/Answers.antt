use Rattle.std.proofs.Common.{◌∙◌}
use Rattle.symmetric_matrix.specs.Symmetric.{entry}
use Rattle.search_core.specs.Fair.{IsFair}
use Rattle.cone_pool.proofs.Gatherings.{part_of}
use Rattle.cone_pool.proofs.Endings.{all_fair}
use Rattle.cone_pool.proofs.Keeping.{part_at_end}
use Rattle.cone_pool.proofs.gathering.conclude.Goals.{After-into_kept}
use Rattle.cone_pool.proofs.gathering.conclude.Goals as goal

pub finish-requires-clause-part : goal.finish-requires-clause-part
finish-requires-clause-part c = part_of c.args.mode c.args.q.now.size (entry c.args.q.now) c.args.limit c.args.table.id c.args.chief c.requires.gathered

fair : (c : After-into_kept) → IsFair c.args.mode c.args.q.now.size (entry c.args.q.now) c.args.limit c.finish.new.self.judged.items c.close-last.result.word
fair c =
    let done = c.in_ok-finish.ensures in
    all_fair c.args.mode c.args.q.now.size (entry c.args.q.now) c.args.limit c.args.table.id c.args.table.start c.close-last.result.word c.args.chief
    c.finish.new.self c.requires.gathered done.part done.same done.done.0 done.done.1 c.requires.start c.requires.small
    (rw c.into_seat.ensures at c.close-last.ensures.word) (rw c.into_seat.ensures at c.close-last.ensures.below)

pub returns-clause-part : goal.returns-clause-part
returns-clause-part c =
    let w = c.finish.new.self in
    let below = rw c.into_seat.ensures at c.close-last.ensures.below in
    rw c.into_kept.ensures (part_at_end c.args.mode c.args.q.now.size (entry c.args.q.now) c.args.limit c.close-last.result.word w.seat.told w.judged
    below c.in_ok-finish.ensures.part.judged.keeps (fair (goal.at.returns-clause-part c).After-into_kept))

pub returns-clause-whole : goal.returns-clause-whole
returns-clause-whole c whole =
    let done = c.in_ok-finish.ensures in
    rw (c.into_kept.ensures, done.part.judged.keeps.each (done.same.whole ∙ whole)) (fair (goal.at.returns-clause-whole c).After-into_kept)
