use Rattle.std.proofs.Common.{ℕ, arith, map, List, slice_index_or}
use Rattle.cone_pool.specs.Crews.{lot_of}
use Rattle.cone_pool.specs.Parts.{Member}
use Rattle.cone_pool.proofs.Crewing.{member_at}
use Rattle.cone_pool.proofs.Newcomers.{thief_more}
use Rattle.cone_pool.proofs.lending.thieves.Goals as goal

pub loop-k-preserved : goal.loop-k-preserved
loop-k-preserved c =
    let ms : List Member = c.args.members.now in
    let k : ℕ = c.loop-k.k in
    let there : Member = slice_index_or ms k c.index-members-k.result in
    let m = member_at ms k c.index-members-k.result c.index-members-k.is (omega arith) in
    thief_more (map lot_of ms) k there.lot _ _ _ m.lots_within m.lot c.loop-k.invariant c.in_ok-thief.ensures c.in_ok-push.ensures.items
