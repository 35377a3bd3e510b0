use Rattle.std.proofs.Common.{◌≡◌, ℕ, arith, refl, ◌∙◌, map, List, slice_index_or}
use Rattle.cone_pool.specs.Crews.{lot_of, rest_of_member}
use Rattle.cone_pool.specs.Lots.{token_on}
use Rattle.cone_pool.specs.Parts.{Member}
use Rattle.std.proofs.lemmas.List.{map-set}
use Rattle.cone_pool.proofs.Crewing.{map_keep, member_at}
use Rattle.cone_pool.proofs.Passes.{fork_more, token_more}
use Rattle.cone_pool.proofs.Taking.{with_lot}
use Rattle.cone_pool.proofs.lending.passes.Goals as goal

pub loop-k-preserved : goal.loop-k-preserved
loop-k-preserved c =
    let ms : List Member = c.loop-k.members in
    let k : ℕ = c.loop-k.k in
    let there : Member = slice_index_or ms k c.index-members-k.result in
    let m = member_at ms k c.index-members-k.result c.index-members-k.is (omega arith) in
    let token : c.fork.result ≡ token_on there.lot = c.fork.ensures.token in record {
      lots = map-set lot_of ms k (with_lot there c.fork.new.self) ∙ fork_more (map lot_of c.args.members.now)
          (map lot_of ms) k there.lot c.fork.new.self c.loop-k.invariant.lots m.lots_within m.lot c.fork.ensures.lot;
      rest = map_keep rest_of_member ms k there (with_lot there c.fork.new.self) m.within m.is refl ∙ c.loop-k.invariant.rest;
      tokens = token_more (map lot_of c.args.members.now)
          (map lot_of ms) k there.lot c.fork.result c.loop-k.tokens.items c.push.new.self.items c.loop-k.invariant.lots m.lots_within m.lot token
          c.loop-k.invariant.tokens
          c.in_ok-push.ensures.items;
    }
