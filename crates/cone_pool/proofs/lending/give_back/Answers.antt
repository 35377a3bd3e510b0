use Rattle.std.proofs.Common.{◌≡◌, ℕ, arith, ap, sym, refl, subst, ◌∙◌, length, map, List, slice_index_or}
use Rattle.cone_pool.specs.Crews.{lot_of, rest_of_member}
use Rattle.cone_pool.specs.Parts.{Member}
use Rattle.std.proofs.lemmas.List.{length-map, map-set}
use Rattle.cone_pool.proofs.Crewing.{map_keep, IsMemberAt, member_at}
use Rattle.cone_pool.proofs.Passes.{IsGivingBack, gives, in_place, left_below}
use Rattle.cone_pool.proofs.Taking.{with_lot}
use Rattle.cone_pool.proofs.lending.give_back.Goals.{After-index-members-len}
use Rattle.cone_pool.proofs.lending.give_back.Goals as goal

-- the member whose pass it is
abbrev there : After-index-members-len → Member
there c = slice_index_or c.loop-token.members c.len.result c.index-members-len.result

place : (c : After-index-members-len) → (c.len.result ≡ length c.pop.new.self.items) × IsMemberAt c.loop-token.members c.len.result (there c)
    × ((there c).lot ≡ slice_index_or (map lot_of c.loop-token.members) (length c.pop.new.self.items) (there c).lot)
place c =
    let e : c.len.result ≡ length c.pop.new.self.items = omega arith in
    let below = left_below _ _ c.pop.new.self.items c.in-Some.token _ _ c.loop-token.invariant.lots c.in-Some.ensures.items in
    let m = member_at c.loop-token.members c.len.result c.index-members-len.result c.index-members-len.is
    (omega (arith, length-map c.args.members.now lot_of)) in
    (e, m, subst (λ (k : ℕ). (there c).lot ≡ slice_index_or (map lot_of c.loop-token.members) k (there c).lot) e m.lot)

pub absorb-requires : goal.absorb-requires
absorb-requires c =
    (in_place _ _ c.pop.new.self.items c.in-Some.token _ (map lot_of c.loop-token.members) _ c.loop-token.invariant.lots c.in-Some.ensures.items
    (place (goal.at.absorb-requires c).After-index-members-len).2).1

pub loop-token-preserved : goal.loop-token-preserved
loop-token-preserved c =
    let ms : List Member = c.loop-token.members in
    let k : ℕ = c.len.result in
    let n = (goal.at.loop-token-preserved c).After-index-members-len in
    let p = place n in
    let given = gives _ _ c.pop.new.self.items c.in-Some.token (map lot_of c.args.members.now)
    (map lot_of ms) (there n).lot c.absorb.new.self c.loop-token.invariant.lots c.in-Some.ensures.items p.2 c.absorb.ensures in
    record {
      lots = subst (IsGivingBack c.args.tokens.items c.pop.new.self.items (map lot_of c.args.members.now))
          (ap (λ (m : ℕ). Rattle.std.proofs.Common.slice_set (map lot_of ms) m c.absorb.new.self) (sym p.0)
          ∙ sym (map-set lot_of ms k (with_lot (there n) c.absorb.new.self))) given;
      rest = map_keep rest_of_member ms k (there n) (with_lot (there n) c.absorb.new.self) p.1.within p.1.is refl ∙ c.loop-token.invariant.rest;
    }
