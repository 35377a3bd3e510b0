use Rattle.std.proofs.Common.{◌≡◌, ℕ, arith, ap, refl, sym, subst, ◌∙◌, ◌+◌, ◌-◌, length, map, List, slice_index_or, slice_set}
use Rattle.cone_pool.specs.Crews.{lot_of, rest_of_member, AreLent}
use Rattle.cone_pool.specs.Lots.{Deque, lot_deque, absorbed_all}
use Rattle.cone_pool.specs.Parts.{Member}
use Rattle.std.proofs.lemmas.List.{map-set}
use Rattle.cone_pool.proofs.Crewing.{map_keep, IsMemberAt, member_at}
use Rattle.cone_pool.proofs.Handing.{tokens_fit, comes_back}
use Rattle.cone_pool.proofs.Taking.{with_lot}
use Rattle.cone_pool.proofs.lending.take_back.Goals.{After-release-tokens}
use Rattle.cone_pool.proofs.lending.take_back.Goals as goal

-- the member that gives its passes back
abbrev there : After-release-tokens → Member
there c = slice_index_or c.loop-w.members c.loop-w.w c.index-members-w.result

place : (c : After-release-tokens) → IsMemberAt c.loop-w.members c.loop-w.w (there c)
place c = member_at c.loop-w.members c.loop-w.w c.index-members-w.result c.index-members-w.is (omega arith)

set : (c : After-release-tokens) → map lot_of (slice_set c.loop-w.members c.loop-w.w (with_lot (there c) c.release-tokens.new.self))
    ≡ slice_set (map lot_of c.loop-w.members) c.loop-w.w c.release-tokens.new.self
set c = map-set lot_of c.loop-w.members c.loop-w.w (with_lot (there c) c.release-tokens.new.self)

pub give_back-requires : goal.give_back-requires
give_back-requires c =
    let n = (goal.at.give_back-requires c).After-release-tokens in
    let m = place n in
    tokens_fit (map lot_deque (map lot_of c.args.members.now)) (map lot_of c.loop-w.members) c.loop-w.w
    (length c.args.members.now - c.loop-w.w) (there n).lot c.release-tokens.new.self c.release-tokens.result.items
    c.loop-w.invariant.lots c.loop-w.invariant.deques m.lots_within m.lot c.release-tokens.ensures.lot c.release-tokens.ensures.tokens
    ∙ ap (map lot_deque) (sym (set n))

pub loop-w-preserved : goal.loop-w-preserved
loop-w-preserved c =
    let ms : List Member = c.loop-w.members in
    let k : ℕ = c.loop-w.w in
    let o : ℕ = length c.args.members.now - k in
    let ds : List Deque = map lot_deque (map lot_of c.args.members.now) in
    let n = (goal.at.loop-w-preserved c).After-release-tokens in
    let m = place n in
    let step = comes_back ds (map lot_of ms) (map lot_of c.give_back.new.members) k o (there n).lot c.release-tokens.new.self c.release-tokens.result.items
    c.loop-w.invariant.lots c.loop-w.invariant.deques m.lots_within m.lot c.release-tokens.ensures.lot c.release-tokens.ensures.tokens
    (c.give_back.ensures.lots ∙ ap (absorbed_all c.release-tokens.result.items) (set n)) in
    let less : o - 1 ≡ length c.args.members.now - (k + 1) = omega arith in
    record {
      lots = subst (λ (n : ℕ). AreLent ds (k + 1) n (map lot_of c.give_back.new.members)) less step.lots;
      rest = c.give_back.ensures.rest ∙ map_keep rest_of_member ms k (there n) (with_lot (there n) c.release-tokens.new.self) m.within m.is refl
          ∙ c.loop-w.invariant.rest;
      deques = step.deques ∙ c.loop-w.invariant.deques;
      taken = λ p. step.taken p ∙ c.loop-w.invariant.taken p;
      put = λ p. step.put p ∙ c.loop-w.invariant.put p;
    }
