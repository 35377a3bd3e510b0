use Rattle.std.proofs.Common.{◌≡◌, ◌<◌, ℕ, arith, ap, refl, sym, subst, ◌∙◌, ◌+◌, length, map, List, slice_index_or, slice_set}
use Rattle.cone_pool.specs.Crews.{lot_of, rest_of_member, core_of_lot, AreHanded}
use Rattle.cone_pool.specs.Lots.{lot_with_one_out, token_on}
use Rattle.cone_pool.specs.Parts.{Member}
use Rattle.std.proofs.lemmas.List.{length-map, map-set}
use Rattle.cone_pool.proofs.Crewing.{map_keep, map_at}
use Rattle.cone_pool.proofs.Handing.{none_handed, hands_on}
use Rattle.cone_pool.proofs.Taking.{with_lot}
use Rattle.cone_pool.proofs.lending.hand_out.Goals as goal

pub loop-w-init : goal.loop-w-init
loop-w-init c = record { lots = none_handed _ _ 0 _ c.requires; rest = refl; cores = refl }

pub loop-w-preserved : goal.loop-w-preserved
loop-w-preserved c =
    let ms : List Member = c.passes.new.members in
    let k : ℕ = c.loop-w.w in
    let there : Member = slice_index_or ms k c.index-members-w.result in
    let is : there ≡ slice_index_or ms k there = ap (λ (x : Member). slice_index_or ms k x) c.index-members-w.is in
    let same : map lot_of ms ≡ map lot_with_one_out (map lot_of c.loop-w.members) = c.in_ok-tokens.ensures.lots in
    let l' : k < length (map lot_of ms) = omega (
      arith,
      ap length same,
      length-map (map lot_of c.loop-w.members) lot_with_one_out,
      length-map c.loop-w.members lot_of,
    ) in
    let l : k < length ms = omega (arith, length-map ms lot_of) in
    let at : there.lot ≡ slice_index_or (map lot_of ms) k there.lot = map_at lot_of ms k there l is in
    let step = hands_on (map lot_of c.args.members.now) (map lot_of c.loop-w.members) (map lot_of ms) k there.lot c.hold.new.self c.in_ok-tokens.tokens.items
    c.loop-w.invariant.lots c.loop-w.invariant.cores same c.in_ok-tokens.ensures.tokens l' at c.hold.ensures in
    let e : map lot_of (slice_set ms k (with_lot there c.hold.new.self)) ≡ slice_set (map lot_of ms) k c.hold.new.self =
    map-set lot_of ms k (with_lot there c.hold.new.self) in
    record {
      lots = subst (AreHanded (map token_on (map lot_of c.args.members.now)) (k + 1) (k + 1)) (sym e) step.0;
      rest = map_keep rest_of_member ms k there (with_lot there c.hold.new.self) l is refl ∙ c.in_ok-tokens.ensures.rest ∙ c.loop-w.invariant.rest;
      cores = ap (map core_of_lot) e ∙ step.1;
    }
