use Rattle.std.specs.Prelude.{◌≡◌, ◌+◌, length}
use Rattle.std.proofs.Common.{rules, ◌∙◌, length-set, length-append, ap, sym, subst}
use Rattle.unimodular_cone.specs.Shown.{ShownCone}
use Rattle.unimodular_cone.specs.Mediant.{IsMediantOf, FitsWith}
use Rattle.unimodular_cone.specs.Narrow.{HasNarrowMediant}
use Rattle.unimodular_cone.specs.NarrowFields.{as_wide, narrow_shown}
use Rattle.unimodular_cone.proofs.NarrowReplaced.{IsNarrowChildMade, narrow_replaced, narrow_child_made, corner_fits}
use Rattle.unimodular_cone.proofs.Replaced.{IsPlaced, placed_of, child_after, still_short}
use Rattle.unimodular_cone.proofs.ShallowCoordinates.{shallow_child}
use Rattle.unimodular_cone.proofs.narrow.NarrowCone.put.Goals.{After-place_of}
use Rattle.unimodular_cone.proofs.narrow.NarrowCone.put.Goals as goal

count : (c : After-place_of) → c.args.n ≡ c.self.inside.n
count c = c.requires.size ∙ sym (ap (λ (s : ShownCone). s.size) c.self.view_is)

placed : (c : After-place_of)
    → IsPlaced (as_wide c.self.inside) c.args.r c.args.s c.place_of.result c.from.result c.from-2.result c.args.products.now c.set_row.new.gram
placed c = placed_of _ _ _ _ _ _ _ _ _ c.self.view_is c.self.invariant.cone.within c.requires.first c.requires.second c.requires.products
    (rw (count c) at c.set_row.ensures)
    c.place_of.ensures.place c.from.ensures c.from-2.ensures

small : (c : After-place_of) → HasNarrowMediant (narrow_shown c.self.inside) c.args.r c.args.s
small c = subst (λ (s : ShownCone). HasNarrowMediant s c.args.r c.args.s) (sym c.self.view_is) c.requires.narrow

made : (c : After-place_of) → IsNarrowChildMade (as_wide c.self.inside) c.args.r c.args.s c.push.new.self
    (narrow_replaced (as_wide c.self.inside) c.push.new.self c.from.result c.args.coordinates.now c.args.products.now c.set_row.new.gram c.place_of.result
    c.from-2.result)
made c =
    let full : length c.args.products.now ≡ 8 = search rules in
    let filled : length c.self.inside.gram ≡ 36 = search rules in
    let xs : IsMediantOf (narrow_shown c.self.inside) c.args.r c.args.s c.args.coordinates.now =
    subst (λ (s : ShownCone). IsMediantOf s c.args.r c.args.s c.args.coordinates.now) (sym c.self.view_is) c.requires.coordinates in
    narrow_child_made _ _ _ _ _ _ _ _ (placed c) (small c) c.push.new.self c.args.coordinates.now full filled c.self.invariant.cone.room xs

pub overflow_add-self : goal.overflow_add-self
overflow_add-self c = let d = (goal.at.overflow_add-self c).After-place_of in corner_fits _ _ _ _ _ _ _ _ (placed d) (small d)

pub invariant_of-self : goal.invariant_of-self
invariant_of-self c =
    let d = (goal.at.invariant_of-self c).After-place_of in
    let m = made d in
    let longer : length c.push.new.self ≡ length c.self.inside.path + 1 = ap length c.push.ensures ∙ length-append c.self.inside.path _ in
    record {
      cone = record {
        within = m.made.within c.self.invariant.cone.within (still_short _ _ _ _ c.self.view_is c.push.ensures c.requires.room)
            (subst (λ (s : ShownCone). FitsWith s c.args.r c.args.s) (sym c.self.view_is) c.requires.fits);
        room = length-set c.self.inside.generators c.from.result _ ∙ c.self.invariant.cone.room;
      };
      narrow = m.narrow c.self.invariant.narrow;
      shallow = shallow_child (narrow_shown c.self.inside) c.args.r c.args.s (placed d).first (placed d).second c.self.invariant.shallow c.push.new.self _
          longer
          m.made.child;
    }

pub returns : goal.returns
returns c = child_after _ _ _ _ _ _ _ c.self.view_is c.push.ensures (made (goal.at.returns c).After-place_of).made.child
