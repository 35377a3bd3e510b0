use Rattle.std.specs.Prelude.{◌≡◌, length, slice_set}
use Rattle.std.proofs.Common.{arith, rules, ◌∙◌, length-set, sym, subst}
use Rattle.unimodular_cone.specs.Shown.{ShownCone}
use Rattle.unimodular_cone.specs.ConeFields.{shown_of}
use Rattle.unimodular_cone.specs.Mediant.{IsMediantOf, FitsWith}
use Rattle.unimodular_cone.proofs.Replaced.{IsChildMade, replaced, child_made, child_after, still_short, IsPlaced, placed_of, written, corner_read, row_written}
use Rattle.unimodular_cone.proofs.Replaced.{corner_written}
use Rattle.unimodular_cone.proofs.cone.Cone.put.Goals.{After-place_of}
use Rattle.unimodular_cone.proofs.cone.Cone.put.Goals as goal

placed : (c : After-place_of) → IsPlaced c.self.inside c.args.r c.args.s c.place_of.result c.from.result c.from-2.result c.args.products.now c.set_row.new.gram
placed c = placed_of _ _ _ _ _ _ _ _ _ c.self.view_is c.self.invariant.within c.requires.first c.requires.second c.requires.products c.set_row.ensures
    c.place_of.ensures.place c.from.ensures c.from-2.ensures

made : (c : After-place_of) → IsChildMade c.self.inside c.args.r c.args.s c.push.new.self
    (replaced c.self.inside c.push.new.self c.from.result c.args.coordinates.now
    (slice_set c.set_row.new.gram c.place_of.result (written c.args.products.now c.set_row.new.gram c.place_of.result c.from-2.result)))
made c =
    let g = placed c in
    let room : length c.args.products.now ≡ 8 = search rules in
    let full : length c.self.inside.gram ≡ 36 = search rules in
    let xs : IsMediantOf (shown_of c.self.inside) c.args.r c.args.s c.args.coordinates.now =
    subst (λ (s : ShownCone). IsMediantOf s c.args.r c.args.s c.args.coordinates.now) (sym c.self.view_is) c.requires.coordinates in
    child_made c.self.inside c.args.r c.args.s c.from.result c.push.new.self c.args.coordinates.now _ _ g.first g.second xs
    (row_written _ _ _ _ _ _ _ _ g room) (corner_written _ _ _ _ _ _ _ _ g room full)
    (omega (arith, c.self.invariant.room, g.within.few, g.first)) c.from.ensures

pub overflow_add-self : goal.overflow_add-self
overflow_add-self c = (corner_read _ _ _ _ _ _ _ _ (placed (goal.at.overflow_add-self c).After-place_of)).fits

pub invariant_of-self : goal.invariant_of-self
invariant_of-self c =
    let short = still_short _ _ _ _ c.self.view_is c.push.ensures c.requires.room in
    record {
      within = (made (goal.at.invariant_of-self c).After-place_of).within c.self.invariant.within short
          (subst (λ (s : ShownCone). FitsWith s c.args.r c.args.s) (sym c.self.view_is) c.requires.fits);
      room = length-set c.self.inside.generators c.from.result _ ∙ c.self.invariant.room;
    }

pub returns : goal.returns
returns c = child_after _ _ _ _ _ _ _ c.self.view_is c.push.ensures (made (goal.at.returns c).After-place_of).child
