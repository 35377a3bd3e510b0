use Rattle.std.specs.Prelude.{◌≡◌}
use Rattle.std.proofs.Common.{arith, ◌∙◌, length-set, ap, refl, sym, subst}
use Rattle.unimodular_cone.specs.ConeFields.{shown_of}
use Rattle.unimodular_cone.specs.Shown.{ShownCone, IsWithinLimits}
use Rattle.unimodular_cone.specs.Mediant.{IsMediantOf, IsRowOf, FitsWith}
use Rattle.unimodular_cone.proofs.Replaced.{IsChildMade, replaced, child_made, child_as}
use Rattle.unimodular_cone.proofs.cone.child_with.Goals.{After-set_row}
use Rattle.unimodular_cone.proofs.cone.child_with.Goals as goal

made : (c : After-set_row) → IsChildMade c.c.inside c.args.r c.args.s c.args.path
    (replaced c.c.inside c.args.path c.from.result c.mediant_coordinates-coordinates.result c.set_row.new.gram)
made c =
    let size : c.c.inside.n ≡ c.args.c.now.size = ap (λ (s : ShownCone). s.size) c.c.view_is in
    let xs : IsMediantOf (shown_of c.c.inside) c.args.r c.args.s c.mediant_coordinates-coordinates.result =
    subst (λ (s : ShownCone). IsMediantOf s c.args.r c.args.s c.mediant_coordinates-coordinates.result)
    (sym c.c.view_is) c.mediant_coordinates-coordinates.ensures in
    let row : IsRowOf (shown_of c.c.inside) c.args.r c.args.s c.mediant_row-row.result =
    subst (λ (s : ShownCone). IsRowOf s c.args.r c.args.s c.mediant_row-row.result) (sym c.c.view_is) c.mediant_row-row.ensures in
    child_made c.c.inside c.args.r c.args.s c.from.result c.args.path c.mediant_coordinates-coordinates.result c.mediant_row-row.result c.set_row.new.gram
    (omega arith) (omega arith) xs row c.set_row.ensures (omega (arith, c.c.invariant.room, c.c.invariant.within.few)) c.from.ensures

within : (c : After-set_row)
    → IsWithinLimits (shown_of (replaced c.c.inside c.args.path c.from.result c.mediant_coordinates-coordinates.result c.set_row.new.gram))
within c =
    (made c).within c.c.invariant.within c.requires.short (subst (λ (s : ShownCone). FitsWith s c.args.r c.args.s) (sym c.c.view_is) c.in_default.ensures)

pub invariant_of-made : goal.invariant_of-made
invariant_of-made c = record {
  within = within (goal.at.invariant_of-made c).After-set_row;
  room = length-set c.c.inside.generators c.from.result _ ∙ c.c.invariant.room;
}

pub returns-clause-made : goal.returns-clause-made
returns-clause-made c = child_as _ _ _ _ _ _ _ c.c.view_is refl (made (goal.at.returns-clause-made c).After-set_row).child

pub returns-clause-fits : goal.returns-clause-fits
returns-clause-fits c = within (goal.at.returns-clause-fits c).After-set_row
