use Rattle.std.proofs.Common.{rules}
use Rattle.unimodular_cone.specs.Narrow.{IsNarrowMatrix}
use Rattle.unimodular_cone.proofs.Roots.{root_is_cone, root_is_within}
use Rattle.unimodular_cone.proofs.NarrowRoots.{narrow_fits, root_is_narrow}
use Rattle.unimodular_cone.proofs.ShallowCoordinates.{root_is_shallow}
use Rattle.unimodular_cone.proofs.narrow.narrow_root.Goals as goal

pub invariant_of-result : goal.invariant_of-result
invariant_of-result c =
    let narrow : IsNarrowMatrix c.args.q.now = search rules in
    rw (c.n.ensures.value, c.root.ensures)
    (record {
      cone = record {
        within = root_is_within c.args.q.now c.narrow_lower_of.result c.unit_rows.result c.n.ensures.matrix c.narrow_lower_of.ensures c.unit_rows.ensures
            (narrow_fits c.args.q.now narrow);
        room = c.unit_rows.ensures.room;
      };
      narrow = root_is_narrow c.args.q.now c.narrow_lower_of.result c.unit_rows.result c.n.ensures.matrix c.narrow_lower_of.ensures c.unit_rows.ensures narrow;
      shallow = root_is_shallow c.args.q.now c.narrow_lower_of.result c.unit_rows.result c.n.ensures.matrix c.narrow_lower_of.ensures c.unit_rows.ensures;
    })

pub returns-clause-made : goal.returns-clause-made
returns-clause-made c =
    rw (c.n.ensures.value, c.root.ensures)
    (root_is_cone c.args.q.now c.narrow_lower_of.result c.unit_rows.result c.n.ensures.matrix c.narrow_lower_of.ensures c.unit_rows.ensures)

pub returns-clause-fits : goal.returns-clause-fits
returns-clause-fits c =
    let narrow : IsNarrowMatrix c.args.q.now = search rules in
    rw (c.n.ensures.value, c.root.ensures)
    (root_is_within c.args.q.now c.narrow_lower_of.result c.unit_rows.result c.n.ensures.matrix c.narrow_lower_of.ensures c.unit_rows.ensures
    (narrow_fits c.args.q.now narrow))
