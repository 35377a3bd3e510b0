use Rattle.unimodular_cone.proofs.Roots.{root_wide, root_is_cone, root_is_within}
use Rattle.unimodular_cone.proofs.cone.root.Goals as goal

pub returns-in-Some-clause-wide : goal.returns-in-Some-clause-wide
returns-in-Some-clause-wide c = root_wide c.args.q.now (record { path = c.root-path.result; entry = c.in-Some.entry }) c.root-path.ensures c.in-Some.ensures

pub invariant_of-result : goal.invariant_of-result
invariant_of-result c =
    rw (c.n.ensures.value, c.root-path.ensures)
    (record {
      within = root_is_within c.args.q.now c.lower_of.result c.unit_rows.result c.n.ensures.matrix c.lower_of.ensures c.unit_rows.ensures
          c.in_default.ensures;
      room = c.unit_rows.ensures.room;
    })

pub returns-clause-made : goal.returns-clause-made
returns-clause-made c =
    rw (c.n.ensures.value, c.root-path.ensures)
    (root_is_cone c.args.q.now c.lower_of.result c.unit_rows.result c.n.ensures.matrix c.lower_of.ensures c.unit_rows.ensures)

pub returns-clause-fits : goal.returns-clause-fits
returns-clause-fits c =
    rw (c.n.ensures.value, c.root-path.ensures)
    (root_is_within c.args.q.now c.lower_of.result c.unit_rows.result c.n.ensures.matrix c.lower_of.ensures c.unit_rows.ensures c.in_default.ensures)
