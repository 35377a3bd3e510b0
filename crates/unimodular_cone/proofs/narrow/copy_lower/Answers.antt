use Rattle.unimodular_cone.proofs.Copies.{copied_at, triangle_3, triangle_4, triangle_5, triangle_6}
use Rattle.unimodular_cone.proofs.narrow.copy_lower.Goals as goal

pub returns-in-3 : goal.returns-in-3
returns-in-3 c = copied_at _ _ _ _ _ c.in-3.is triangle_3 c.copy_entries.ensures

pub returns-in-4 : goal.returns-in-4
returns-in-4 c = copied_at _ _ _ _ _ c.in-4.is triangle_4 c.copy_entries-in-4.ensures

pub returns-in-5 : goal.returns-in-5
returns-in-5 c = copied_at _ _ _ _ _ c.in-5.is triangle_5 c.copy_entries-in-5.ensures

pub returns-in-6 : goal.returns-in-6
returns-in-6 c = copied_at _ _ _ _ _ c.in-6.is triangle_6 c.copy_entries-in-6.ensures
