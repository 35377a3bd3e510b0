use Rattle.unimodular_cone.proofs.Roots.{root_not_wide}
use Rattle.symmetric_matrix.specs.Symmetric.{entry}
use Rattle.search_core.proofs.descent.fitting_root.Goals as goal

pub unreachable-requires : goal.unreachable-requires
unreachable-requires c = root_not_wide c.args.q.now.size (entry c.args.q.now) c.in-Err.field-0 c.requires c.in-Err.ensures.wide
