use Rattle.std.proofs.Common.{rules}
use Rattle.unimodular_cone.proofs.open_children.open_of.Goals as goal

pub returns-in-false-true : goal.returns-in-false-true
returns-in-false-true c = (search rules, search rules, search rules)
