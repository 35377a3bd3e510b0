use Rattle.std.proofs.Common.{◌+◌, ◌∷◌}
use Rattle.exact_linear.specs.Tables.{places_where, contains}
use Rattle.exact_linear.proofs.Seeking.{IsGathered}
use Rattle.extreme_ray.proofs.start.names.Given as goal

abbrev pub invariant-loop-name : goal.invariant-loop-name
invariant-loop-name l = IsGathered (places_where (contains (l.leaving ∷ l.zeros)) 0 l.count) l.names.items (contains (l.leaving ∷ l.zeros)) l.name (0 + l.count)
