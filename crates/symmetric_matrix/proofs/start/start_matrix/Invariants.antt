use Rattle.std.proofs.Common.{◌≡◌, map}
use Rattle.symmetric_matrix.specs.FirstMatrix.{first_entry}
use Rattle.symmetric_matrix.specs.Recipes.{triangle_places}
use Rattle.symmetric_matrix.proofs.start.start_matrix.Given as goal

abbrev pub invariant-loop-row : goal.invariant-loop-row
invariant-loop-row l = l.lower.items ≡ map (first_entry l.n) (triangle_places l.row)
