use Rattle.std.proofs.Common.{length}
use Rattle.exact_linear.specs.Tables.{first_place}
use Rattle.exact_linear.proofs.Seeking.{IsSeeking}
use Rattle.extreme_ray.specs.Rays.{is_name}
use Rattle.extreme_ray.proofs.row.place_of.Given as goal

abbrev pub invariant-loop-i : goal.invariant-loop-i
invariant-loop-i l = IsSeeking (first_place (is_name l.names l.name) 0 (length l.names)) (is_name l.names l.name) l.i (length l.names)
