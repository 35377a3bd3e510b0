use Rattle.symmetric_matrix.specs.Symmetric.{entry}
use Rattle.extreme_ray.proofs.law.outside_has_a_ray.Goals as goal

pub returns : goal.returns
returns c n vectors s zeros l Z = (
  record { within = Z.within; leaving_within = Z.leaving_within; number = Z.number; independent = Z.independent },
  λ r R. (Z.extreme (entry r) R.is_ray, Z.separates (entry r) R.is_ray),
)
