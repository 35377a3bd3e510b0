use Rattle.extreme_ray.specs.Rays.{vector_size}
use Rattle.extreme_ray.proofs.OneRay.{one_ray}
use Rattle.extreme_ray.proofs.law.at_most_one_ray.Goals as goal

pub returns : goal.returns
returns c vectors zeros l r s list B hr hs R S = one_ray (vector_size vectors l) vectors zeros l B (λ k h. list.one_length k l h B.leaving_within) r s R S hr hs
