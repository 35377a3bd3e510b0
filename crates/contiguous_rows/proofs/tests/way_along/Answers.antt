use Rattle.std.proofs.Common.{◌≡◌, ◌∙◌, rules, to_z, of_z, to_z-of_z, SFits, ℤ, pos, ◌<◌, get_or}
use mir.Syntax.{w128}
use Rattle.contiguous_rows.proofs.FirstRay.{ray_lower, IsFirstWay, sizes, minimum, perfect, extreme, long, below}
use Rattle.contiguous_rows.proofs.tests.way_along.Given.{Over}
use Rattle.contiguous_rows.proofs.tests.way_along.Goals.{After-start_minimum}
use Rattle.contiguous_rows.proofs.tests.way_along.Goals as goal

two : (m : ℤ) → SFits w128 m → m ≡ pos 2 → to_z w128 (of_z w128 m) ≡ pos 2
two m fits e = to_z-of_z fits ∙ e

pub from_lower-requires-clause-lower : goal.from_lower-requires-clause-lower
from_lower-requires-clause-lower g c = ray_lower

way : (g : Over) (c : After-start_minimum g)
    → IsFirstWay c.in_ok-matrix.matrix c.in_ok-ray.ray c.in_ok-vectors.vectors (to_z w128 (of_z w128 c.start_minimum.result))
way g c = record {
  matrix_is = c.in_ok-matrix.ensures;
  ray_is = c.in_ok-ray.ensures;
  vectors_are = c.in_ok-vectors.ensures.list;
  minimum_is = two c.start_minimum.result (search rules) c.start_minimum.ensures;
}

pub next_perfect-answer-requires-clause-sizes : goal.next_perfect-answer-requires-clause-sizes
next_perfect-answer-requires-clause-sizes g c = sizes _ _ _ _ (way g (goal.at.next_perfect-answer-requires-clause-sizes g c).After-start_minimum)

pub next_perfect-answer-requires-clause-minimum : goal.next_perfect-answer-requires-clause-minimum
next_perfect-answer-requires-clause-minimum g c = minimum _ _ _ _ (way g (goal.at.next_perfect-answer-requires-clause-minimum g c).After-start_minimum)

pub next_perfect-answer-requires-clause-perfect : goal.next_perfect-answer-requires-clause-perfect
next_perfect-answer-requires-clause-perfect g c = perfect _ _ _ _ (way g (goal.at.next_perfect-answer-requires-clause-perfect g c).After-start_minimum)

pub next_perfect-answer-requires-clause-extreme : goal.next_perfect-answer-requires-clause-extreme
next_perfect-answer-requires-clause-extreme g c = extreme _ _ _ _ (way g (goal.at.next_perfect-answer-requires-clause-extreme g c).After-start_minimum)

pub next_perfect-answer-requires-clause-length : goal.next_perfect-answer-requires-clause-length
next_perfect-answer-requires-clause-length g c =
    long _ _ _ _ (way g (goal.at.next_perfect-answer-requires-clause-length g c).After-start_minimum)
    c.from_slice.result (get_or c.args.below 0 0) (get_or c.args.below 1 0) c.from_slice.ensures

pub next_perfect-answer-requires-clause-below : goal.next_perfect-answer-requires-clause-below
next_perfect-answer-requires-clause-below g c =
    let second : 0 < get_or c.args.below 1 0 = search rules in
    let greater : get_or c.args.below 1 0 < get_or c.args.below 0 0 = search rules in
    below _ _ _ _ (way g (goal.at.next_perfect-answer-requires-clause-below g c).After-start_minimum)
    c.from_slice.result (get_or c.args.below 0 0) (get_or c.args.below 1 0) c.from_slice.ensures second greater

pub last_candidate-requires-clause-sizes : goal.last_candidate-requires-clause-sizes
last_candidate-requires-clause-sizes g c = sizes _ _ _ _ (way g (goal.at.last_candidate-requires-clause-sizes g c).After-start_minimum)
