use Rattle.linear_program_rows.proofs.RayExamples.{three_here}
use Rattle.linear_program_rows.proofs.ray_tests.zero_at_two_of_three.Goals as goal

pub ray-requires : goal.ray-requires
ray-requires g c = three_here c.vectors_of_two-vectors.result c.vectors_of_two-vectors.ensures
