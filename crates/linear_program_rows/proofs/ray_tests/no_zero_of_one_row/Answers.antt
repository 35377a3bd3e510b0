use Rattle.linear_program_rows.proofs.RayExamples.{one_here}
use Rattle.linear_program_rows.proofs.ray_tests.no_zero_of_one_row.Goals as goal

pub ray-q-requires : goal.ray-q-requires
ray-q-requires g c = one_here c.vectors_of_one.result c.vectors_of_one.ensures
