use Rattle.linear_program_rows.proofs.RayExamples.{three_the_other_way}
use Rattle.linear_program_rows.proofs.ray_tests.zeros_in_the_other_order.Goals as goal

pub ray-requires : goal.ray-requires
ray-requires g c = three_the_other_way c.vectors_of_two-vectors.result c.vectors_of_two-vectors.ensures
