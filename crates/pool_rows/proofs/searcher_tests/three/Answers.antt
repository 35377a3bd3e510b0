use Rattle.std.proofs.Common.{refl}
use Rattle.exact_forms.specs.Triangles.{triangle}
use Rattle.symmetric_matrix.proofs.SmallLower.{narrow, lower_of}
use Rattle.pool_rows.proofs.searcher_tests.three.Goals as goal

pub from_lower-requires-clause-lower : goal.from_lower-requires-clause-lower
unfolding triangle
from_lower-requires-clause-lower c = lower_of 3 _ refl (
  narrow c.args.a c.requires.first,
  (
    narrow c.args.b c.requires.second,
    (
      narrow c.args.c c.requires.third,
      (narrow c.args.d c.requires.fourth, (narrow c.args.e c.requires.fifth, (narrow c.args.f c.requires.last, tt))),
    ),
  ),
)
