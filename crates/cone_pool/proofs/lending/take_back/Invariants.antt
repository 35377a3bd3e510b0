use Rattle.std.proofs.Common.{◌≡◌, ◌-◌, length, map}
use Rattle.unimodular_cone.specs.Paths.{Path}
use Rattle.cone_pool.specs.Crews.{lot_of, rest_of_member, AreLent, total_taken, total_put}
use Rattle.cone_pool.specs.Lots.{lot_deque}
use Rattle.cone_pool.proofs.lending.take_back.Given as goal

abbrev pub invariant-loop-w : goal.invariant-loop-w
invariant-loop-w l = record {
  lots : AreLent (map lot_deque (map lot_of l.initial.members)) l.w (length l.initial.members - l.w) (map lot_of l.members);
  rest : map rest_of_member l.members ≡ map rest_of_member l.initial.members;
  deques : map lot_deque (map lot_of l.members) ≡ map lot_deque (map lot_of l.initial.members);
  taken : (p : Path) → total_taken p (map lot_of l.members) ≡ total_taken p (map lot_of l.initial.members);
  put : (p : Path) → total_put p (map lot_of l.members) ≡ total_put p (map lot_of l.initial.members);
}
