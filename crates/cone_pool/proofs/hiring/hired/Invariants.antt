use Rattle.std.proofs.Common.{◌≡◌, ◌+◌, length}
use Rattle.cone_pool.specs.Crews.{AreNewWorkers, AllKeep, seat_with_out}
use Rattle.cone_pool.proofs.hiring.hired.Given as goal

abbrev pub invariant-loop-k : goal.invariant-loop-k
invariant-loop-k l = record {
  workers : AreNewWorkers l.table.id 1 l.members.items;
  alike : AllKeep l.whole l.members.items;
  many : length l.members.items ≡ l.k;
  seat : l.first ≡ seat_with_out (l.initial.first.out + l.k) l.initial.first;
}
