use Rattle.std.proofs.Common.{◌≡◌, map}
use Rattle.cone_pool.specs.Crews.{lot_of, rest_of_member, core_of_lot, AreHanded}
use Rattle.cone_pool.specs.Lots.{token_on}
use Rattle.cone_pool.proofs.lending.hand_out.Given as goal

abbrev pub invariant-loop-w : goal.invariant-loop-w
invariant-loop-w l = record {
  lots : AreHanded (map token_on (map lot_of l.initial.members)) l.w l.w (map lot_of l.members);
  rest : map rest_of_member l.members ≡ map rest_of_member l.initial.members;
  cores : map core_of_lot (map lot_of l.members) ≡ map core_of_lot (map lot_of l.initial.members);
}
