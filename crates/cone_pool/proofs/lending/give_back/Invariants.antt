use Rattle.std.proofs.Common.{◌≡◌, map, vec_len}
use Rattle.cone_pool.specs.Crews.{lot_of, rest_of_member}
use Rattle.cone_pool.proofs.Passes.{IsGivingBack}
use Rattle.cone_pool.proofs.lending.give_back.Given as goal

abbrev pub invariant-loop-token : goal.invariant-loop-token
invariant-loop-token l = record {
  lots : IsGivingBack l.fn.tokens.items l.rest.items (map lot_of l.initial.members) (map lot_of l.members);
  rest : map rest_of_member l.members ≡ map rest_of_member l.initial.members;
}

abbrev pub decreases-loop-token : goal.decreases-loop-token
decreases-loop-token l = vec_len l.rest
