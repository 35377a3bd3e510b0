use Rattle.std.proofs.Common.{◌≡◌, map, take}
use Rattle.cone_pool.specs.Crews.{lot_of, rest_of_member}
use Rattle.cone_pool.specs.Lots.{token_on}
use Rattle.cone_pool.proofs.Passes.{forked}
use Rattle.cone_pool.proofs.lending.passes.Given as goal

abbrev pub invariant-loop-k : goal.invariant-loop-k
invariant-loop-k l = record {
  lots : map lot_of l.members ≡ forked l.k (map lot_of l.initial.members);
  rest : map rest_of_member l.members ≡ map rest_of_member l.initial.members;
  tokens : l.tokens.items ≡ map token_on (take l.k (map lot_of l.initial.members));
}
