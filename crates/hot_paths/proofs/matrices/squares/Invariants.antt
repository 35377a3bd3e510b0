use Rattle.std.proofs.Common.{◌≡◌, length}
use Rattle.std.specs.Prelude.{All}
use Rattle.hot_paths.proofs.matrices.squares.Given as goal

abbrev pub invariant-loop : goal.invariant-loop
invariant-loop l = record {
  count : length l.squares.items ≡ l.counter;
  sizes : All (λ q. q.size ≡ 6) l.squares.items;
}
