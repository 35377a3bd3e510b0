use Rattle.std.proofs.Common.{◌≡◌, length}
use Rattle.std.specs.Prelude.{All}
use Rattle.exact_forms.specs.Triangles.{triangle}
use Rattle.symmetric_matrix.specs.Symmetric.{FitsInt}
use Rattle.hot_paths.proofs.matrices.matrix.Given as goal

abbrev pub invariant-loop-index : goal.invariant-loop-index
invariant-loop-index l = record {
  rows : length l.lower.items ≡ triangle l.index;
  fits : All FitsInt l.lower.items;
}
