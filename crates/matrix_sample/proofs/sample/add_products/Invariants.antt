use Rattle.std.proofs.Common.{◌≡◌, ℕ, ◌+◌, ◌*◌, ◌<◌, ◌≤◌, slice_index_or}
use Rattle.exact_forms.specs.Triangles.{triangle}
use Rattle.matrix_sample.proofs.sample.add_products.Given as goal

-- the rows before this one are done, and the others as before
abbrev pub invariant-loop-row : goal.invariant-loop-row
invariant-loop-row l = record {
  done : (i j : ℕ) → j ≤ i → i < l.row → slice_index_or l.sums (triangle i + j) 0
      ≡ slice_index_or l.initial.sums (triangle i + j) 0 + slice_index_or l.vector i 0 * slice_index_or l.vector j 0;
  after : (m : ℕ) → triangle l.row ≤ m → slice_index_or l.sums m 0 ≡ slice_index_or l.initial.sums m 0;
}
