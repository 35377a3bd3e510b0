use Rattle.std.proofs.Common.{◌≡◌, ℕ, ◌+◌, ◌*◌, ◌<◌, ◌≤◌, slice_index_or}
use Rattle.exact_forms.specs.Triangles.{triangle}
use Rattle.matrix_sample.proofs.sample.add_row.Given as goal

-- the entries before the column are done, and the others as before
abbrev pub invariant-loop-column : goal.invariant-loop-column
invariant-loop-column l = record {
  start : l.start ≡ triangle l.row;
  done : (j : ℕ) → j < l.column → slice_index_or l.sums (triangle l.row + j) 0
      ≡ slice_index_or l.initial.sums (triangle l.row + j) 0 + slice_index_or l.vector l.row 0 * slice_index_or l.vector j 0;
  before : (m : ℕ) → m < triangle l.row → slice_index_or l.sums m 0 ≡ slice_index_or l.initial.sums m 0;
  after : (m : ℕ) → triangle l.row + l.column ≤ m → slice_index_or l.sums m 0 ≡ slice_index_or l.initial.sums m 0;
}
