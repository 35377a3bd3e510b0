use Rattle.std.specs.Prelude.{◌≡◌, ◌≤◌, ◌<◌, ◌+◌, ℕ, length, slice_index_or}
use Rattle.unimodular_cone.specs.Shown.{shown_coordinate}
use Rattle.unimodular_cone.proofs.mediant.mediant_coordinates.Given as goal

abbrev pub invariant-loop-p : goal.invariant-loop-p
invariant-loop-p g l = record {
  room : length l.sums ≡ 8;
  sums : (k : ℕ) → k < l.p → slice_index_or l.sums k 0 ≡ shown_coordinate (g.C.ConeRead.cone l.c) l.r k + shown_coordinate (g.C.ConeRead.cone l.c) l.s k;
  rest : (k : ℕ) → l.p ≤ k → slice_index_or l.sums k 0 ≡ 0;
}
