use Rattle.std.proofs.Common.{◌≡◌, ◌≤◌, ◌<◌, ℕ, length}
use Rattle.std.specs.Prelude.{◌-◌, slice_index_or}
use Rattle.unimodular_cone.specs.Shown.{shown_coordinate}
use Rattle.serial_search.proofs.values.coordinates_of.Given as goal

abbrev pub invariant-loop-p : goal.invariant-loop-p
invariant-loop-p g l = record {
  size : length l.coordinates ≡ 8;
  same : (i : ℕ) → i < l.p → slice_index_or l.coordinates i 0 ≡ shown_coordinate (g.C.ConeRead.cone l.c) (l.which - 1) i;
  rest : (i : ℕ) → l.p ≤ i → slice_index_or l.coordinates i 0 ≡ 0;
}
