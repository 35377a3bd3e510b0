use Rattle.std.proofs.Common.{◌≡◌, ◌≤◌, ◌<◌, ℕ, length}
use Rattle.std.specs.Prelude.{◌-◌, slice_index_or}
use Rattle.unimodular_cone.specs.Shown.{shown_coordinate}
use Rattle.search_core.proofs.attaining.key_of.Given as goal

abbrev pub invariant-loop-p : goal.invariant-loop-p
invariant-loop-p g l = record {
  size : length l.key ≡ 8;
  same : (i : ℕ) → i < l.p → slice_index_or l.key i 0 ≡ shown_coordinate (g.C.ConeRead.cone l.c) (l.k - 1) i;
  rest : (i : ℕ) → l.p ≤ i → slice_index_or l.key i 0 ≡ 0;
}
