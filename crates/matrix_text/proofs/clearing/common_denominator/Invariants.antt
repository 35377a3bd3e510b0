use Rattle.std.proofs.Common.{◌≡◌, ◌≤ℤ◌, pos, drop}
use Rattle.symmetric_matrix.specs.Symmetric.{FitsInt}
use Rattle.matrix_text.proofs.Clearings.{IsWithin, top_left, denominator_left}
use Rattle.matrix_text.proofs.clearing.common_denominator.Given as goal

abbrev pub invariant-loop-entry : goal.invariant-loop-entry
invariant-loop-entry l = record {
  left : denominator_left l.common l.place (drop l.entry-index l.a.lower) ≡ denominator_left (pos 1) top_left l.a.lower;
  positive : pos 1 ≤ℤ l.common;
  fits : FitsInt l.common;
  place : IsWithin l.place l.entry-index;
}
