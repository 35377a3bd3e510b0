use Rattle.std.proofs.Common.{◌≡◌, ◌<◌, ℕ, pos, nat_abs, drop, take, length, slice_index_or}
use Rattle.symmetric_matrix.specs.Symmetric.{FitsInt}
use Rattle.matrix_text.specs.Clearing.{numerators_over}
use Rattle.matrix_text.proofs.Clearings.{IsWithin, top_left, numerator_left}
use Rattle.matrix_text.proofs.clearing.numerators.Given as goal

abbrev pub invariant-loop-entry : goal.invariant-loop-entry
invariant-loop-entry l = record {
  left : numerator_left (nat_abs l.denominator) l.place (drop l.entry-index l.a.lower) (numerators_over (nat_abs l.denominator) l.a.lower)
      ≡ numerator_left (nat_abs l.denominator) top_left l.a.lower (numerators_over (nat_abs l.denominator) l.a.lower);
  so_far : l.lower.items ≡ numerators_over (nat_abs l.denominator) (take l.entry-index l.a.lower);
  fits : (k : ℕ) → k < length l.lower.items → FitsInt (slice_index_or l.lower.items k (pos 0));
  place : IsWithin l.place l.entry-index;
}
