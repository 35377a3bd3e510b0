-- What a word of 64 or 128 bits gives back of a number.
use Rattle.std.specs.Prelude.{◌≡◌, ◌<◌, ◌^◌, ℤ, FitsSigned, nat_abs}
use Rattle.std.specs.Int.{w64, w128}
use Rattle.std.proofs.Common.{arith, sym, ◌∙◌, ap, subst, to_z, of_z}
use Rattle.std.proofs.lemmas.Int.{ints, to_z-of_z, fits_signed_from_abs}
use Rattle.symmetric_matrix.specs.Symmetric.{FitsInt}

pub read_64 : (z : ℤ) → nat_abs z < 2 ^ 63 → to_z w64 (of_z w64 z) ≡ z
read_64 z h = to_z-of_z w64 z (fits_signed_from_abs w64 z h)

pub read_128 : (z : ℤ) → nat_abs z < 2 ^ 127 → to_z w128 (of_z w128 z) ≡ z
read_128 z h = to_z-of_z w128 z (fits_signed_from_abs w128 z h)

pub read_64_128 : (z : ℤ) → nat_abs z < 2 ^ 63 → to_z w128 (of_z w128 (to_z w64 (of_z w64 z))) ≡ z
read_64_128 z h = ap (λ (u : ℤ). to_z w128 (of_z w128 u)) (read_64 z h) ∙ read_128 z (omega (arith, h))

-- a number that fits is kept as it is
pub fits_as_kept : (z : ℤ) → FitsInt z → FitsInt (to_z w128 (of_z w128 z))
fits_as_kept z h = let within : FitsSigned w128 z = omega (arith, ints) in subst FitsInt (sym (to_z-of_z w128 z within)) h
