-- Lower triangles of two rows and of three, of numbers that come back from 128 bits.
use Rattle.std.specs.Prelude.{◌≡◌, ℕ, zero, suc, ◌<◌, ◌≤◌, ◌^◌, ℤ, pos, nat_abs, List, [], ◌∷◌, length, slice_index_or}
use Rattle.std.specs.Int.{w128}
use Rattle.std.specs.List.{AllByRecursion}
use Rattle.std.proofs.Common.{arith, refl, to_z, of_z}
use Rattle.exact_forms.specs.Triangles.{triangle}
use Rattle.symmetric_matrix.specs.Symmetric.{IsLower, FitsInt}
use Rattle.symmetric_matrix.proofs.Narrow.{fits_as_kept}

pub narrow : (z : ℤ) → nat_abs z ≤ 2 ^ 126 → FitsInt (to_z w128 (of_z w128 z))
narrow z h = fits_as_kept z (omega arith)

pub lower_of : (n : ℕ) (zs : List ℤ) → length zs ≡ triangle n → AllByRecursion FitsInt zs → IsLower n zs
lower_of n zs long fit = record { entries = long; fits = each zs fit }
  where
    each : (zs : List ℤ) → AllByRecursion FitsInt zs → (k : ℕ) → k < length zs → FitsInt (slice_index_or zs k (pos 0))
    each [] fit k l = absurd (omega arith)
    each (z ∷ zs) fit zero l = fit.0
    each (z ∷ zs) fit (suc k) l = each zs fit.1 k (omega arith)

pub lower_of_two : (a b c : ℤ) → FitsInt a → FitsInt b → FitsInt c → IsLower 2 (a ∷ b ∷ c ∷ [])
unfolding triangle
lower_of_two a b c ha hb hc = lower_of 2 (a ∷ b ∷ c ∷ []) refl (ha, (hb, (hc, tt)))

pub lower_of_three : (a b c d e f : ℤ) → FitsInt a → FitsInt b → FitsInt c → FitsInt d → FitsInt e → FitsInt f → IsLower 3 (a ∷ b ∷ c ∷ d ∷ e ∷ f ∷ [])
unfolding triangle
lower_of_three a b c d e f ha hb hc hd he hf = lower_of 3 (a ∷ b ∷ c ∷ d ∷ e ∷ f ∷ []) refl (ha, (hb, (hc, (hd, (he, (hf, tt))))))
