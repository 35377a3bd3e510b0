-- The numbers of the root's cone as loops make them, and what they show.
use Rattle.std.specs.Prelude.{◌≡◌, ◌≢◌, ◌⊎◌, ℕ, ◌<◌, ◌≤◌, ◌+◌, ◌-◌, max, min, ℤ, pos, FitsSigned, List, length, slice_index_or, slice_set}
use Rattle.std.specs.Int.{w128}
use Rattle.std.proofs.Common.{arith, to_z, of_z, sym, ◌∙◌, ap, ap₂, inl, inr, get_or-set_other, get_or-set_same, length-set}
use Rattle.std.proofs.lemmas.Int.{ints, to_z-of_z}
use Rattle.commutative_ring.proofs.SmallCases.{before_or_here}
use Rattle.exact_forms.specs.Triangles.{triangle}
use Rattle.exact_forms.proofs.Triangles.{place_decides}
use Rattle.symmetric_matrix.specs.Symmetric.{Symmetric, entry, FitsInt}
use Rattle.unimodular_cone.specs.RootNumbers.{IsPartRowCopied, IsRowCopied, IsLowerOf}
use Rattle.unimodular_cone.proofs.Fields.{place_below}

-- a number of the matrix that was read
narrow_back : (z y : ℤ) → z ≡ y → FitsInt z → to_z w128 (of_z w128 z) ≡ y
narrow_back z y e narrow = let f : FitsSigned w128 z = omega (arith, ints) in to_z-of_z w128 z f ∙ e

-- the place of an entry of the lower triangle, and the entry under the numbers from 1
pub placed_below : (i k at : ℕ) → k ≤ i → at ≡ triangle (max i k) + min i k → at ≡ triangle i + k
placed_below i k at le e =
    let a : max i k ≡ i = omega arith in let b : min i k ≡ k = omega arith in e ∙ ap₂ (λ (x : ℕ) (y : ℕ). triangle x + y) a b

pub entry_from_one : (q : Symmetric) (i k : ℕ) (z : ℤ) → z ≡ entry q (i + 1 - 1) (k + 1 - 1) → z ≡ entry q i k
entry_from_one q i k z e =
    let a : i + 1 - 1 ≡ i = omega arith in let b : k + 1 - 1 ≡ k = omega arith in e ∙ ap₂ (λ (x : ℕ) (y : ℕ). entry q x y) a b

-- one more entry is put in its place
pub row_placed_more : (q : Symmetric) (i k at : ℕ) (old new : List ℤ) (v : ℤ) → IsPartRowCopied q i k old new → length old ≡ 36 → k ≤ i → i < 8
    → at ≡ triangle i + k → v ≡ entry q i k → IsPartRowCopied q i (k + 1) old (slice_set new at v)
row_placed_more q i k at old new v h size le li place is = record {
  room = length-set new at v ∙ h.room;
  row = λ j lj lt. by j lj (before_or_here j k lt);
  before = λ a b lb la. get_or-set_other new at (triangle a + b) v (pos 0) (λ e. earlier a b lb la (e ∙ place)) ∙ h.before a b lb la;
}
  where
    below : triangle i + k < 36
    below = place_below i k le li

    earlier : (a b : ℕ) → b ≤ a → a < i → triangle a + b ≢ triangle i + k
    earlier a b lb la e = let d = place_decides a b i k lb le e in let f : a ≡ i = d.0 in omega arith

    by : (j : ℕ) → j ≤ i → ((j < k) ⊎ (j ≡ k)) → slice_index_or (slice_set new at v) (triangle i + j) (pos 0) ≡ entry q i j
    by j lj (inl lt) = get_or-set_other new at (triangle i + j) v (pos 0) (λ e. absurd (let f : triangle i + j ≡ triangle i + k = e ∙ place in omega arith))
        ∙ h.row j lj lt
    by j lj (inr e) =
        let f : triangle i + j ≡ at = ap (λ (w : ℕ). triangle i + w) e ∙ sym place in
        let room : at < length new = omega (arith, h.room, place, below) in
        ap (λ (w : ℕ). slice_index_or (slice_set new at v) w (pos 0)) f ∙ get_or-set_same new at v (pos 0) room ∙ is ∙ ap (entry q i) (sym e)

pub row_copied_more : (q : Symmetric) (i k at : ℕ) (old new : List ℤ) (z : ℤ) → IsPartRowCopied q i k old new → length old ≡ 36 → k ≤ i → i < 8
    → at ≡ triangle i + k → z ≡ entry q i k → FitsInt z → IsPartRowCopied q i (k + 1) old (slice_set new at (to_z w128 (of_z w128 z)))
row_copied_more q i k at old new z h size le li place is fits =
    row_placed_more q i k at old new (to_z w128 (of_z w128 z)) h size le li place (narrow_back z (entry q i k) is fits)

pub lower_more : (q : Symmetric) (i : ℕ) (old new : List ℤ) → IsLowerOf q i old → IsRowCopied q i old new → IsLowerOf q (i + 1) new
lower_more q i old new h copied = record { entries = λ a b lb la. by a b lb (before_or_here a i la) }
  where
    by : (a b : ℕ) → b ≤ a → ((a < i) ⊎ (a ≡ i)) → slice_index_or new (triangle a + b) (pos 0) ≡ entry q a b
    by a b lb (inl lt) = copied.before a b lb lt ∙ h.entries a b lb lt
    by a b lb (inr e) = ap (λ (w : ℕ). slice_index_or new (triangle w + b) (pos 0)) e ∙ copied.row b (omega arith) (omega arith)
        ∙ ap (λ (w : ℕ). entry q w b) (sym e)
