-- The numbers of a mediant as loops make them.
use Rattle.std.specs.Prelude.{◌≡◌, ◌≢◌, ◌⊎◌, ℕ, ◌<◌, ◌≤◌, ◌^◌, ℤ, pos, ◌+ℤ◌, nat_abs, FitsSigned, List, length, slice_index_or, slice_set}
use Rattle.std.specs.Int.{w128}
use Rattle.std.proofs.Common.{arith, to_z, of_z, sym, ◌∙◌, ap, inl, inr, get_or-set_other, get_or-set_same}
use Rattle.std.proofs.lemmas.Int.{ints, to_z-of_z}
use Rattle.commutative_ring.proofs.SmallCases.{same_or_not}
use Rattle.unimodular_cone.specs.Cones.{child_gram}
use Rattle.unimodular_cone.specs.Shown.{ShownCone, shown_gram, IsWithinLimits}
use Rattle.unimodular_cone.specs.Mediant.{AreProducts, IsRowOf}
use Rattle.unimodular_cone.proofs.Additions.{child_gram_row, child_gram_square}
use Rattle.unimodular_cone.proofs.ShownLaws.{gram_within}

pub sum_fits : (a b : ℤ) → nat_abs a ≤ 2 ^ 101 → nat_abs b ≤ 2 ^ 101 → FitsSigned w128 (a +ℤ b)
sum_fits a b h k = omega (arith, ints)

pub sum_small : (a b : ℤ) → nat_abs a ≤ 2 ^ 100 → nat_abs b ≤ 2 ^ 100 → nat_abs (a +ℤ b) ≤ 2 ^ 101
sum_small a b h k = omega (arith, ints)

larger : (a : ℤ) → nat_abs a ≤ 2 ^ 100 → nat_abs a ≤ 2 ^ 101
larger a h = omega arith

small_fits : (a : ℤ) → nat_abs a ≤ 2 ^ 101 → FitsSigned w128 a
small_fits a h = omega (arith, ints)

-- two numbers that were read, and their sum
pub record IsSumRead (x y z : ℤ) : Type 0 where
  pub fits : FitsSigned w128 (to_z w128 (of_z w128 x) +ℤ to_z w128 (of_z w128 y))
  pub is : to_z w128 (of_z w128 (to_z w128 (of_z w128 x) +ℤ to_z w128 (of_z w128 y))) ≡ z

pub read_both : (x y a b : ℤ) → x ≡ a → y ≡ b → nat_abs a ≤ 2 ^ 101 → nat_abs b ≤ 2 ^ 101 → IsSumRead x y (a +ℤ b)
read_both x y a b e f h k =
    let p = to_z-of_z w128 a (small_fits a h) in
    let q = to_z-of_z w128 b (small_fits b k) in
    record { fits = rw (e, f, p, q) (sum_fits a b h k); is = rw (e, f, p, q) (to_z-of_z w128 (a +ℤ b) (sum_fits a b h k)) }

pub product_small : (c : ShownCone) (r s k : ℕ) → IsWithinLimits c → r < c.size → s < c.size → k < c.size
    → nat_abs (shown_gram c r k +ℤ shown_gram c s k) ≤ 2 ^ 101
product_small c r s k w lr ls lk = sum_small (shown_gram c r k) (shown_gram c s k) (gram_within c r k w lr lk) (gram_within c s k w ls lk)

-- two entries in a column
pub read_entries : (c : ShownCone) (r s k : ℕ) (x y : ℤ) → IsWithinLimits c → r < c.size → s < c.size → k < c.size → x ≡ shown_gram c r k
    → y ≡ shown_gram c s k → IsSumRead x y (shown_gram c r k +ℤ shown_gram c s k)
read_entries c r s k x y w lr ls lk e f =
    read_both x y _ _ e f (larger (shown_gram c r k) (gram_within c r k w lr lk)) (larger (shown_gram c s k) (gram_within c s k w ls lk))

-- the two products of which the entry on the diagonal is the sum
pub read_products : (c : ShownCone) (r s : ℕ) (xs : List ℤ) → IsWithinLimits c → r < c.size → s < c.size → AreProducts c r s xs
    → IsSumRead (slice_index_or xs r (pos 0)) (slice_index_or xs s (pos 0))
    ((shown_gram c r r +ℤ shown_gram c s r) +ℤ (shown_gram c r s +ℤ shown_gram c s s))
read_products c r s xs w lr ls h = read_both _ _ _ _ (h r lr) (h s ls) (product_small c r s r w lr ls lr) (product_small c r s s w lr ls ls)

-- the row of the mediant
pub row_is : (c : ShownCone) (r s at : ℕ) (row : List ℤ) (v : ℤ) → AreProducts c r s row → r < length row → at ≡ r
    → v ≡ (shown_gram c r r +ℤ shown_gram c s r) +ℤ (shown_gram c r s +ℤ shown_gram c s s) → IsRowOf c r s (slice_set row at v)
row_is c r s at row v h room e is = record { entries = λ k l. rw e (by k l (same_or_not k r)) }
  where
    by : (k : ℕ) → k < c.size → ((k ≡ r) ⊎ (k ≢ r)) → slice_index_or (slice_set row r v) k (pos 0) ≡ child_gram (shown_gram c) r s r k
    by k l (inl same) = ap (λ (w : ℕ). slice_index_or (slice_set row r v) w (pos 0)) same ∙ get_or-set_same row r v (pos 0) room ∙ is
        ∙ sym (child_gram_square (shown_gram c) r s) ∙ ap (child_gram (shown_gram c) r s r) (sym same)
    by k l (inr ne) = get_or-set_other row r k v (pos 0) ne ∙ h k l ∙ sym (child_gram_row (shown_gram c) r s k ne)
