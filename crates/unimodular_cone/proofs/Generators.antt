-- The generators of every cone of the tree are nonzero vectors of numbers that are at least 0.
use Rattle.std.specs.Prelude.{◌≡◌, ◌≢◌, ℕ, zero, suc, ◌<◌, ℤ, pos, negsuc, ◌+ℤ◌, ◌≤ℤ◌, nat_abs, Bool, true, false, ◌⊎◌, Option, Some, None, List, [], ◌∷◌}
use Rattle.std.specs.Prelude.{length, slice_index_or}
use Rattle.std.proofs.Common.{arith, sym, ◌∙◌, ap, refl, inl, inr, subst}
use Rattle.std.proofs.lemmas.Int.{ints}
use Rattle.commutative_ring.proofs.SmallCases.{same_or_not}
use Rattle.exact_forms.specs.Slacks.{AreNonnegative}
use Rattle.exact_forms.proofs.Slacks.{replaced_here, replaced_other}
use Rattle.unimodular_cone.specs.Paths.{Path}
use Rattle.unimodular_cone.specs.Cones.{Matrix, Generators, gram, child, child_at, next_cone, cone_from, cone_at, pair_of, unit_vectors, IsPair}
use Rattle.unimodular_cone.specs.Answer.{IsListOf}
use Rattle.unimodular_cone.proofs.Pairs.{pair_of_some}
use Rattle.unimodular_cone.proofs.Covers.{IsNonzeroBelow, row_range}

pub record IsProper (n : ℕ) (v : Generators) : Type 0 where
  pub nonnegative : (k : ℕ) → k < n → AreNonnegative n (v k)
  pub nonzero : (k : ℕ) → k < n → IsNonzeroBelow n (v k)

proper_root : (n : ℕ) → IsProper n unit_vectors
proper_root n = record {
  nonnegative = λ k l p lp. entry k p (same_or_not k p);
  nonzero = λ k l. (k, l, λ e. absurd (one_is_not (sym (replaced_here (λ i. pos 0) k (pos 1) k refl) ∙ e)));
}
  where
    entry : (k p : ℕ) → ((k ≡ p) ⊎ (k ≢ p)) → pos 0 ≤ℤ unit_vectors k p
    entry k p (inl e) = rw (replaced_here (λ i. pos 0) p (pos 1) k e) (omega (arith, ints))
    entry k p (inr ne) = rw (replaced_other (λ i. pos 0) p (pos 1) k ne) (omega (arith, ints))

    one_is_not : pos 1 ≢ pos 0
    one_is_not e = omega (arith, ints)

proper_child : (n : ℕ) (v : Generators) (i j : ℕ) → i < n → j < n → IsProper n v → IsProper n (child v i j)
proper_child n v i j li lj h = record {
  nonnegative = λ k l. nonneg k l (same_or_not k i);
  nonzero = λ k l. nonzero k l (same_or_not k i);
}
  where
    sum_nonneg : (x y : ℤ) → pos 0 ≤ℤ x → pos 0 ≤ℤ y → pos 0 ≤ℤ (x +ℤ y)
    sum_nonneg x y a b = omega (arith, ints)

    sum_nonzero : (x y : ℤ) → pos 0 ≤ℤ x → pos 0 ≤ℤ y → x ≢ pos 0 → x +ℤ y ≢ pos 0
    sum_nonzero x y a b ne e = ne (omega (arith, ints))

    new : ℕ → ℤ
    new p = v i p +ℤ v j p

    nonneg : (k : ℕ) → k < n → ((k ≡ i) ⊎ (k ≢ i)) → AreNonnegative n (child v i j k)
    nonneg k l (inl e) = subst (AreNonnegative n) (sym (replaced_here v i new k e)) (λ p lp. sum_nonneg _ _ (h.nonnegative i li p lp) (h.nonnegative j lj p lp))
    nonneg k l (inr ne) = subst (AreNonnegative n) (sym (replaced_other v i new k ne)) (h.nonnegative k l)

    nonzero : (k : ℕ) → k < n → ((k ≡ i) ⊎ (k ≢ i)) → IsNonzeroBelow n (child v i j k)
    nonzero k l (inl e) = let z : IsNonzeroBelow n (v i) = h.nonzero i li in
        subst (IsNonzeroBelow n) (sym (replaced_here v i new k e)) (z.0, z.1, sum_nonzero _ _ (h.nonnegative i li z.0 z.1) (h.nonnegative j lj z.0 z.1) z.2)
    nonzero k l (inr ne) = subst (IsNonzeroBelow n) (sym (replaced_other v i new k ne)) (h.nonzero k l)

proper_next : (n : ℕ) (q : Matrix) (v : Generators) (side : Bool) → IsProper n v → IsProper n (next_cone n q v side)
proper_next n q v side h = by (pair_of n (gram n q v)) refl side
  where
    by : (o : Option (ℕ × ℕ)) → pair_of n (gram n q v) ≡ o → (side : Bool) → IsProper n (child_at o v side)
    by None e side = h
    by (Some (i, j)) e false = let r : IsPair n (gram n q v) i j = pair_of_some n (gram n q v) i j e in proper_child n v i j (row_range r) r.range h
    by (Some (i, j)) e true = let r : IsPair n (gram n q v) i j = pair_of_some n (gram n q v) i j e in proper_child n v j i r.range (row_range r) h

proper_from : (n : ℕ) (q : Matrix) (v : Generators) (path : Path) → IsProper n v → IsProper n (cone_from n q v path)
unfolding cone_from
proper_from n q v [] h = h
proper_from n q v (side ∷ path) h = proper_from n q (next_cone n q v side) path (proper_next n q v side h)

pub proper : (n : ℕ) (q : Matrix) (path : Path) → IsProper n (cone_at n q path)
proper n q path = proper_from n q unit_vectors path (proper_root n)

-- ---- the list of a vector
pub listed : ℕ → (ℕ → ℕ) → List ℕ
listed zero f = []
listed (suc n) f = f 0 ∷ listed n (λ k. f (suc k))

length_listed : (n : ℕ) (f : ℕ → ℕ) → length (listed n f) ≡ n
unfolding listed
length_listed zero f = refl
length_listed (suc n) f = ap suc (length_listed n (λ k. f (suc k)))

listed_at : (n : ℕ) (f : ℕ → ℕ) (p : ℕ) → p < n → slice_index_or (listed n f) p 0 ≡ f p
unfolding listed
listed_at zero f p l = absurd (omega arith)
listed_at (suc n) f zero l = refl
listed_at (suc n) f (suc p) l = listed_at n (λ k. f (suc k)) p (omega arith)

pub as_vector : (n : ℕ) (v : ℕ → ℤ) → AreNonnegative n v → IsListOf n (listed n (λ p. nat_abs (v p))) v
as_vector n v nonneg = record {
  size = length_listed n _;
  same = λ p lp. ap pos (listed_at n (λ p. nat_abs (v p)) p lp) ∙ same (v p) (nonneg p lp);
}
  where
    same : (z : ℤ) → pos 0 ≤ℤ z → pos (nat_abs z) ≡ z
    same (pos n) h = refl
    same (negsuc n) h = absurd (omega (arith, ints))
