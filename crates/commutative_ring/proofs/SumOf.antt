-- Laws of finite sums in a commutative ring.
use Rattle.std.specs.Prelude.{◌≡◌, ◌≢◌, ℕ, zero, suc, ◌+◌, ◌<◌, pos, negsuc, ◌⊎◌, [], ◌∷◌}
use Rattle.std.proofs.Common.{arith, sym, ◌∙◌, ap, ap₂, refl, inl, inr}
use Rattle.commutative_ring.specs.SumOf.{sum_of}
use Rattle.commutative_ring.proofs.Ring.{CommutativeRing, ring_in, num, ◌⊕◌, ◌⊗◌, v0, v1, v2, v3}
use Rattle.commutative_ring.proofs.SmallCases.{last_or_before}

module _ {A : Type 0} (R : CommutativeRing A) where
  abbrev pub total : ℕ → (ℕ → A) → A
  total n f = sum_of (R.of_int (pos 0)) R.add n f

  pub total-zero : (f : ℕ → A) → total 0 f ≡ R.of_int (pos 0)
  unfolding sum_of
  total-zero f = refl

  pub total-suc : (n : ℕ) (f : ℕ → A) → total (suc n) f ≡ R.add (total n f) (f n)
  unfolding sum_of
  total-suc n f = refl

  pub total_same : (n : ℕ) (f g : ℕ → A) → ((k : ℕ) → k < n → f k ≡ g k) → total n f ≡ total n g
  total_same zero f g h = total-zero f ∙ sym (total-zero g)
  total_same (suc n) f g h =
      total-suc n f
      ∙ ap₂ R.add (total_same n f g (λ k l. h k (omega arith))) (h n (omega arith))
      ∙ sym (total-suc n g)

  pub total_none : (n : ℕ) (f : ℕ → A) → ((k : ℕ) → k < n → f k ≡ R.of_int (pos 0)) → total n f ≡ R.of_int (pos 0)
  total_none zero f h = total-zero f
  total_none (suc n) f h = total-suc n f ∙ ap₂ R.add (total_none n f (λ k l. h k (omega arith))) (h n (omega arith)) ∙ R.zero_add (R.of_int (pos 0))

  pub total-add : (n : ℕ) (f g : ℕ → A) → total n (λ k. R.add (f k) (g k)) ≡ R.add (total n f) (total n g)
  total-add zero f g = total-zero _ ∙ sym (ap₂ R.add (total-zero f) (total-zero g) ∙ R.zero_add (R.of_int (pos 0)))
  total-add (suc n) f g =
      total-suc n (λ k. R.add (f k) (g k))
      ∙ ap (λ w. R.add w (R.add (f n) (g n))) (total-add n f g)
      ∙ ring_in R (total n f ∷ total n g ∷ f n ∷ g n ∷ []) ((v0 ⊕ v1) ⊕ (v2 ⊕ v3)) ((v0 ⊕ v2) ⊕ (v1 ⊕ v3)) refl
      ∙ sym (ap₂ R.add (total-suc n f) (total-suc n g))

  pub mul-total : (c : A) (n : ℕ) (f : ℕ → A) → R.mul c (total n f) ≡ total n (λ k. R.mul c (f k))
  mul-total c zero f = ap (λ w. R.mul c w) (total-zero f) ∙ ring_in R (c ∷ []) (v0 ⊗ num (pos 0)) (num (pos 0)) refl ∙ sym (total-zero _)
  mul-total c (suc n) f =
      ap (λ w. R.mul c w) (total-suc n f)
      ∙ ring_in R (c ∷ total n f ∷ f n ∷ []) (v0 ⊗ (v1 ⊕ v2)) (v0 ⊗ v1 ⊕ v0 ⊗ v2) refl
      ∙ ap (λ w. R.add w (R.mul c (f n))) (mul-total c n f)
      ∙ sym (total-suc n (λ k. R.mul c (f k)))

  pub total_swap : (m n : ℕ) (f : ℕ → ℕ → A) → total m (λ i. total n (λ j. f i j)) ≡ total n (λ j. total m (λ i. f i j))
  total_swap zero n f = total-zero _ ∙ sym (total_none n _ (λ k l. total-zero _))
  total_swap (suc m) n f =
      total-suc m _
      ∙ ap (λ w. R.add w (total n (λ j. f m j))) (total_swap m n f)
      ∙ sym (total-add n (λ j. total m (λ i. f i j)) (λ j. f m j))
      ∙ total_same n _ _ (λ k l. sym (total-suc m (λ i. f i k)))

  -- two sums that differ in one term
  pub total_but_one : (n : ℕ) (f g : ℕ → A) (i : ℕ) → i < n → ((k : ℕ) → k < n → k ≢ i → f k ≡ g k) → R.add (total n f) (g i) ≡ R.add (total n g) (f i)
  total_but_one zero f g i l h = absurd (omega arith)
  total_but_one (suc n) f g i l h =
      by (last_or_before i n l) (λ b. total_but_one n f g i b (λ k m ne. h k (omega arith) ne))
    where
      by : ((i ≡ n) ⊎ (i < n)) → (i < n → R.add (total n f) (g i) ≡ R.add (total n g) (f i)) → R.add (total (suc n) f) (g i) ≡ R.add (total (suc n) g) (f i)
      by (inl e) step =
          ap₂ (λ x y. R.add x y) (total-suc n f ∙ ap (λ k. R.add (total n f) (f k)) (sym e)) refl
          ∙ ap (λ w. R.add (R.add w (f i)) (g i)) (total_same n f g (λ k m. h k (omega arith) (omega arith)))
          ∙ ring_in R (total n g ∷ f i ∷ g i ∷ []) (v0 ⊕ v1 ⊕ v2) (v0 ⊕ v2 ⊕ v1) refl
          ∙ sym (ap (λ w. R.add w (f i)) (total-suc n g ∙ ap (λ k. R.add (total n g) (g k)) (sym e)))
      by (inr b) step =
          ap (λ w. R.add w (g i)) (total-suc n f)
          ∙ ring_in R (total n f ∷ f n ∷ g i ∷ []) (v0 ⊕ v1 ⊕ v2) ((v0 ⊕ v2) ⊕ v1) refl
          ∙ ap₂ R.add (step b) (h n (omega arith) (omega arith))
          ∙ ring_in R (total n g ∷ f i ∷ g n ∷ []) ((v0 ⊕ v1) ⊕ v2) (v0 ⊕ v2 ⊕ v1) refl
          ∙ sym (ap (λ w. R.add w (f i)) (total-suc n g))

  -- a sum of one term
  pub total_one : (n : ℕ) (f : ℕ → A) (i : ℕ) → i < n → ((k : ℕ) → k < n → k ≢ i → f k ≡ R.of_int (pos 0)) → total n f ≡ f i
  total_one n f i l h =
      ring_in R (total n f ∷ []) v0 (v0 ⊕ num (pos 0)) refl
      ∙ total_but_one n f (λ k. R.of_int (pos 0)) i l h
      ∙ ap (λ w. R.add w (f i)) (total_none n (λ k. R.of_int (pos 0)) (λ k m. refl))
      ∙ ring_in R (f i ∷ []) (num (pos 0) ⊕ v0) v0 refl

  -- the step of a loop
  pub total_more : (n : ℕ) (f : ℕ → A) → total (n + 1) f ≡ R.add (total n f) (f n)
  total_more n f = let e : n + 1 ≡ suc n = omega arith in ap (λ (k : ℕ). total k f) e ∙ total-suc n f

  -- the first term apart
  pub total_head : (n : ℕ) (f : ℕ → A) → total (suc n) f ≡ R.add (f 0) (total n (λ k. f (suc k)))
  total_head zero f = total-suc 0 f ∙ R.add_comm (total 0 f) (f 0) ∙ ap (λ w. R.add (f 0) w) (total-zero f ∙ sym (total-zero (λ k. f (suc k))))
  total_head (suc n) f =
      total-suc (suc n) f
      ∙ ap (λ w. R.add w (f (suc n))) (total_head n f)
      ∙ R.add_assoc (f 0) (total n (λ k. f (suc k))) (f (suc n))
      ∙ ap (λ w. R.add (f 0) w) (sym (total-suc n (λ k. f (suc k))))

  pub total-mul : (c : A) (n : ℕ) (f : ℕ → A) → R.mul (total n f) c ≡ total n (λ k. R.mul (f k) c)
  total-mul c n f = R.mul_comm (total n f) c ∙ mul-total c n f ∙ total_same n _ _ (λ k l. R.mul_comm c (f k))

  pub total-neg : (n : ℕ) (f : ℕ → A) → total n (λ k. R.neg (f k)) ≡ R.neg (total n f)
  total-neg n f = total_same n _ _ (λ k l. R.neg_is_mul (f k)) ∙ sym (mul-total (R.of_int (negsuc 0)) n f) ∙ sym (R.neg_is_mul (total n f))

  pub total_product : (m n : ℕ) (f g : ℕ → A) → R.mul (total m f) (total n g) ≡ total m (λ i. total n (λ j. R.mul (f i) (g j)))
  total_product m n f g = total-mul (total n g) m f ∙ total_same m _ _ (λ i l. mul-total (f i) n g)

  -- ---- double sums
  pub totals_same : (m n : ℕ) (f g : ℕ → ℕ → A) → ((i j : ℕ) → i < m → j < n → f i j ≡ g i j)
      → total m (λ i. total n (λ j. f i j)) ≡ total m (λ i. total n (λ j. g i j))
  totals_same m n f g h = total_same m _ _ (λ i li. total_same n _ _ (λ j lj. h i j li lj))

  pub totals-add : (m n : ℕ) (f g : ℕ → ℕ → A)
      → total m (λ i. total n (λ j. R.add (f i j) (g i j))) ≡ R.add (total m (λ i. total n (λ j. f i j))) (total m (λ i. total n (λ j. g i j)))
  totals-add m n f g =
      total_same m _ _ (λ i l. total-add n (λ j. f i j) (λ j. g i j))
      ∙ total-add m (λ i. total n (λ j. f i j)) (λ i. total n (λ j. g i j))

  pub mul-totals : (c : A) (m n : ℕ) (f : ℕ → ℕ → A) → R.mul c (total m (λ i. total n (λ j. f i j))) ≡ total m (λ i. total n (λ j. R.mul c (f i j)))
  mul-totals c m n f = mul-total c m _ ∙ total_same m _ _ (λ i l. mul-total c n (λ j. f i j))
