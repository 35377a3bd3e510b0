-- Laws of coordinates.
use Rattle.std.specs.Prelude.{◌≡◌, ◌≢◌, ℕ, ◌<◌, pos, negsuc, Bool, true, false, ◌⊎◌, [], ◌∷◌}
use Rattle.std.proofs.Common.{sym, ◌∙◌, ap, ap₂, refl, subst, inl, inr}
use Rattle.exact_forms.proofs.RationalSums.{sum_ℚ_same, sum_ℚ_none, sum_ℚ-add, mul-sum_ℚ, sum_ℚ_swap, sum_ℚ_one}
use Rattle.commutative_ring.proofs.Ring.{num, ◌⊕◌, ◌⊗◌, neg, v0, v1, v2, v3}
use Rattle.commutative_ring.proofs.SmallCases.{same_or_not}
use Rattle.exact_forms.specs.Slacks.{replaced}
use Rattle.exact_forms.specs.Rational.{Rational, whole, inverse, neg_ℚ, ◌+ℚ◌, ◌*ℚ◌, ◌/ℚ◌}
use Rattle.exact_forms.specs.Sums.{sum_ℚ}
use Rattle.exact_forms.proofs.Rational.{ring_ℚ, same_by_difference, div-mul, mul-inverse, one_mul_ℚ, zero_mul_ℚ}
use Rattle.exact_forms.proofs.Slacks.{replaced_here, replaced_other}
use Rattle.exact_forms.specs.Coordinates.{Columns, IsCoordinates, IsIndependent, IsBasis, mark, swapped, exchanged_coordinates}

pub mul_zero_ℚ : (x : Rational) → x *ℚ whole (pos 0) ≡ whole (pos 0)
mul_zero_ℚ x = ring_ℚ (x ∷ []) (v0 ⊗ num (pos 0)) (num (pos 0)) refl

-- where f takes out one term
pub sum_marked : (n : ℕ) (f : ℕ → Rational) (i : ℕ) → i < n → sum_ℚ n (λ k. mark i k *ℚ f k) ≡ f i
sum_marked n f i l =
    sum_ℚ_one n (λ k. mark i k *ℚ f k) i l (λ k m ne. ap (λ w. w *ℚ f k) (replaced_other (λ k. whole (pos 0)) i (whole (pos 1)) k ne) ∙ zero_mul_ℚ (f k))
    ∙ ap (λ w. w *ℚ f i) (replaced_here (λ k. whole (pos 0)) i (whole (pos 1)) i refl)
    ∙ one_mul_ℚ (f i)

-- x = y·z where y is not 0
pub no_zero_product : (x y : Rational) → y ≢ whole (pos 0) → x *ℚ y ≡ whole (pos 0) → x ≡ whole (pos 0)
no_zero_product x y ne e =
    sym (one_mul_ℚ x)
    ∙ ap (λ w. w *ℚ x) (sym (mul-inverse y ne))
    ∙ ring_ℚ (y ∷ inverse y.num y.den ∷ x ∷ []) (v0 ⊗ v1 ⊗ v2) (v2 ⊗ v0 ⊗ v1) refl
    ∙ ap (λ w. w *ℚ inverse y.num y.den) e
    ∙ zero_mul_ℚ (inverse y.num y.den)

module _ (A : Columns) where
  sum_linear : (c d : ℕ → Rational) (s : Rational) (a b : ℕ)
      → sum_ℚ A.count (λ k. (c k +ℚ s *ℚ d k) *ℚ A.entry k a b)
      ≡ sum_ℚ A.count (λ k. c k *ℚ A.entry k a b) +ℚ s *ℚ sum_ℚ A.count (λ k. d k *ℚ A.entry k a b)
  sum_linear c d s a b =
      sum_ℚ_same A.count _ _ (λ k m. ring_ℚ (c k ∷ d k ∷ s ∷ A.entry k a b ∷ []) ((v0 ⊕ v2 ⊗ v1) ⊗ v3) (v0 ⊗ v3 ⊕ v2 ⊗ (v1 ⊗ v3)) refl)
      ∙ sum_ℚ-add A.count (λ k. c k *ℚ A.entry k a b) (λ k. s *ℚ (d k *ℚ A.entry k a b))
      ∙ ap (λ w. sum_ℚ A.count (λ k. c k *ℚ A.entry k a b) +ℚ w) (sym (mul-sum_ℚ s A.count (λ k. d k *ℚ A.entry k a b)))

  -- c + s·d writes x + s·y
  pub coordinates_add : (B : ℕ → Bool) (c d : ℕ → Rational) (x y : ℕ → ℕ → Rational) (s : Rational) → IsCoordinates A B c x → IsCoordinates A B d y
      → IsCoordinates A B (λ k. c k +ℚ s *ℚ d k) (λ a b. x a b +ℚ s *ℚ y a b)
  coordinates_add B c d x y s hc hd = record {
    outside = λ k l b. ap₂ (λ v w. v +ℚ s *ℚ w) (hc.outside k l b) (hd.outside k l b) ∙ ring_ℚ (s ∷ []) (num (pos 0) ⊕ v0 ⊗ num (pos 0)) (num (pos 0)) refl;
    sum = λ a b la lb.
        sum_linear c d s a b ∙ ap₂ (λ v w. v +ℚ s *ℚ w) (hc.sum a b la lb) (hd.sum a b la lb);
  }

  -- a combination of vectors has the combination of their coordinates
  pub coordinates_total : (B : ℕ → Bool) (m : ℕ) (g : ℕ → Rational) (c : ℕ → ℕ → Rational) (x : ℕ → ℕ → ℕ → Rational)
      → ((j : ℕ) → j < m → IsCoordinates A B (c j) (x j))
      → IsCoordinates A B (λ k. sum_ℚ m (λ j. g j *ℚ c j k)) (λ a b. sum_ℚ m (λ j. g j *ℚ x j a b))
  coordinates_total B m g c x h = record {
    outside = λ k l b. sum_ℚ_none m _ (λ j lj. ap (λ w. g j *ℚ w) ((h j lj).outside k l b) ∙ mul_zero_ℚ (g j));
    sum = λ a b la lb.
        sum_ℚ_same A.count _ _ (λ k m'. out k a b)
        ∙ sum_ℚ_swap A.count m (λ k j. g j *ℚ (c j k *ℚ A.entry k a b))
        ∙ sum_ℚ_same m _ _ (λ j lj. sym (mul-sum_ℚ (g j) A.count (λ k. c j k *ℚ A.entry k a b)) ∙ ap (λ w. g j *ℚ w) ((h j lj).sum a b la lb));
  }
    where
      out : (k a b : ℕ) → sum_ℚ m (λ j. g j *ℚ c j k) *ℚ A.entry k a b ≡ sum_ℚ m (λ j. g j *ℚ (c j k *ℚ A.entry k a b))
      out k a b =
          ring_ℚ (sum_ℚ m (λ j. g j *ℚ c j k) ∷ A.entry k a b ∷ []) (v0 ⊗ v1) (v1 ⊗ v0) refl
          ∙ mul-sum_ℚ (A.entry k a b) m (λ j. g j *ℚ c j k)
          ∙ sum_ℚ_same m _ _ (λ j lj. ring_ℚ (A.entry k a b ∷ g j ∷ c j k ∷ []) (v0 ⊗ (v1 ⊗ v2)) (v1 ⊗ (v2 ⊗ v0)) refl)

  pub coordinates_same : (B : ℕ → Bool) (c : ℕ → Rational) (x y : ℕ → ℕ → Rational) → ((a b : ℕ) → a < A.size → b < A.size → x a b ≡ y a b)
      → IsCoordinates A B c x → IsCoordinates A B c y
  coordinates_same B c x y e h = record { outside = h.outside; sum = λ a b la lb. h.sum a b la lb ∙ e a b la lb }

  -- coordinates are unique
  pub coordinates_unique : (B : ℕ → Bool) (c d : ℕ → Rational) (x y : ℕ → ℕ → Rational) → IsIndependent A B → IsCoordinates A B c x → IsCoordinates A B d y
      → ((a b : ℕ) → a < A.size → b < A.size → x a b ≡ y a b) → (k : ℕ) → k < A.count → c k ≡ d k
  coordinates_unique B c d x y free hc hd same k l =
      same_by_difference (c k) (d k) (free.only_zero (λ k. c k +ℚ whole (negsuc 0) *ℚ d k)
      (coordinates_same B _ _ _ (λ a b la lb. ap (λ w. w +ℚ whole (negsuc 0) *ℚ y a b) (same a b la lb)
      ∙ ring_ℚ (y a b ∷ []) (v0 ⊕ num (negsuc 0) ⊗ v0) (num (pos 0)) refl)
      (coordinates_add B c d x y (whole (negsuc 0)) hc hd)) k l)

  -- a column of the basis has the coordinate 1 at itself
  pub coordinates_mark : (B : ℕ → Bool) (e : ℕ) → e < A.count → B e ≡ true → IsCoordinates A B (mark e) (A.entry e)
  coordinates_mark B e le be = record {
    outside = λ k l b. replaced_other (λ k. whole (pos 0)) e (whole (pos 1)) k (λ (s : k ≡ e). absurd (let t : B k ≡ true = ap B s ∙ be in cc));
    sum = λ a b la lb. sum_marked A.count (λ k. A.entry k a b) e le;
  }

  pub basis_mark : (B : ℕ → Bool) (coord : ℕ → ℕ → Rational) → IsBasis A B coord → (e : ℕ) → e < A.count → B e ≡ true → (k : ℕ) → k < A.count
      → coord e k ≡ mark e k
  basis_mark B coord h e le be k lk =
      coordinates_unique B (coord e) (mark e) (A.entry e) (A.entry e) h.independent (h.written e le) (coordinates_mark B e le be) (λ a b la lb. refl) k lk

  -- the coordinates of what the columns write with weights g
  pub read_off : (B : ℕ → Bool) (coord : ℕ → ℕ → Rational) (g c : ℕ → Rational) (x : ℕ → ℕ → Rational) → IsBasis A B coord → IsCoordinates A B c x
      → ((a b : ℕ) → a < A.size → b < A.size → sum_ℚ A.count (λ j. g j *ℚ A.entry j a b) ≡ x a b) → (k : ℕ) → k < A.count
      → c k ≡ sum_ℚ A.count (λ j. g j *ℚ coord j k)
  read_off B coord g c x h hc same k l =
      coordinates_unique B c _ x _ h.independent hc (coordinates_total B A.count g coord A.entry h.written) (λ a b la lb. sym (same a b la lb)) k l

  -- ---- e takes the place of l
  abbrev lost : (ℕ → ℕ → Rational) → ℕ → ℕ → Rational
  lost coord e k = mark e k +ℚ neg_ℚ (coord e k)

  -- off the new basis
  off_swapped : (B : ℕ → Bool) (l e k : ℕ) → k ≢ l → swapped B l e k ≡ false → (k ≢ e) × (B k ≡ false)
  off_swapped B l e k nl off = by (same_or_not k e)
    where
      by : ((k ≡ e) ⊎ (k ≢ e)) → (k ≢ e) × (B k ≡ false)
      by (inl s) = absurd (let t = replaced_here (replaced B l false) e true k s in cc)
      by (inr n) = (n, sym (replaced_other B l false k nl) ∙ sym (replaced_other (replaced B l false) e true k n) ∙ off)

  pub mark_off : (e k : ℕ) → k ≢ e → mark e k ≡ whole (pos 0)
  mark_off e k ne = replaced_other (λ k. whole (pos 0)) e (whole (pos 1)) k ne

  lost_off : (coord : ℕ → ℕ → Rational) (e k : ℕ) → k ≢ e → coord e k ≡ whole (pos 0) → lost coord e k ≡ whole (pos 0)
  lost_off coord e k ne z = ap₂ (λ v w. v +ℚ neg_ℚ w) (mark_off e k ne) z ∙ ring_ℚ [] (num (pos 0) ⊕ neg (num (pos 0))) (num (pos 0)) refl

  -- e less what writes it is nothing
  lost_sum : (B : ℕ → Bool) (coord : ℕ → ℕ → Rational) (e : ℕ) → e < A.count → IsBasis A B coord → (a b : ℕ) → a < A.size → b < A.size
      → sum_ℚ A.count (λ k. lost coord e k *ℚ A.entry k a b) ≡ whole (pos 0)
  lost_sum B coord e le h a b la lb =
      sum_ℚ_same A.count _ _ (λ k m. ring_ℚ (mark e k ∷ coord e k ∷ A.entry k a b ∷ []) ((v0 ⊕ neg v1) ⊗ v2) (v0 ⊗ v2 ⊕ num (negsuc 0) ⊗ (v1 ⊗ v2)) refl)
      ∙ sum_ℚ-add A.count (λ k. mark e k *ℚ A.entry k a b) (λ k. whole (negsuc 0) *ℚ (coord e k *ℚ A.entry k a b))
      ∙ ap₂ (λ v w. v +ℚ w) (sum_marked A.count (λ k. A.entry k a b) e le) (sym (mul-sum_ℚ (whole (negsuc 0)) A.count (λ k. coord e k *ℚ A.entry k a b))
      ∙ ap (λ w. whole (negsuc 0) *ℚ w) ((h.written e le).sum a b la lb))
      ∙ ring_ℚ (A.entry e a b ∷ []) (v0 ⊕ num (negsuc 0) ⊗ v0) (num (pos 0)) refl

  with_lost : (B : ℕ → Bool) (coord : ℕ → ℕ → Rational) (e : ℕ) (c : ℕ → Rational) (x : ℕ → ℕ → Rational) (s : Rational) → e < A.count → IsBasis A B coord
      → ((a b : ℕ) → a < A.size → b < A.size → sum_ℚ A.count (λ k. c k *ℚ A.entry k a b) ≡ x a b) → (a b : ℕ) → a < A.size → b < A.size
      → sum_ℚ A.count (λ k. (c k +ℚ s *ℚ lost coord e k) *ℚ A.entry k a b) ≡ x a b
  with_lost B coord e c x s le h hc a b la lb =
      sum_linear c (lost coord e) s a b ∙ ap₂ (λ v w. v +ℚ s *ℚ w) (hc a b la lb) (lost_sum B coord e le h a b la lb)
      ∙ ring_ℚ (x a b ∷ s ∷ []) (v0 ⊕ v1 ⊗ num (pos 0)) v0 refl

  pub exchange_written : (B : ℕ → Bool) (coord : ℕ → ℕ → Rational) (l e : ℕ) → e < A.count → l ≢ e → coord e l ≢ whole (pos 0) → IsBasis A B coord
      → (j : ℕ) → j < A.count → IsCoordinates A (swapped B l e) (exchanged_coordinates coord l e j) (A.entry j)
  exchange_written B coord l e le nle ne h j lj = record {
    outside = λ k lk off. by k lk off (same_or_not k l);
    sum = with_lost B coord e (coord j) (A.entry j) (coord j l /ℚ coord e l) le h (h.written j lj).sum;
  }
    where
      at_l : coord j l +ℚ (coord j l /ℚ coord e l) *ℚ lost coord e l ≡ whole (pos 0)
      at_l =
          ap (λ w. coord j l +ℚ (coord j l /ℚ coord e l) *ℚ (w +ℚ neg_ℚ (coord e l))) (mark_off e l nle)
          ∙ ring_ℚ (coord j l ∷ (coord j l /ℚ coord e l) ∷ coord e l ∷ []) (v0 ⊕ v1 ⊗ (num (pos 0) ⊕ neg v2)) (v0 ⊕ neg (v1 ⊗ v2)) refl
          ∙ ap (λ w. coord j l +ℚ neg_ℚ w) (div-mul (coord j l) (coord e l) ne)
          ∙ ring_ℚ (coord j l ∷ []) (v0 ⊕ neg v0) (num (pos 0)) refl

      by : (k : ℕ) → k < A.count → swapped B l e k ≡ false → ((k ≡ l) ⊎ (k ≢ l)) → exchanged_coordinates coord l e j k ≡ whole (pos 0)
      by k lk off (inl s) = subst (λ (k : ℕ). coord j k +ℚ (coord j l /ℚ coord e l) *ℚ lost coord e k ≡ whole (pos 0)) (sym s) at_l
      by k lk off (inr n) =
          let both = off_swapped B l e k n off in
          ap₂ (λ v w. v +ℚ (coord j l /ℚ coord e l) *ℚ w) ((h.written j lj).outside k lk both.1)
          (lost_off coord e k both.0 ((h.written e le).outside k lk both.1))
          ∙ ring_ℚ ((coord j l /ℚ coord e l) ∷ []) (num (pos 0) ⊕ v0 ⊗ num (pos 0)) (num (pos 0)) refl

  pub exchange_free : (B : ℕ → Bool) (coord : ℕ → ℕ → Rational) (l e : ℕ) → l < A.count → e < A.count → l ≢ e → B e ≡ false → coord e l ≢ whole (pos 0)
      → IsBasis A B coord → IsIndependent A (swapped B l e)
  exchange_free B coord l e ll le nle be ne h = record { only_zero = λ c hc k lk. finish c hc k lk }
    where
      d : (ℕ → Rational) → ℕ → Rational
      d c k = c k +ℚ neg_ℚ (c e) *ℚ lost coord e k

      swapped_l : swapped B l e l ≡ false
      swapped_l = replaced_other (replaced B l false) e true l nle ∙ replaced_here B l false l refl

      d_outside : (c : ℕ → Rational) → IsCoordinates A (swapped B l e) c (λ a b. whole (pos 0)) → (k : ℕ) → k < A.count → B k ≡ false → ((k ≡ e) ⊎ (k ≢ e))
          → c k +ℚ neg_ℚ (c e) *ℚ lost coord e k ≡ whole (pos 0)
      d_outside c hc k lk b (inl s) =
          ap₂ (λ v w. v +ℚ neg_ℚ (c e) *ℚ w) (ap c s)
          (ap₂ (λ v w. v +ℚ neg_ℚ w) (replaced_here (λ k. whole (pos 0)) e (whole (pos 1)) k s) ((h.written e le).outside k lk b))
          ∙ ring_ℚ (c e ∷ []) (v0 ⊕ neg v0 ⊗ (num (pos 1) ⊕ neg (num (pos 0)))) (num (pos 0)) refl
      d_outside c hc k lk b (inr n) =
          ap₂ (λ v w. v +ℚ neg_ℚ (c e) *ℚ w) (hc.outside k lk (replaced_other (replaced B l false) e true k n ∙ off (same_or_not k l)))
          (lost_off coord e k n ((h.written e le).outside k lk b))
          ∙ ring_ℚ (c e ∷ []) (num (pos 0) ⊕ neg v0 ⊗ num (pos 0)) (num (pos 0)) refl
        where
          off : ((k ≡ l) ⊎ (k ≢ l)) → replaced B l false k ≡ false
          off (inl s) = replaced_here B l false k s
          off (inr m) = replaced_other B l false k m ∙ b

      d_zero : (c : ℕ → Rational) → IsCoordinates A (swapped B l e) c (λ a b. whole (pos 0)) → (k : ℕ) → k < A.count
          → c k +ℚ neg_ℚ (c e) *ℚ lost coord e k ≡ whole (pos 0)
      d_zero c hc k lk = h.independent.only_zero (λ k. c k +ℚ neg_ℚ (c e) *ℚ lost coord e k) record {
        outside = λ k lk b. d_outside c hc k lk b (same_or_not k e);
        sum = with_lost B coord e c (λ a b. whole (pos 0)) (neg_ℚ (c e)) le h hc.sum;
      } k lk

      e_zero : (c : ℕ → Rational) → IsCoordinates A (swapped B l e) c (λ a b. whole (pos 0)) → c e ≡ whole (pos 0)
      e_zero c hc = no_zero_product (c e) (coord e l) ne
          (ring_ℚ (c e ∷ coord e l ∷ []) (v0 ⊗ v1) (num (pos 0) ⊕ neg v0 ⊗ (num (pos 0) ⊕ neg v1)) refl
          ∙ ap₂ (λ v w. v +ℚ neg_ℚ (c e) *ℚ (w +ℚ neg_ℚ (coord e l))) (sym (hc.outside l ll swapped_l)) (sym (mark_off e l nle))
          ∙ d_zero c hc l ll)

      finish : (c : ℕ → Rational) → IsCoordinates A (swapped B l e) c (λ a b. whole (pos 0)) → (k : ℕ) → k < A.count → c k ≡ whole (pos 0)
      finish c hc k lk =
          ring_ℚ (c k ∷ lost coord e k ∷ []) v0 (v0 ⊕ neg (num (pos 0)) ⊗ v1) refl
          ∙ ap (λ w. c k +ℚ neg_ℚ w *ℚ lost coord e k) (sym (e_zero c hc))
          ∙ d_zero c hc k lk

  -- an exchange keeps the basis
  pub exchange_keeps : (B : ℕ → Bool) (coord : ℕ → ℕ → Rational) (l e : ℕ) → l < A.count → e < A.count → B l ≡ true → B e ≡ false → coord e l ≢ whole (pos 0)
      → IsBasis A B coord → IsBasis A (swapped B l e) (exchanged_coordinates coord l e)
  exchange_keeps B coord l e ll le bl be ne h =
      let nle : l ≢ e = λ (s : l ≡ e). absurd (let t : B l ≡ false = ap B s ∙ be in cc) in
      record { independent = exchange_free B coord l e ll le nle be ne h; written = exchange_written B coord l e le nle ne h }
