-- Laws of copositive matrices and of the copositive minimum.
use Rattle.std.specs.Prelude.{◌≡◌, ◌≢◌, ℕ, zero, suc, ◌<◌, ℤ, pos, ◌*ℤ◌, ◌≤ℤ◌, ◌⊎◌, List, [], ◌∷◌, length}
use Rattle.std.proofs.Common.{arith, sym, ◌∙◌, ap, refl, inl, inr, subst}
use Rattle.std.proofs.lemmas.Int.{ints}
use Rattle.std.specs.List.{Contains}
use Rattle.commutative_ring.proofs.Laws.{mul_zero_ℤ}
use Rattle.commutative_ring.proofs.SmallCases.{last_or_before, zero_or_not, zero_within}
use Rattle.exact_forms.specs.Forms.{bilinear, form}
use Rattle.exact_forms.specs.Vectors.{coordinate, IsNonzero}
use Rattle.exact_forms.specs.Copositive.{Matrix, IsCopositive, Attains, ListsAttaining, IsMinimum}
use Rattle.exact_forms.proofs.Sums.{sum_to_none}
use Rattle.exact_forms.proofs.Forms.{form_same, form-mul}
use Rattle.exact_forms.proofs.Order.{nonneg_mul, mul_le_left, le_of_mul_le_left, positive_mul, positive_factor, cancel_positive}
use Rattle.exact_forms.proofs.Vectors.{increasing_unique, contains_here}

-- each nonzero vector of n places has a positive value Q[x]
abbrev pub IsStrictlyCopositive : ℕ → Matrix → Type 0
IsStrictlyCopositive n q = (x : List ℕ) → length x ≡ n → IsNonzero n x → pos 1 ≤ℤ form n q (coordinate x)

-- a list of all that attain a value is one list
pub lists_unique : (n : ℕ) (q : Matrix) (m : ℤ) (xs ys : List (List ℕ)) → ListsAttaining n q m xs → ListsAttaining n q m ys → xs ≡ ys
lists_unique n q m xs ys a c = increasing_unique xs ys a.increasing c.increasing (λ x h. c.all x (a.each x h)) (λ x h. a.all x (c.each x h))

some_of : (xs : List (List ℕ)) → xs ≢ [] → (x : List ℕ) × Contains xs x
some_of [] h = absurd (h refl)
some_of (x ∷ xs) h = (x, contains_here x xs)

-- the minimum is attained
pub minimum_attained : (n : ℕ) (q : Matrix) (m : ℤ) (vectors : List (List ℕ)) → IsMinimum n q m vectors → (x : List ℕ) × Attains n q m x
minimum_attained n q m vectors h = let s = some_of vectors h.some in (s.0, h.lists.each s.0 s.1)

-- a matrix has at most one minimum, and at most one list
pub minimum_unique : (n : ℕ) (q : Matrix) (m k : ℤ) (xs ys : List (List ℕ)) → IsMinimum n q m xs → IsMinimum n q k ys → (m ≡ k) × (xs ≡ ys)
minimum_unique n q m k xs ys a c =
    let same : m ≡ k = both (at_most (minimum_attained n q k ys c) a) (at_most (minimum_attained n q m xs a) c) in
    (same, lists_unique n q m xs ys a.lists (subst (λ (z : ℤ). ListsAttaining n q z ys) (sym same) c.lists))
  where
    both : {m k : ℤ} → m ≤ℤ k → k ≤ℤ m → m ≡ k
    both h l = omega (arith, ints)

    at_most : {m k : ℤ} {zs : List (List ℕ)} → ((x : List ℕ) × Attains n q k x) → IsMinimum n q m zs → m ≤ℤ k
    at_most {m} (x, h) minimum = subst (λ (z : ℤ). m ≤ℤ z) h.value (minimum.least x h.size h.nonzero)

-- a matrix with a minimum is strictly copositive
pub minimum_strictly_copositive : (n : ℕ) (q : Matrix) (m : ℤ) (vectors : List (List ℕ)) → IsMinimum n q m vectors → IsStrictlyCopositive n q
minimum_strictly_copositive n q m vectors h x size nonzero = let a = h.least x size nonzero in let b = h.positive in omega (arith, ints)

-- some number is not 0, or each is
pub nonzero_or_zero : (n : ℕ) (x : List ℕ) → IsNonzero n x ⊎ ((p : ℕ) → p < n → coordinate x p ≡ pos 0)
nonzero_or_zero zero x = inr (λ p l. absurd (omega arith))
nonzero_or_zero (suc n) x = by (zero_or_not (coordinate x n)) (nonzero_or_zero n x)
  where
    by : ((coordinate x n ≡ pos 0) ⊎ (coordinate x n ≢ pos 0)) → (IsNonzero n x ⊎ ((p : ℕ) → p < n → coordinate x p ≡ pos 0))
        → IsNonzero (suc n) x ⊎ ((p : ℕ) → p < suc n → coordinate x p ≡ pos 0)
    by (inr ne) rest = inl (n, omega arith, ne)
    by (inl e) (inl (p, l, ne)) = inl (p, omega arith, ne)
    by (inl e) (inr zeros) = inr (λ p l. each p (last_or_before p n l))
      where
        each : (p : ℕ) → ((p ≡ n) ⊎ (p < n)) → coordinate x p ≡ pos 0
        each p (inl s) = ap (coordinate x) s ∙ e
        each p (inr l) = zeros p l

-- the value at the zero vector
pub form_at_zero : (n : ℕ) (q : Matrix) (x : ℕ → ℤ) → ((p : ℕ) → p < n → x p ≡ pos 0) → form n q x ≡ pos 0
unfolding bilinear
form_at_zero n q x h = sum_to_none n _ (λ i li. sum_to_none n _ (λ j lj. ap (λ (z : ℤ). q i j *ℤ (z *ℤ x j)) (h i li) ∙ zero_within (q i j) (x j)))

pub strictly_copositive : (n : ℕ) (q : Matrix) → IsStrictlyCopositive n q → IsCopositive n q
strictly_copositive n q h x size = by (nonzero_or_zero n x)
  where
    by : (IsNonzero n x ⊎ ((p : ℕ) → p < n → coordinate x p ≡ pos 0)) → pos 0 ≤ℤ form n q (coordinate x)
    by (inl nonzero) = let a = h x size nonzero in omega (arith, ints)
    by (inr zeros) = rw (form_at_zero n q (coordinate x) zeros) (omega (arith, ints))

-- ---- the entries below n decide
pub copositive_same : (n : ℕ) (q s : Matrix) → ((i j : ℕ) → i < n → j < n → q i j ≡ s i j) → IsCopositive n q → IsCopositive n s
copositive_same n q s e h x size = subst (λ (z : ℤ). pos 0 ≤ℤ z) (form_same n q s (coordinate x) (coordinate x) e (λ i l. refl)) (h x size)

attains_of : (n : ℕ) (q s : Matrix) (m k : ℤ) → ((x : ℕ → ℤ) → form n q x ≡ m → form n s x ≡ k) → (x : List ℕ) → Attains n q m x → Attains n s k x
attains_of n q s m k e x h = record { size = h.size; nonzero = h.nonzero; value = e (coordinate x) h.value }

-- a minimum, where the values go over into values in the same order
minimum_of : (n : ℕ) (q s : Matrix) (m k : ℤ) (vectors : List (List ℕ)) → pos 1 ≤ℤ k
    → ((x : ℕ → ℤ) → form n q x ≡ m → form n s x ≡ k) → ((x : ℕ → ℤ) → form n s x ≡ k → form n q x ≡ m) → ((x : ℕ → ℤ) → m ≤ℤ form n q x → k ≤ℤ form n s x)
    → IsMinimum n q m vectors → IsMinimum n s k vectors
minimum_of n q s m k vectors positive there back over h = record {
  positive = positive;
  least = λ x size nonzero. over (coordinate x) (h.least x size nonzero);
  some = h.some;
  lists = record {
    each = λ x c. attains_of n q s m k there x (h.lists.each x c);
    all = λ x a. h.lists.all x (attains_of n s q k m back x a);
    increasing = h.lists.increasing;
  };
}

pub minimum_same : (n : ℕ) (q s : Matrix) (m : ℤ) (vectors : List (List ℕ)) → ((i j : ℕ) → i < n → j < n → q i j ≡ s i j) → IsMinimum n q m vectors
    → IsMinimum n s m vectors
minimum_same n q s m vectors e h =
    minimum_of n q s m m vectors h.positive (λ x v. sym (same x) ∙ v) (λ x v. same x ∙ v) (λ x l. subst (λ (z : ℤ). m ≤ℤ z) (same x) l) h
  where
    same : (x : ℕ → ℤ) → form n q x ≡ form n s x
    same x = form_same n q s x x e (λ i l. refl)

-- ---- multiples
pub copositive_times : (n : ℕ) (c : ℤ) (q : Matrix) → pos 0 ≤ℤ c → IsCopositive n q → IsCopositive n (λ i j. c *ℤ q i j)
copositive_times n c q hc h x size = subst (λ (z : ℤ). pos 0 ≤ℤ z) (sym (form-mul n c q (coordinate x))) (nonneg_mul c (form n q (coordinate x)) hc (h x size))

pub copositive_divided : (n : ℕ) (c : ℤ) (q : Matrix) → pos 1 ≤ℤ c → IsCopositive n (λ i j. c *ℤ q i j) → IsCopositive n q
copositive_divided n c q hc h x size =
    le_of_mul_le_left c (pos 0) (form n q (coordinate x)) hc
    (subst (λ (z : ℤ). z ≤ℤ (c *ℤ form n q (coordinate x))) (sym (mul_zero_ℤ c)) (subst (λ (z : ℤ). pos 0 ≤ℤ z) (form-mul n c q (coordinate x)) (h x size)))

-- c times the matrix has c times the minimum, at the same vectors
pub minimum_times : (n : ℕ) (c : ℤ) (q : Matrix) (m : ℤ) (vectors : List (List ℕ)) → pos 1 ≤ℤ c → IsMinimum n q m vectors
    → IsMinimum n (λ i j. c *ℤ q i j) (c *ℤ m) vectors
minimum_times n c q m vectors hc h =
    minimum_of n q (λ i j. c *ℤ q i j) m (c *ℤ m) vectors (positive_mul c m hc h.positive)
    (λ x v. form-mul n c q x ∙ ap (λ (z : ℤ). c *ℤ z) v)
    (λ x v. cancel_positive c (form n q x) m hc (sym (form-mul n c q x) ∙ v))
    (λ x l. subst (λ (z : ℤ). (c *ℤ m) ≤ℤ z) (sym (form-mul n c q x)) (mul_le_left c m (form n q x) (omega (arith, ints)) l))
    h

pub minimum_divided : (n : ℕ) (c : ℤ) (q : Matrix) (m : ℤ) (vectors : List (List ℕ)) → pos 1 ≤ℤ c → IsMinimum n (λ i j. c *ℤ q i j) (c *ℤ m) vectors
    → IsMinimum n q m vectors
minimum_divided n c q m vectors hc h =
    minimum_of n (λ i j. c *ℤ q i j) q (c *ℤ m) m vectors (positive_factor c m hc h.positive)
    (λ x v. cancel_positive c (form n q x) m hc (sym (form-mul n c q x) ∙ v))
    (λ x v. form-mul n c q x ∙ ap (λ (z : ℤ). c *ℤ z) v)
    (λ x l. le_of_mul_le_left c m (form n q x) hc (subst (λ (z : ℤ). (c *ℤ m) ≤ℤ z) (form-mul n c q x) l))
    h
