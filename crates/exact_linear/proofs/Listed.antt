-- Lists of the places that pass a test, and sums over listed columns.
use Rattle.std.specs.Prelude.{◌≡◌, ◌≢◌, ℕ, zero, suc, ◌+◌, ◌<◌, ◌≤◌, ◌⊎◌, pos, Bool, true, false, ◌||◌, nat_eq, List, [], ◌∷◌, length, slice_index_or, Option}
use Rattle.std.specs.Prelude.{Some, None, if◌then◌else◌}
use Rattle.std.proofs.Common.{arith, sym, ◌∙◌, ap, refl, inl, inr}
use Rattle.commutative_ring.proofs.SmallCases.{here_or_after, same_of_test, test_of_same}
use Rattle.exact_forms.specs.Rational.{Rational, whole, ◌*ℚ◌}
use Rattle.exact_forms.specs.Sums.{sum_ℚ}
use Rattle.exact_forms.specs.Coordinates.{mark}
use Rattle.exact_forms.proofs.Rational.{zero_mul_ℚ, one_mul_ℚ}
use Rattle.exact_forms.proofs.RationalSums.{sum_ℚ_same, sum_ℚ_none, sum_ℚ_swap, sum_ℚ_one}
use Rattle.exact_forms.proofs.Slacks.{replaced_here, replaced_other}
use Rattle.exact_forms.proofs.Coordinates.{mul_zero_ℚ, sum_marked}
use Rattle.exact_linear.specs.Tables.{Table, rows_of, basic_at, first_place, places_where, is_there, holds, row_of, is_basic, contains}
use Rattle.exact_linear.proofs.Places.{first_found, first_none}

-- ---- the places that pass a test
pub record IsPassing (test : ℕ → Bool) (i n c : ℕ) : Type 0 where
  pub passes : test c ≡ true
  pub from : i ≤ c
  pub below : c < i + n

pub places_pass : (test : ℕ → Bool) (i n k : ℕ) → k < length (places_where test i n) → IsPassing test i n (slice_index_or (places_where test i n) k 0)
unfolding places_where
places_pass test i zero k l = absurd (omega arith)
places_pass test i (suc n) k l = by (test i) refl k (λ k l. places_pass test (i + 1) n k l) l
  where
    by : (b : Bool) → test i ≡ b → (k : ℕ)
        → ((k : ℕ) → k < length (places_where test (i + 1) n) → IsPassing test (i + 1) n (slice_index_or (places_where test (i + 1) n) k 0))
        → k < length (if b then i ∷ places_where test (i + 1) n else places_where test (i + 1) n)
        → IsPassing test i (suc n) (slice_index_or (if b then i ∷ places_where test (i + 1) n else places_where test (i + 1) n) k 0)
    by true e zero rec l = record { passes = e; from = omega arith; below = omega arith }
    by true e (suc k) rec l = let r = rec k (omega arith) in
        record { passes = r.passes; from = let a = r.from in omega arith; below = let b = r.below in omega arith }
    by false e k rec l = let r = rec k l in record { passes = r.passes; from = let a = r.from in omega arith; below = let b = r.below in omega arith }

pub places_increase : (test : ℕ → Bool) (i n j k : ℕ) → j < k → k < length (places_where test i n)
    → slice_index_or (places_where test i n) j 0 < slice_index_or (places_where test i n) k 0
unfolding places_where
places_increase test i zero j k h l = absurd (omega arith)
places_increase test i (suc n) j k h l = by (test i) j k (λ j k h l. places_increase test (i + 1) n j k h l) h l
  where
    by : (b : Bool) (j k : ℕ)
        → ((j k : ℕ) → j < k → k < length (places_where test (i + 1) n)
        → slice_index_or (places_where test (i + 1) n) j 0 < slice_index_or (places_where test (i + 1) n) k 0)
        → j < k → k < length (if b then i ∷ places_where test (i + 1) n else places_where test (i + 1) n)
        → slice_index_or (if b then i ∷ places_where test (i + 1) n else places_where test (i + 1) n) j 0 < slice_index_or
        (if b then i ∷ places_where test (i + 1) n else places_where test (i + 1) n) k 0
    by true j zero rec h l = absurd (omega arith)
    by true zero (suc k) rec h l = let p = (places_pass test (i + 1) n k (omega arith)).from in omega arith
    by true (suc j) (suc k) rec h l = rec j k (omega arith) (omega arith)
    by false j k rec h l = rec j k h l

pub places_all : (test : ℕ → Bool) (i n c : ℕ) → test c ≡ true → i ≤ c → c < i + n
    → (k : ℕ) × (k < length (places_where test i n)) × (slice_index_or (places_where test i n) k 0 ≡ c)
unfolding places_where
places_all test i zero c h f b = absurd (omega arith)
places_all test i (suc n) c h f b = by (test i) refl (here_or_after i c f) (λ l. places_all test (i + 1) n c h l (omega arith))
  where
    by : (x : Bool) → test i ≡ x → ((c ≡ i) ⊎ (i + 1 ≤ c))
        → (i + 1 ≤ c → (k : ℕ) × (k < length (places_where test (i + 1) n)) × (slice_index_or (places_where test (i + 1) n) k 0 ≡ c))
        → (k : ℕ) × (k < length (if x then i ∷ places_where test (i + 1) n else places_where test (i + 1) n))
        × (slice_index_or (if x then i ∷ places_where test (i + 1) n else places_where test (i + 1) n) k 0 ≡ c)
    by true e (inl s) rec = (0, omega arith, sym s)
    by true e (inr l) rec = let r = rec l in (suc r.0, (let a = r.1 in omega arith), r.2)
    by false e (inl s) rec = absurd (let t : test c ≡ test i = ap test s in cc)
    by false e (inr l) rec = rec l

-- ---- membership in a list
pub contains_at : (cs : List ℕ) (k : ℕ) → k < length cs → contains cs (slice_index_or cs k 0) ≡ true
contains_at [] k l = absurd (omega arith)
contains_at (c ∷ cs) zero l = ap (λ (b : Bool). b || contains cs c) (itself c)
  where
    itself : (c : ℕ) → nat_eq c c ≡ true
    itself c = grind arith
contains_at (c ∷ cs) (suc k) l = later (nat_eq c (slice_index_or cs k 0)) (contains cs (slice_index_or cs k 0)) (contains_at cs k (omega arith))
  where
    later : (x y : Bool) → y ≡ true → (x || y) ≡ true
    later true y h = refl
    later false y h = h

pub contained : (cs : List ℕ) (x : ℕ) → contains cs x ≡ true → (k : ℕ) × (k < length cs) × (slice_index_or cs k 0 ≡ x)
contained [] x h = absurd cc
contained (c ∷ cs) x h = by (nat_eq c x) refl h (contained cs x)
  where
    by : (b : Bool) → nat_eq c x ≡ b → (b || contains cs x) ≡ true → (contains cs x ≡ true → (k : ℕ) × (k < length cs) × (slice_index_or cs k 0 ≡ x))
        → (k : ℕ) × (k < length (c ∷ cs)) × (slice_index_or (c ∷ cs) k 0 ≡ x)
    by true e h rec = (0, omega arith, same_of_test c x e)
    by false e h rec = let r = rec h in (suc r.0, (let a = r.1 in omega arith), r.2)

-- ---- basic columns
pub basic_row : (t : Table) (c : ℕ) → is_basic t c ≡ true → (i : ℕ) × (i < rows_of t) × (basic_at t i ≡ c)
unfolding row_of
basic_row t c h = by (first_place (holds t c) 0 (rows_of t)) refl h
  where
    by : (o : Option ℕ) → first_place (holds t c) 0 (rows_of t) ≡ o → is_there o ≡ true → (i : ℕ) × (i < rows_of t) × (basic_at t i ≡ c)
    by None e h = absurd cc
    by (Some i) e h = let f = first_found (holds t c) 0 (rows_of t) i e in (i, (let b = f.below in omega arith), same_of_test (basic_at t i) c f.passes)

pub row_basic : (t : Table) (c i : ℕ) → i < rows_of t → basic_at t i ≡ c → is_basic t c ≡ true
unfolding row_of
row_basic t c i l s = by (first_place (holds t c) 0 (rows_of t)) refl
  where
    by : (o : Option ℕ) → first_place (holds t c) 0 (rows_of t) ≡ o → is_there (first_place (holds t c) 0 (rows_of t)) ≡ true
    by None e = absurd (let f = first_none (holds t c) 0 (rows_of t) e i (omega arith) (omega arith) in let g = test_of_same (basic_at t i) c s in cc)
    by (Some i) e = ap is_there e

-- ---- a sum over listed columns
pub sum_listed : (count n : ℕ) (list : ℕ → ℕ) (g : ℕ → Rational) → ((j : ℕ) → j < n → list j < count) → ((i j : ℕ) → i < n → j < n → i ≢ j → list i ≢ list j)
    → ((k : ℕ) → k < count → ((j : ℕ) × (j < n) × (list j ≡ k)) ⊎ (g k ≡ whole (pos 0))) → sum_ℚ n (λ j. g (list j)) ≡ sum_ℚ count g
sum_listed count n list g within apart each =
    sum_ℚ_same n _ _ (λ j lj. sym (sum_marked count g (list j) (within j lj)))
    ∙ sum_ℚ_swap n count (λ j k. mark (list j) k *ℚ g k)
    ∙ sum_ℚ_same count _ _ (λ k lk. by k (each k lk))
  where
    off : (j k : ℕ) → k ≢ list j → mark (list j) k *ℚ g k ≡ whole (pos 0)
    off j k n = ap (λ w. w *ℚ g k) (replaced_other (λ k. whole (pos 0)) (list j) (whole (pos 1)) k n) ∙ zero_mul_ℚ (g k)

    by : (k : ℕ) → (((j : ℕ) × (j < n) × (list j ≡ k)) ⊎ (g k ≡ whole (pos 0))) → sum_ℚ n (λ j. mark (list j) k *ℚ g k) ≡ g k
    by k (inl h) =
        sum_ℚ_one n (λ j. mark (list j) k *ℚ g k) h.0 h.1 (λ j lj ne. off j k (λ s. apart j h.0 lj h.1 ne (sym s ∙ sym h.2)))
        ∙ ap (λ w. w *ℚ g k) (replaced_here (λ k. whole (pos 0)) (list h.0) (whole (pos 1)) k (sym h.2))
        ∙ one_mul_ℚ (g k)
    by k (inr z) = sum_ℚ_none n _ (λ j lj. ap (λ w. mark (list j) k *ℚ w) z ∙ mul_zero_ℚ (mark (list j) k)) ∙ sym z
