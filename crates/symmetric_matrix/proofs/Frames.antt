-- Entries of a matrix with a frame of zeros round it.
use Rattle.std.specs.Prelude.{◌≡◌, ℕ, ◌+◌, ◌-◌, ◌<◌, ◌≤◌, ◌⊎◌, ◌&&◌, nat_lt, nat_le, if◌then◌else◌, Bool, true, false, ℤ, pos, ◌*ℤ◌}
use Rattle.std.proofs.Common.{arith, sym, ◌∙◌, ap, ap₂, refl, inl, inr}
use Rattle.commutative_ring.proofs.Laws.{mul_zero_ℤ, zero_mul_ℤ}
use Rattle.commutative_ring.proofs.SmallCases.{three_ways}
use Rattle.symmetric_matrix.specs.StartVectors.{Run, run_digit, IsRunWithin}
use Rattle.symmetric_matrix.specs.StartWeights.{framed}

pub framed_inside : {A : Type 0} (none : A) (n : ℕ) (q : ℕ → ℕ → A) (i j : ℕ) → i < n → j < n → framed none n q (i + 1) (j + 1) ≡ q i j
unfolding framed
framed_inside none n q i j hi hj =
    let e : i + 1 - 1 ≡ i = omega arith in
    let f : j + 1 - 1 ≡ j = omega arith in
    ap (λ (b : Bool). if b then q (i + 1 - 1) (j + 1 - 1) else none) (passes i j hi hj) ∙ ap₂ q e f
  where
    passes : (i j : ℕ) → i < n → j < n → (nat_lt 0 (i + 1) && nat_le (i + 1) n && (nat_lt 0 (j + 1) && nat_le (j + 1) n)) ≡ true
    passes i j hi hj = grind arith

pub framed_above : {A : Type 0} (none : A) (n : ℕ) (q : ℕ → ℕ → A) (j : ℕ) → framed none n q 0 j ≡ none
unfolding framed
framed_above none n q j = refl

pub framed_beyond : {A : Type 0} (none : A) (n : ℕ) (q : ℕ → ℕ → A) (i j : ℕ) → n < j → framed none n q i j ≡ none
unfolding framed
framed_beyond none n q i j h = ap (λ (b : Bool). if b then q (i - 1) (j - 1) else none) (fails j h)
  where
    fails : (j : ℕ) → n < j → (nat_lt 0 i && nat_le i n && (nat_lt 0 j && nat_le j n)) ≡ false
    fails j h = grind arith

pub framed_same : {A : Type 0} (none : A) (n : ℕ) (p q : ℕ → ℕ → A) → ((i j : ℕ) → i < n → j < n → p i j ≡ q i j) → (i j : ℕ)
    → framed none n p i j ≡ framed none n q i j
unfolding framed
framed_same none n p q h i j = by (nat_lt 0 i && nat_le i n && (nat_lt 0 j && nat_le j n)) refl
  where
    bounds : (nat_lt 0 i && nat_le i n && (nat_lt 0 j && nat_le j n)) ≡ true → (i - 1 < n) × (j - 1 < n)
    bounds h = grind arith

    by : (b : Bool) → (nat_lt 0 i && nat_le i n && (nat_lt 0 j && nat_le j n)) ≡ b
        → (if b then p (i - 1) (j - 1) else none) ≡ (if b then q (i - 1) (j - 1) else none)
    by true e = let k = bounds e in h (i - 1) (j - 1) k.0 k.1
    by false e = refl

-- a function of the entries that keeps none
pub framed-map : {A B : Type 0} (f : A → B) (none : A) (n : ℕ) (q : ℕ → ℕ → A) (i j : ℕ) → framed (f none) n (λ i j. f (q i j)) i j ≡ f (framed none n q i j)
unfolding framed
framed-map f none n q i j = by (nat_lt 0 i && nat_le i n && (nat_lt 0 j && nat_le j n))
  where
    by : (b : Bool) → (if b then f (q (i - 1) (j - 1)) else f none) ≡ f (if b then q (i - 1) (j - 1) else none)
    by true = refl
    by false = refl

-- a function of a family of matrices, at none where each of them is
pub framed_family : {A B : Type 0} (g : (ℕ → B) → A) (none : A) (base : B) (n : ℕ) (f : ℕ → ℕ → ℕ → B) (i j : ℕ) → g (λ s. base) ≡ none
    → framed none n (λ i j. g (λ s. f s i j)) i j ≡ g (λ s. framed base n (f s) i j)
unfolding framed
framed_family g none base n f i j h = by (nat_lt 0 i && nat_le i n && (nat_lt 0 j && nat_le j n))
  where
    by : (b : Bool) → (if b then g (λ s. f s (i - 1) (j - 1)) else none) ≡ g (λ s. if b then f s (i - 1) (j - 1) else base)
    by true = refl
    by false = sym h

-- ---- matrices u·vᵗ
-- a vector with a frame of zeros
pub padded : ℕ → (ℕ → ℤ) → ℕ → ℤ
padded n u i = if nat_lt 0 i && nat_le i n then u (i - 1) else pos 0

pub framed_product : (n : ℕ) (u v : ℕ → ℤ) (i j : ℕ) → framed (pos 0) n (λ i j. u i *ℤ v j) i j ≡ padded n u i *ℤ padded n v j
unfolding framed padded
framed_product n u v i j = by (nat_lt 0 i && nat_le i n) (nat_lt 0 j && nat_le j n)
  where
    by : (b c : Bool) → (if b && c then u (i - 1) *ℤ v (j - 1) else pos 0) ≡ (if b then u (i - 1) else pos 0) *ℤ (if c then v (j - 1) else pos 0)
    by true true = refl
    by true false = sym (mul_zero_ℤ (u (i - 1)))
    by false c = sym (zero_mul_ℤ (if c then v (j - 1) else pos 0))

-- ---- the vector of a run
-- its digit at a place counted from 1, and 0 outside
pub edge : Run → ℕ → ℕ
edge s i = if nat_le (s.first + 1) i && nat_le i (s.last + 1) then 1 else 0

pub edge_inside : (s : Run) (i : ℕ) → s.first + 1 ≤ i → i ≤ s.last + 1 → edge s i ≡ 1
unfolding edge
edge_inside s i a b = grind arith

pub edge_before : (s : Run) (i : ℕ) → i < s.first + 1 → edge s i ≡ 0
unfolding edge
edge_before s i a = grind arith

pub edge_after : (s : Run) (i : ℕ) → s.last + 1 < i → edge s i ≡ 0
unfolding edge
edge_after s i a = grind arith

run_digit_edge : (s : Run) (i : ℕ) → 0 < i → run_digit s (i - 1) ≡ edge s i
unfolding run_digit edge
run_digit_edge s i h = grind arith

pub padded_run : (n : ℕ) (s : Run) (i : ℕ) → IsRunWithin n s → padded n (λ p. pos (run_digit s p)) i ≡ pos (edge s i)
unfolding padded
padded_run n s i within = by (nat_lt 0 i && nat_le i n) refl
  where
    bounds : (nat_lt 0 i && nat_le i n) ≡ true → 0 < i
    bounds h = grind arith

    outside : (nat_lt 0 i && nat_le i n) ≡ false → (i ≡ 0) ⊎ (n < i)
    outside h = grind arith

    none : ((i ≡ 0) ⊎ (n < i)) → pos 0 ≡ pos (edge s i)
    none (inl e) = ap pos (sym (edge_before s i (omega arith)))
    none (inr l) = ap pos (sym (edge_after s i (omega (arith, within.inside))))

    by : (b : Bool) → (nat_lt 0 i && nat_le i n) ≡ b → (if b then pos (run_digit s (i - 1)) else pos 0) ≡ pos (edge s i)
    by true h = ap pos (run_digit_edge s i (bounds h))
    by false h = none (outside h)

-- of two runs, some edge of one does not show in the other
pub edges_apart : (n : ℕ) (r s : Run) → IsRunWithin n r → ((r.first ≡ s.first) → (r.last ≡ s.last) → ⊥)
    → (edge s (r.first + 1) ≡ edge s r.first) ⊎ (edge s (r.last + 1) ≡ edge s (r.last + 2))
edges_apart n r s within apart = by (three_ways r.first s.first) (three_ways r.last s.last) (three_ways r.first (s.last + 1))
  where
    after : s.last + 1 ≤ r.first → edge s (r.last + 1) ≡ edge s (r.last + 2)
    after h = edge_after s (r.last + 1) (omega (arith, within.ordered)) ∙ sym (edge_after s (r.last + 2) (omega (arith, within.ordered)))

    by : ((r.first < s.first) ⊎ ((r.first ≡ s.first) ⊎ (s.first < r.first))) → ((r.last < s.last) ⊎ ((r.last ≡ s.last) ⊎ (s.last < r.last)))
        → ((r.first < s.last + 1) ⊎ ((r.first ≡ s.last + 1) ⊎ (s.last + 1 < r.first)))
        → (edge s (r.first + 1) ≡ edge s r.first) ⊎ (edge s (r.last + 1) ≡ edge s (r.last + 2))
    by (inl a) b c = inl (edge_before s (r.first + 1) (omega arith) ∙ sym (edge_before s r.first (omega arith)))
    by (inr (inl e)) (inl b) c =
        inr (edge_inside s (r.last + 1) (omega (arith, within.ordered)) (omega arith)
        ∙ sym (edge_inside s (r.last + 2) (omega (arith, within.ordered)) (omega arith)))
    by (inr (inl e)) (inr (inl f)) c = absurd (apart e f)
    by (inr (inl e)) (inr (inr b)) c = inr (edge_after s (r.last + 1) (omega arith) ∙ sym (edge_after s (r.last + 2) (omega arith)))
    by (inr (inr a)) b (inl c) = inl (edge_inside s (r.first + 1) (omega arith) (omega arith) ∙ sym (edge_inside s r.first (omega arith) (omega arith)))
    by (inr (inr a)) b (inr (inl c)) = inr (after (omega arith))
    by (inr (inr a)) b (inr (inr c)) = inr (after (omega arith))
