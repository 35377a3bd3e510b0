-- The first number below a bound with a property that can be decided.
use Rattle.std.specs.Prelude.{◌≡◌, ℕ, zero, suc, ◌<◌, ℤ, pos, ◌≤ℤ◌, ◌<ℤ◌, nat_abs, ◌⊎◌, ◌^◌}
use Rattle.std.proofs.Common.{arith, inl, inr, subst}
use Rattle.std.proofs.lemmas.Int.{ints}
use Rattle.exact_forms.specs.Slacks.{slack, IsClosed}
use Rattle.unimodular_cone.specs.Cones.{Matrix, Generators, gram, WideEntry, Coordinate, Gram, IsOverLimit, StandsBefore, Fits, IsFirstOver}

pub record FirstBelow (n : ℕ) (P : ℕ → Type 0) : Type 0 where
  pub at : ℕ
  pub range : at < n
  pub holds : P at
  pub first : (l : ℕ) → l < at → ¬ P l

pub first_below : (n : ℕ) (P : ℕ → Type 0) → ((k : ℕ) → k < n → P k ⊎ (¬ P k)) → FirstBelow n P ⊎ ((k : ℕ) → k < n → ¬ P k)
first_below zero P decide = inr (λ k l. absurd (omega arith))
first_below (suc n) P decide = by (first_below n P (λ k l. decide k (omega arith))) (decide n (omega arith))
  where
    last : (k : ℕ) → k < suc n → (k < n) ⊎ (k ≡ n)
    last k l = grind arith

    none : ((k : ℕ) → k < n → ¬ P k) → (¬ P n) → (k : ℕ) → k < suc n → ¬ P k
    none below here k l h = at_last (last k l)
      where
        at_last : ((k < n) ⊎ (k ≡ n)) → ⊥
        at_last (inl lt) = below k lt h
        at_last (inr e) = here (subst P e h)

    by : (FirstBelow n P ⊎ ((k : ℕ) → k < n → ¬ P k)) → (P n ⊎ (¬ P n)) → FirstBelow (suc n) P ⊎ ((k : ℕ) → k < suc n → ¬ P k)
    by (inl f) d = inl (record { at = f.at; range = let r : f.at < n = f.range in omega arith; holds = f.holds; first = f.first })
    by (inr below) (inl h) = inl (record { at = n; range = omega arith; holds = h; first = below })
    by (inr below) (inr ne) = inr (none below ne)

pub lt_or_not : (a b : ℕ) → (a < b) ⊎ (¬ (a < b))
lt_or_not a b = grind arith

pub lt_or_not_ℤ : (a b : ℤ) → (a <ℤ b) ⊎ (¬ (a <ℤ b))
lt_or_not_ℤ a b = grind (arith, ints)

pub le_or_lt_ℤ : (a b : ℤ) → (a ≤ℤ b) ⊎ (b <ℤ a)
le_or_lt_ℤ a b = grind (arith, ints)

-- ---- closed or not
pub closed_or_not : (n : ℕ) (g : Matrix) (b : ℤ) → IsClosed n g b ⊎ (¬ IsClosed n g b)
closed_or_not n g b = by (first_below n (λ i. slack n g i <ℤ b) (λ k l. lt_or_not_ℤ (slack n g k) b))
  where
    le : (x y : ℤ) → (¬ (x <ℤ y)) → y ≤ℤ x
    le x y h = settle (le_or_lt_ℤ y x)
      where
        settle : ((y ≤ℤ x) ⊎ (x <ℤ y)) → y ≤ℤ x
        settle (inl l) = l
        settle (inr l) = absurd (h l)

    by : (FirstBelow n (λ i. slack n g i <ℤ b) ⊎ ((k : ℕ) → k < n → ¬ (slack n g k <ℤ b))) → IsClosed n g b ⊎ (¬ IsClosed n g b)
    by (inl f) = inr (λ c. let h : b ≤ℤ slack n g f.at = c f.at f.range in let l : slack n g f.at <ℤ b = f.holds in omega (arith, ints))
    by (inr all) = inl (λ i l. le (slack n g i) b (all i l))

-- ---- the first entry over its limit, or none
abbrev IsOverIn : ℕ → Matrix → Generators → ℕ → Type 0
IsOverIn n q v k = FirstBelow n (λ p. pos (2 ^ 62) <ℤ v k p)

abbrev IsOverInRow : ℕ → Matrix → Generators → ℕ → Type 0
IsOverInRow n q v i = FirstBelow (suc i) (λ j. 2 ^ 100 < nat_abs (gram n q v i j))

as_decided : (n : ℕ) (P : ℕ → Type 0) → ((k : ℕ) → k < n → P k ⊎ (¬ P k)) → FirstBelow n P ⊎ (¬ FirstBelow n P)
as_decided n P decide = by (first_below n P decide)
  where
    by : (FirstBelow n P ⊎ ((k : ℕ) → k < n → ¬ P k)) → FirstBelow n P ⊎ (¬ FirstBelow n P)
    by (inl f) = inl f
    by (inr none) = inr (λ f. none f.at f.range f.holds)

none_of : (n : ℕ) (P : ℕ → Type 0) → ((k : ℕ) → k < n → P k ⊎ (¬ P k)) → (¬ FirstBelow n P) → (k : ℕ) → k < n → ¬ P k
none_of n P decide without = by (first_below n P decide)
  where
    by : (FirstBelow n P ⊎ ((k : ℕ) → k < n → ¬ P k)) → (k : ℕ) → k < n → ¬ P k
    by (inl f) = absurd (without f)
    by (inr none) = none

pub fits_or_first_over : (n : ℕ) (q : Matrix) (v : Generators) → Fits n q v ⊎ ((entry : WideEntry) × IsFirstOver n q v entry)
fits_or_first_over n q v =
    by (first_below n (IsOverIn n q v) (λ k l. as_decided n _ (coordinates k))) (first_below n (IsOverInRow n q v) (λ i l. as_decided (suc i) _ (entries i)))
  where
    coordinates : (k p : ℕ) → p < n → (pos (2 ^ 62) <ℤ v k p) ⊎ (¬ (pos (2 ^ 62) <ℤ v k p))
    coordinates k p l = lt_or_not_ℤ (pos (2 ^ 62)) (v k p)

    entries : (i j : ℕ) → j < suc i → (2 ^ 100 < nat_abs (gram n q v i j)) ⊎ (¬ (2 ^ 100 < nat_abs (gram n q v i j)))
    entries i j l = lt_or_not (2 ^ 100) (nat_abs (gram n q v i j))

    coordinate : (f : FirstBelow n (IsOverIn n q v)) → IsFirstOver n q v (Coordinate (suc f.at) (suc f.holds.at))
    coordinate f = record { over = (f.range, f.holds.range, f.holds.holds); first = first }
      where
        first : (other : WideEntry) → StandsBefore other (Coordinate (suc f.at) (suc f.holds.at)) → ¬ IsOverLimit n v (gram n q v) other
        first (Coordinate zero p) before over = absurd over
        first (Coordinate (suc k) zero) before over = absurd over
        first (Coordinate (suc k) (suc p)) (inl lt) (a, b, over) = none_of n _ (coordinates k) (f.first k (omega arith)) p b over
        first (Coordinate (suc k) (suc p)) (inr (e, lt)) (a, b, over) =
            f.holds.first p (omega arith) (subst (λ (w : ℕ). pos (2 ^ 62) <ℤ v w p) (let g : k ≡ f.at = omega arith in g) over)
        first (Gram i j) before over = absurd before

    none_at : ((k : ℕ) → k < n → ¬ IsOverIn n q v k) → (k p : ℕ) → ¬ IsOverLimit n v (gram n q v) (Coordinate k p)
    none_at none zero p over = over
    none_at none (suc k) zero over = over
    none_at none (suc k) (suc p) (a, b, over) = none_of n _ (coordinates k) (none k a) p b over

    gram_entry : ((k : ℕ) → k < n → ¬ IsOverIn n q v k) → (f : FirstBelow n (IsOverInRow n q v)) → IsFirstOver n q v (Gram (suc f.at) (suc f.holds.at))
    gram_entry none f = record { over = (f.range, (let r : f.holds.at < suc f.at = f.holds.range in omega arith), f.holds.holds); first = first }
      where
        first : (other : WideEntry) → StandsBefore other (Gram (suc f.at) (suc f.holds.at)) → ¬ IsOverLimit n v (gram n q v) other
        first (Coordinate k p) before over = none_at none k p over
        first (Gram zero j) before over = absurd over
        first (Gram (suc i) zero) before over = absurd over
        first (Gram (suc i) (suc j)) (inl lt) (a, b, over) = none_of (suc i) _ (entries i) (f.first i (omega arith)) j (omega arith) over
        first (Gram (suc i) (suc j)) (inr (e, lt)) (a, b, over) =
            f.holds.first j (omega arith) (subst (λ (w : ℕ). 2 ^ 100 < nat_abs (gram n q v w j)) (let g : i ≡ f.at = omega arith in g) over)

    by : (FirstBelow n (IsOverIn n q v) ⊎ ((k : ℕ) → k < n → ¬ IsOverIn n q v k))
        → (FirstBelow n (IsOverInRow n q v) ⊎ ((k : ℕ) → k < n → ¬ IsOverInRow n q v k))
        → Fits n q v ⊎ ((entry : WideEntry) × IsFirstOver n q v entry)
    by (inl f) d = inr (Coordinate (suc f.at) (suc f.holds.at), coordinate f)
    by (inr none) (inl f) = inr (Gram (suc f.at) (suc f.holds.at), gram_entry none f)
    by (inr none) (inr rows) = inl fits
      where
        fits : Fits n q v
        fits (Coordinate k p) over = none_at none k p over
        fits (Gram zero j) over = over
        fits (Gram (suc i) zero) over = over
        fits (Gram (suc i) (suc j)) (a, b, over) = none_of (suc i) _ (entries i) (rows i a) j (omega arith) over
