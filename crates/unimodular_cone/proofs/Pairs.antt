-- The pair rule as a relation.
use Rattle.std.specs.Prelude.{◌≡◌, ℕ, zero, suc, ◌<◌, ◌≤◌, ℤ, pos, ◌≤ℤ◌, ◌<ℤ◌, cond, ltb, int_lt, Bool, true, false, ◌⊎◌, Option, Some, None}
use Rattle.std.proofs.Common.{arith, sym, ◌∙◌, ap, ap₂, refl, inl, inr, subst}
use Rattle.std.proofs.lemmas.Int.{ints}
use Rattle.unimodular_cone.specs.Cones.{Matrix, lesser_pair, best_in_row, best_in_rows, pair_of, IsPair}

-- (k, l) comes before (i, j), and both columns are above their rows
abbrev IsSeen : ℕ → ℕ → ℕ → ℕ → ℕ → Type 0
IsSeen n i j k l = (k < l) × (l < n) × ((k < i) ⊎ ((k ≡ i) × (l < j)))

-- b is the best of the places before (i, j)
abbrev IsBest : ℕ → Matrix → ℕ → ℕ → Option (ℕ × ℕ) → Type 0
IsBest n g i j None = (k l : ℕ) → IsSeen n i j k l → pos 0 ≤ℤ g k l
IsBest n g i j (Some (a, b)) = IsSeen n i j a b × (g a b <ℤ pos 0) × ((k l : ℕ) → IsSeen n i j k l → g a b ≤ℤ g k l)
    × ((k l : ℕ) → IsSeen n i j k l → g k l ≡ g a b → (a < k) ⊎ ((a ≡ k) × (b ≤ l)))

-- (i, j) is no place of the rule
skipped : (n : ℕ) (g : Matrix) (i j : ℕ) (b : Option (ℕ × ℕ)) → j ≤ i → IsBest n g i j b → IsBest n g i (suc j) b
skipped n g i j None le h = λ k l s. h k l (grind arith)
skipped n g i j (Some (a, b)) le h = (grind arith, h.1, (λ k l s. h.2 k l (grind arith)), λ k l s e. h.3 k l (grind arith) e)

pub test_true : (x y : ℤ) → int_lt x y ≡ true → x <ℤ y
test_true x y e = grind (arith, ints)

pub test_false : (x y : ℤ) → int_lt x y ≡ false → y ≤ℤ x
test_false x y e = grind (arith, ints)

seen_cases : (n i j k l : ℕ) → IsSeen n i (suc j) k l → IsSeen n i j k l ⊎ ((k ≡ i) × (l ≡ j))
seen_cases n i j k l s = grind arith

here : (n i j : ℕ) → i < j → j < n → IsSeen n i (suc j) i j
here n i j lt lj = (lt, lj, inr (refl, omega arith))

later : (n i j k l : ℕ) → IsSeen n i j k l → IsSeen n i (suc j) k l
later n i j k l s = grind arith

before : (n i j k l : ℕ) → IsSeen n i j k l → (k < i) ⊎ ((k ≡ i) × (l ≤ j))
before n i j k l s = grind arith

-- what holds at the places before (i, j) and at (i, j)
each : (n : ℕ) (i j : ℕ) (P : ℕ → ℕ → Type 0) → ((k l : ℕ) → IsSeen n i j k l → P k l) → P i j → (k l : ℕ) → IsSeen n i (suc j) k l → P k l
each n i j P old new k l s = by (seen_cases n i j k l s)
  where
    by : (IsSeen n i j k l ⊎ ((k ≡ i) × (l ≡ j))) → P k l
    by (inl h) = old k l h
    by (inr (e, f)) = subst (λ (x : ℕ). P x l) (sym e) (subst (λ (y : ℕ). P i y) (sym f) new)

-- (i, j) is one more place
weighed : (n : ℕ) (g : Matrix) (i j : ℕ) (b : Option (ℕ × ℕ)) → i < j → j < n → IsBest n g i j b → IsBest n g i (suc j) (lesser_pair g b i j)
weighed n g i j None lt lj h = by (int_lt (g i j) (pos 0)) refl
  where
    by : (t : Bool) → int_lt (g i j) (pos 0) ≡ t → IsBest n g i (suc j) (cond t (Some (i, j)) None)
    by true e = let less : g i j <ℤ pos 0 = test_true _ _ e in (
      here n i j lt lj,
      less,
      each n i j (λ k l. g i j ≤ℤ g k l) (λ k l s. let o : pos 0 ≤ℤ g k l = h k l s in omega (arith, ints)) (omega (arith, ints)),
      each n i j (λ k l. g k l ≡ g i j → (i < k) ⊎ ((i ≡ k) × (j ≤ l))) (λ k l s same. let o : pos 0 ≤ℤ g k l = h k l s in
          absurd (omega (arith, ints))) (λ _. inr (refl, omega arith)),
    )
    by false e = each n i j (λ k l. pos 0 ≤ℤ g k l) h (test_false _ _ e)
weighed n g i j (Some (a, b)) lt lj h = by (int_lt (g i j) (g a b)) refl
  where
    by : (t : Bool) → int_lt (g i j) (g a b) ≡ t → IsBest n g i (suc j) (cond t (Some (i, j)) (Some (a, b)))
    by true e = let less : g i j <ℤ g a b = test_true _ _ e in let neg : g a b <ℤ pos 0 = h.1 in (
      here n i j lt lj,
      omega (arith, ints),
      each n i j (λ k l. g i j ≤ℤ g k l) (λ k l s. let o : g a b ≤ℤ g k l = h.2 k l s in omega (arith, ints)) (omega (arith, ints)),
      each n i j (λ k l. g k l ≡ g i j → (i < k) ⊎ ((i ≡ k) × (j ≤ l))) (λ k l s same. let o : g a b ≤ℤ g k l = h.2 k l s in
          absurd (omega (arith, ints))) (λ _. inr (refl, omega arith)),
    )
    by false e = (
      later n i j a b h.0,
      h.1,
      each n i j (λ k l. g a b ≤ℤ g k l) h.2 (test_false _ _ e),
      each n i j (λ k l. g k l ≡ g a b → (a < k) ⊎ ((a ≡ k) × (b ≤ l))) h.3 (λ _. before n i j a b h.0),
    )

row_best : (n : ℕ) (g : Matrix) (i j : ℕ) (b : Option (ℕ × ℕ)) → j ≤ n → IsBest n g i 0 b → IsBest n g i j (best_in_row g i j b)
row_best n g i zero b le h = h
row_best n g i (suc j) b le h = by (ltb i j) refl (row_best n g i j b (omega arith) h)
  where
    by : (t : Bool) → ltb i j ≡ t → IsBest n g i j (best_in_row g i j b)
        → IsBest n g i (suc j) (cond t (lesser_pair g (best_in_row g i j b) i j) (best_in_row g i j b))
    by true e r = weighed n g i j (best_in_row g i j b) (grind arith) (omega arith) r
    by false e r = skipped n g i j (best_in_row g i j b) (grind arith) r

-- the end of a row is the beginning of the next
next_row : (n : ℕ) (g : Matrix) (i : ℕ) (b : Option (ℕ × ℕ)) → IsBest n g i n b → IsBest n g (suc i) 0 b
next_row n g i None h = λ k l s. h k l (grind arith)
next_row n g i (Some (a, b)) h = (grind arith, h.1, (λ k l s. h.2 k l (grind arith)), λ k l s e. h.3 k l (grind arith) e)

rows_best : (n : ℕ) (g : Matrix) (i : ℕ) → IsBest n g i 0 (best_in_rows g n i)
rows_best n g zero = λ k l s. absurd (grind arith)
rows_best n g (suc i) = next_row n g i _ (row_best n g i n (best_in_rows g n i) (omega arith) (rows_best n g i))

at_end : (n : ℕ) (g : Matrix) (o : Option (ℕ × ℕ)) → pair_of n g ≡ o → IsBest n g n 0 o
unfolding pair_of
at_end n g o e = subst (IsBest n g n 0) e (rows_best n g n)

pub pair_of_some : (n : ℕ) (g : Matrix) (i j : ℕ) → pair_of n g ≡ Some (i, j) → IsPair n g i j
pair_of_some n g i j e = let h : IsBest n g n 0 (Some (i, j)) = at_end n g (Some (i, j)) e in record {
  order = h.0.0;
  range = h.0.1;
  negative = h.1;
  least = λ k l lt ln. h.2 k l (lt, ln, inl (omega arith));
  first = λ k l lt ln same. h.3 k l (lt, ln, inl (omega arith)) same;
}

pub pair_of_none : (n : ℕ) (g : Matrix) → pair_of n g ≡ None → (k l : ℕ) → k < l → l < n → pos 0 ≤ℤ g k l
pair_of_none n g e k l lt ln = at_end n g None e k l (lt, ln, inl (omega arith))

pub pair_unique : (n : ℕ) (g : Matrix) (i j k l : ℕ) → IsPair n g i j → IsPair n g k l → (i ≡ k) × (j ≡ l)
pair_unique n g i j k l a b =
    let le : g i j ≤ℤ g k l = a.least k l b.order b.range in
    let ge : g k l ≤ℤ g i j = b.least i j a.order a.range in
    let same : g k l ≡ g i j = omega (arith, ints) in
    let f : (i < k) ⊎ ((i ≡ k) × (j ≤ l)) = a.first k l b.order b.range same in
    let f' : (k < i) ⊎ ((k ≡ i) × (l ≤ j)) = b.first i j a.order a.range (sym same) in
    grind arith

pub some_pair : {i j k l : ℕ} → ◌≡◌ {A = Option (ℕ × ℕ)} (Some (i, j)) (Some (k, l)) → (i ≡ k) × (j ≡ l)
some_pair {i} {j} {k} {l} e =
    let f : ◌≡◌ {A = ℕ × ℕ} (i, j) (k, l) = cc in
    (ap (λ (w : ℕ × ℕ). w.0) f, ap (λ (w : ℕ × ℕ). w.1) f)

pub pair_or_none : (n : ℕ) (g : Matrix) → (pair_of n g ≡ None) ⊎ ((i : ℕ) × (j : ℕ) × (pair_of n g ≡ Some (i, j)))
pair_or_none n g = by (pair_of n g) refl
  where
    by : (o : Option (ℕ × ℕ)) → pair_of n g ≡ o → (pair_of n g ≡ None) ⊎ ((i : ℕ) × (j : ℕ) × (pair_of n g ≡ Some (i, j)))
    by None e = inl e
    by (Some (i, j)) e = inr (i, j, e)

-- ---- the pair rule both ways
pub pair_is : (n : ℕ) (g : Matrix) (i j : ℕ) → IsPair n g i j → pair_of n g ≡ Some (i, j)
pair_is n g i j p = by (pair_or_none n g)
  where
    by : ((pair_of n g ≡ None) ⊎ ((k : ℕ) × (l : ℕ) × (pair_of n g ≡ Some (k, l)))) → pair_of n g ≡ Some (i, j)
    by (inl none) = absurd (let h : pos 0 ≤ℤ g i j = pair_of_none n g none i j p.order p.range in let k : g i j <ℤ pos 0 = p.negative in omega (arith, ints))
    by (inr (k, l, e)) = let u = pair_unique n g k l i j (pair_of_some n g k l e) p in e ∙ ap₂ (λ (a : ℕ) (b : ℕ). Some (a, b)) u.0 u.1

pub none_is : (n : ℕ) (g : Matrix) → ((k l : ℕ) → k < l → l < n → pos 0 ≤ℤ g k l) → pair_of n g ≡ None
none_is n g all = by (pair_or_none n g)
  where
    by : ((pair_of n g ≡ None) ⊎ ((k : ℕ) × (l : ℕ) × (pair_of n g ≡ Some (k, l)))) → pair_of n g ≡ None
    by (inl none) = none
    by (inr (k, l, e)) =
        absurd (let p : IsPair n g k l = pair_of_some n g k l e in let h : pos 0 ≤ℤ g k l = all k l p.order p.range in let w : g k l <ℤ pos 0 = p.negative in
        omega (arith, ints))

-- the pair looks at the places above the diagonal alone
pub pair_same : (n : ℕ) (g h : Matrix) → ((k l : ℕ) → k < l → l < n → g k l ≡ h k l) → pair_of n g ≡ pair_of n h
pair_same n g h same = by (pair_or_none n h)
  where
    by : ((pair_of n h ≡ None) ⊎ ((i : ℕ) × (j : ℕ) × (pair_of n h ≡ Some (i, j)))) → pair_of n g ≡ pair_of n h
    by (inl none) = none_is n g (λ k l lt ln. rw (same k l lt ln) (pair_of_none n h none k l lt ln)) ∙ sym none
    by (inr (i, j, e)) = let p : IsPair n h i j = pair_of_some n h i j e in
        pair_is n g i j (record {
          order = p.order;
          range = p.range;
          negative = rw (same i j p.order p.range) p.negative;
          least = λ k l lt ln. rw (same i j p.order p.range, same k l lt ln) (p.least k l lt ln);
          first = λ k l lt ln f. p.first k l lt ln (sym (same k l lt ln) ∙ f ∙ same i j p.order p.range);
        }) ∙ sym e
