-- A closed cone, and a cone's children.
use Rattle.std.specs.Prelude.{◌≡◌, ◌≢◌, ℕ, zero, suc, ◌<◌, ℤ, pos, negsuc, ◌+ℤ◌, ◌*ℤ◌, ◌-ℤ◌, ◌≤ℤ◌, ◌<ℤ◌, neg_ℤ, cond, eqb, Bool, true, false, ◌⊎◌}
use Rattle.std.proofs.Common.{arith, sym, ◌∙◌, ap, ap₂, refl, inl, inr}
use Rattle.std.proofs.lemmas.Int.{ints}
use lib.IntN.{*ℤ_comm}
use Rattle.exact_forms.specs.Sums.{sum_to}
use Rattle.exact_forms.specs.Forms.{bilinear, form, combination, IsSymmetric}
use Rattle.exact_forms.specs.Slacks.{replaced, shortfall, slack, IsClosed, AreNonnegative}
use Rattle.commutative_ring.proofs.Laws.{mul_add_ℤ, add_mul_ℤ, zero_mul_ℤ}
use Rattle.commutative_ring.proofs.Expand.{expand, linear}
use Rattle.commutative_ring.proofs.SmallCases.{at_most_trans_ℤ, zero_or_not}
pub use Rattle.commutative_ring.proofs.SmallCases.{same_or_not}
use Rattle.exact_forms.proofs.Sums.{sum_to-zero, sum_to-suc, sum_to_same, mul-sum_to, sum_to-mul, sum_to_swap, sum_to_le, sum_to_but_one, sum_to-neg}
use Rattle.exact_forms.proofs.Sums.{term_le_sum, sums_same, sums-add, mul-sums}
use Rattle.exact_forms.proofs.Forms.{bilinear_symmetric, form-combination}
use Rattle.exact_forms.proofs.Order.{nonneg_mul, nonneg_square, mul_le_left, one_le_square, le_of_mul_le_left}

-- some coefficient below m is not 0
abbrev pub SomeNonzero : ℕ → (ℕ → ℤ) → Type 0
SomeNonzero m a = (k : ℕ) × (k < m) × (a k ≢ pos 0)

pub replaced_here : {A : Type 0} (f : ℕ → A) (i : ℕ) (y : A) (k : ℕ) → k ≡ i → replaced f i y k ≡ y
replaced_here f i y k e = let t : eqb k i ≡ true = grind arith in ap (λ (b : Bool). cond b y (f k)) t

pub replaced_other : {A : Type 0} (f : ℕ → A) (i : ℕ) (y : A) (k : ℕ) → k ≢ i → replaced f i y k ≡ f k
replaced_other f i y k e = let t : eqb k i ≡ false = grind arith in ap (λ (b : Bool). cond b y (f k)) t

pub shortfall_nonneg : (z : ℤ) → pos 0 ≤ℤ shortfall z
unfolding shortfall
shortfall_nonneg (pos n) = omega (arith, ints)
shortfall_nonneg (negsuc n) = omega (arith, ints)

pub shortfall_lifts : (z : ℤ) → pos 0 ≤ℤ (z +ℤ shortfall z)
unfolding shortfall
shortfall_lifts (pos n) = omega (arith, ints)
shortfall_lifts (negsuc n) = omega (arith, ints)

pub shortfall_of_nonneg : (z : ℤ) → pos 0 ≤ℤ z → shortfall z ≡ pos 0
unfolding shortfall
shortfall_of_nonneg (pos n) h = refl
shortfall_of_nonneg (negsuc n) h = absurd (omega (arith, ints))

pub shortfall_of_negative : (z : ℤ) → z <ℤ pos 0 → shortfall z ≡ neg_ℤ z
unfolding shortfall
shortfall_of_negative (pos n) h = absurd (omega (arith, ints))
shortfall_of_negative (negsuc n) h = refl

pub slack_is_diagonal_less : (m : ℕ) (g : ℕ → ℕ → ℤ) (i : ℕ) → slack m g i ≡ g i i -ℤ sum_to m (λ j. cond (eqb j i) (pos 0) (shortfall (g i j)))
unfolding slack
slack_is_diagonal_less m g i = refl

-- the entries of its row decide a slack
pub slack_same : (m : ℕ) (g h : ℕ → ℕ → ℤ) (i : ℕ) → i < m → ((j : ℕ) → j < m → g i j ≡ h i j) → slack m g i ≡ slack m h i
unfolding slack
slack_same m g h i l e = ap₂ (λ (a : ℤ) (b : ℤ). a -ℤ b) (e i l) (sum_to_same m _ _ (λ j lj. ap (λ (z : ℤ). cond (eqb j i) (pos 0) (shortfall z)) (e j lj)))

-- two sums that differ in two terms, which come to the same
pub sum_to_but_two : (n : ℕ) (f g : ℕ → ℤ) (i j : ℕ) → i < n → j < n → i ≢ j
    → ((k : ℕ) → k < n → k ≢ i → k ≢ j → f k ≡ g k) → f i +ℤ f j ≡ g i +ℤ g j → sum_to n f ≡ sum_to n g
sum_to_but_two n f g i j li lj ne others both =
    let h : ℕ → ℤ = replaced f j (g j) in
    let at_j : h j ≡ g j = replaced_here f j (g j) j refl in
    let at_i : h i ≡ f i = replaced_other f j (g j) i ne in
    let first : sum_to n f +ℤ h j ≡ sum_to n h +ℤ f j = sum_to_but_one n f h j lj (λ k l nj. sym (replaced_other f j (g j) k nj)) in
    let second : sum_to n h +ℤ g i ≡ sum_to n g +ℤ h i = sum_to_but_one n h g i li (λ k l ni. settle k l ni (same_or_not k j)) in
    omega (arith, linear)
  where
    settle : (k : ℕ) → k < n → k ≢ i → ((k ≡ j) ⊎ (k ≢ j)) → replaced f j (g j) k ≡ g k
    settle k l ni (inl e) = replaced_here f j (g j) k e ∙ ap g (sym e)
    settle k l ni (inr nj) = replaced_other f j (g j) k nj ∙ others k l ni nj

-- the diagonal, and the negative entries beside it
abbrev weakened : (ℕ → ℕ → ℤ) → ℕ → ℕ → ℤ
weakened g i j = replaced (λ k. neg_ℤ (shortfall (g i k))) i (g i i) j

slack_is : (m : ℕ) (g : ℕ → ℕ → ℤ) (i : ℕ) → i < m → sum_to m (weakened g i) ≡ slack m g i
unfolding slack
slack_is m g i l =
    let s : ℕ → ℤ = λ (j : ℕ). replaced (λ k. shortfall (g i k)) i (pos 0) j in
    let e : sum_to m (weakened g i) +ℤ neg_ℤ (s i) ≡ sum_to m (λ j. neg_ℤ (s j)) +ℤ weakened g i i =
    sum_to_but_one m (weakened g i) (λ j. neg_ℤ (s j)) i l
    (λ k lk ne. replaced_other (λ j. neg_ℤ (shortfall (g i j))) i (g i i) k ne ∙ ap neg_ℤ (sym (replaced_other (λ k. shortfall (g i k)) i (pos 0) k ne))) in
    let a : weakened g i i ≡ g i i = replaced_here (λ k. neg_ℤ (shortfall (g i k))) i (g i i) i refl in
    let b : s i ≡ pos 0 = replaced_here (λ k. shortfall (g i k)) i (pos 0) i refl in
    let c : sum_to m (λ j. neg_ℤ (s j)) ≡ neg_ℤ (sum_to m s) = sum_to-neg m s in
    omega (arith, linear)

weakened_symmetric : (m : ℕ) (g : ℕ → ℕ → ℤ) → IsSymmetric m g → (i j : ℕ) → i < m → j < m → weakened g i j ≡ weakened g j i
weakened_symmetric m g s i j li lj = by (same_or_not j i)
  where
    by : ((j ≡ i) ⊎ (j ≢ i)) → weakened g i j ≡ weakened g j i
    by (inl e) = ap₂ (λ (x : ℕ) (y : ℕ). weakened g x y) (sym e) e
    by (inr ne) =
        replaced_other (λ k. neg_ℤ (shortfall (g i k))) i (g i i) j ne
        ∙ ap (λ (w : ℤ). neg_ℤ (shortfall w)) (s i j li lj)
        ∙ sym (replaced_other (λ k. neg_ℤ (shortfall (g j k))) j (g j j) i (λ e. ne (sym e)))

-- 2·g_ij·a_i·a_j is at least e_ij·(a_i² + a_j²), where e is g with its positive entries beside the diagonal taken as 0
entry_bound : (m : ℕ) (g : ℕ → ℕ → ℤ) (a : ℕ → ℤ) (i j : ℕ) → pos 0 ≤ℤ a i → pos 0 ≤ℤ a j
    → (weakened g i j *ℤ (a i *ℤ a i +ℤ a j *ℤ a j)) ≤ℤ (pos 2 *ℤ (g i j *ℤ (a i *ℤ a j)))
entry_bound m g a i j hi hj = by (same_or_not j i)
  where
    on : (d x : ℤ) → (d *ℤ (x *ℤ x +ℤ x *ℤ x)) ≤ℤ (pos 2 *ℤ (d *ℤ (x *ℤ x)))
    on d x = simp expand (omega (arith, linear))

    off : (s z x y : ℤ) → pos 0 ≤ℤ s → pos 0 ≤ℤ (z +ℤ s) → pos 0 ≤ℤ x → pos 0 ≤ℤ y → (neg_ℤ s *ℤ (x *ℤ x +ℤ y *ℤ y)) ≤ℤ (pos 2 *ℤ (z *ℤ (x *ℤ y)))
    off s z x y hs hz hx hy =
        let p : pos 0 ≤ℤ (z *ℤ (x *ℤ y) +ℤ s *ℤ (x *ℤ y)) = simp add_mul_ℤ at (nonneg_mul (z +ℤ s) (x *ℤ y) hz (nonneg_mul x y hx hy)) in
        let q : pos 0 ≤ℤ (s *ℤ ((x -ℤ y) *ℤ (x -ℤ y))) = nonneg_mul s _ hs (nonneg_square (x -ℤ y)) in
        let q' = simp expand at q in
        simp expand (omega (arith, linear))

    by : ((j ≡ i) ⊎ (j ≢ i)) → (weakened g i j *ℤ (a i *ℤ a i +ℤ a j *ℤ a j)) ≤ℤ (pos 2 *ℤ (g i j *ℤ (a i *ℤ a j)))
    by (inl e) = rw (e, replaced_here (λ k. neg_ℤ (shortfall (g i k))) i (g i i) i refl) (on (g i i) (a i))
    by (inr ne) =
        rw (replaced_other (λ k. neg_ℤ (shortfall (g i k))) i (g i i) j ne)
        (off (shortfall (g i j)) (g i j) (a i) (a j) (shortfall_nonneg (g i j)) (shortfall_lifts (g i j)) hi hj)

-- the form is at least the slacks times the squares
pub form_over_slacks : (m : ℕ) (g : ℕ → ℕ → ℤ) (a : ℕ → ℤ) → IsSymmetric m g → AreNonnegative m a
    → sum_to m (λ i. slack m g i *ℤ (a i *ℤ a i)) ≤ℤ form m g a
unfolding bilinear
form_over_slacks m g a sym_g nonneg =
    let e : ℕ → ℕ → ℤ = weakened g in
    let rows : ℤ = sum_to m (λ i. sum_to m (λ j. e i j *ℤ (a i *ℤ a i))) in
    let columns : ℤ = sum_to m (λ i. sum_to m (λ j. e i j *ℤ (a j *ℤ a j))) in
    let by_rows : rows ≡ sum_to m (λ i. slack m g i *ℤ (a i *ℤ a i)) =
    sum_to_same m _ _ (λ i l. sym (sum_to-mul (a i *ℤ a i) m (λ j. e i j)) ∙ ap (λ (w : ℤ). w *ℤ (a i *ℤ a i)) (slack_is m g i l)) in
    let mirrored : columns ≡ rows =
    sum_to_swap m m (λ i j. e i j *ℤ (a j *ℤ a j))
    ∙ sums_same m m _ _ (λ i j li lj. ap (λ (w : ℤ). w *ℤ (a i *ℤ a i)) (weakened_symmetric m g sym_g j i lj li)) in
    let both : sum_to m (λ i. sum_to m (λ j. e i j *ℤ (a i *ℤ a i +ℤ a j *ℤ a j))) ≡ rows +ℤ columns =
    sums_same m m _ _ (λ i j li lj. mul_add_ℤ (e i j) (a i *ℤ a i) (a j *ℤ a j))
    ∙ sums-add m m (λ i j. e i j *ℤ (a i *ℤ a i)) (λ i j. e i j *ℤ (a j *ℤ a j)) in
    let bound : sum_to m (λ i. sum_to m (λ j. e i j *ℤ (a i *ℤ a i +ℤ a j *ℤ a j))) ≤ℤ sum_to m (λ i. sum_to m (λ j. pos 2 *ℤ (g i j *ℤ (a i *ℤ a j)))) =
    sum_to_le m _ _ (λ i li. sum_to_le m _ _ (λ j lj. entry_bound m g a i j (nonneg i li) (nonneg j lj))) in
    let twice : pos 2 *ℤ form m g a ≡ sum_to m (λ i. sum_to m (λ j. pos 2 *ℤ (g i j *ℤ (a i *ℤ a j)))) = mul-sums (pos 2) m m (λ i j. g i j *ℤ (a i *ℤ a j)) in
    let doubled : pos 2 *ℤ form m g a ≡ form m g a +ℤ form m g a = simp expand in
    omega (arith, linear)

-- a nonnegative combination has no value below b times its squares
pub form_over_bound : (m : ℕ) (g : ℕ → ℕ → ℤ) (b : ℤ) (a : ℕ → ℤ) → IsSymmetric m g → IsClosed m g b → AreNonnegative m a
    → (b *ℤ sum_to m (λ i. a i *ℤ a i)) ≤ℤ form m g a
form_over_bound m g b a s closed nonneg =
    let each : sum_to m (λ i. b *ℤ (a i *ℤ a i)) ≤ℤ sum_to m (λ i. slack m g i *ℤ (a i *ℤ a i)) =
    sum_to_le m _ _ (λ i l. scaled b (slack m g i) (a i) (closed i l)) in
    let whole : sum_to m (λ i. slack m g i *ℤ (a i *ℤ a i)) ≤ℤ form m g a = form_over_slacks m g a s nonneg in
    rw (mul-sum_to b m (λ i. a i *ℤ a i)) (omega (arith, linear))
  where
    scaled : (b h x : ℤ) → b ≤ℤ h → (b *ℤ (x *ℤ x)) ≤ℤ (h *ℤ (x *ℤ x))
    scaled b h x l = rw (*ℤ_comm b (x *ℤ x), *ℤ_comm h (x *ℤ x)) (mul_le_left (x *ℤ x) b h (nonneg_square x) l)

form_over_squares : (n m : ℕ) (q : ℕ → ℕ → ℤ) (v : ℕ → ℕ → ℤ) (b : ℤ) (a : ℕ → ℤ)
    → IsSymmetric n q → IsClosed m (λ k l. bilinear n q (v k) (v l)) b → AreNonnegative m a
    → (b *ℤ sum_to m (λ i. a i *ℤ a i)) ≤ℤ form m (λ k l. bilinear n q (v k) (v l)) a
form_over_squares n m q v b a s closed nonneg = form_over_bound m _ b a (λ i j li lj. bilinear_symmetric n q (v i) (v j) s) closed nonneg

-- closed at b ≥ 0: each value at a combination that is not empty is at least b
pub closed_bound : (n m : ℕ) (q : ℕ → ℕ → ℤ) (v : ℕ → ℕ → ℤ) (b : ℤ) (a : ℕ → ℤ)
    → IsSymmetric n q → pos 0 ≤ℤ b → IsClosed m (λ k l. bilinear n q (v k) (v l)) b → AreNonnegative m a → SomeNonzero m a
    → b ≤ℤ form n q (combination m a v)
closed_bound n m q v b a s nonneg_b closed nonneg (k, below, nonzero) =
    let squares : pos 1 ≤ℤ sum_to m (λ i. a i *ℤ a i) =
    at_most_trans_ℤ (one_le_square (a k) nonzero) (term_le_sum m (λ i. a i *ℤ a i) k below (λ i l. nonneg_square (a i))) in
    let grown : (b *ℤ pos 1) ≤ℤ (b *ℤ sum_to m (λ i. a i *ℤ a i)) = mul_le_left b (pos 1) _ nonneg_b squares in
    let over = form_over_squares n m q v b a s closed nonneg in
    let one : b *ℤ pos 1 ≡ b = simp expand in
    rw (form-combination n m q a v) (omega (arith, linear))

-- closed at 0: no value is negative
pub closed_at_zero : (n m : ℕ) (q : ℕ → ℕ → ℤ) (v : ℕ → ℕ → ℤ) (a : ℕ → ℤ)
    → IsSymmetric n q → IsClosed m (λ k l. bilinear n q (v k) (v l)) (pos 0) → AreNonnegative m a
    → pos 0 ≤ℤ form n q (combination m a v)
closed_at_zero n m q v a s closed nonneg =
    let over : (pos 0 *ℤ sum_to m (λ i. a i *ℤ a i)) ≤ℤ form m (λ k l. bilinear n q (v k) (v l)) a =
    form_over_bound m _ (pos 0) a (λ i j li lj. bilinear_symmetric n q (v i) (v j) s) closed nonneg in
    let none : pos 0 *ℤ sum_to m (λ i. a i *ℤ a i) ≡ pos 0 = zero_mul_ℤ (sum_to m (λ i. a i *ℤ a i)) in
    rw (form-combination n m q a v) (omega (arith, linear))

-- a combination that is not zero at some place has a coefficient that is not 0
pub some_nonzero : (m : ℕ) (a : ℕ → ℤ) (v : ℕ → ℕ → ℤ) (p : ℕ) → combination m a v p ≢ pos 0 → SomeNonzero m a
unfolding combination
some_nonzero m a v p h = search_below m h
  where
    search_below : (m : ℕ) → sum_to m (λ k. a k *ℤ v k p) ≢ pos 0 → SomeNonzero m a
    search_below zero h = absurd (h (sum_to-zero _))
    search_below (suc m) h = by (zero_or_not (a m)) (search_below m)
      where
        by : ((a m ≡ pos 0) ⊎ (a m ≢ pos 0)) → (sum_to m (λ k. a k *ℤ v k p) ≢ pos 0 → SomeNonzero m a) → SomeNonzero (suc m) a
        by (inr ne) rec = (m, omega arith, ne)
        by (inl e) rec =
            let r : SomeNonzero m a = rec (λ z. h (sum_to-suc m _ ∙ ap₂ (λ (x : ℤ) (y : ℤ). x +ℤ y) z (ap (λ (w : ℤ). w *ℤ v m p) e ∙ zero_mul_ℤ (v m p)))) in
            (r.0, omega (arith, r.1), r.2)

-- two terms are at most the sum
pub two_terms_le_sum : (n : ℕ) (f : ℕ → ℤ) (i k : ℕ) → i < n → k < n → i ≢ k → ((l : ℕ) → l < n → pos 0 ≤ℤ f l) → (f i +ℤ f k) ≤ℤ sum_to n f
two_terms_le_sum n f i k li lk ne nonneg =
    let g : ℕ → ℤ = replaced f k (pos 0) in
    let e : sum_to n f +ℤ g k ≡ sum_to n g +ℤ f k = sum_to_but_one n f g k lk (λ l ll nl. sym (replaced_other f k (pos 0) l nl)) in
    let at_k : g k ≡ pos 0 = replaced_here f k (pos 0) k refl in
    let at_i : g i ≡ f i = replaced_other f k (pos 0) i ne in
    let b : g i ≤ℤ sum_to n g = term_le_sum n g i li (λ l ll. settle l ll (same_or_not l k)) in
    omega (arith, linear)
  where
    settle : (l : ℕ) → l < n → ((l ≡ k) ⊎ (l ≢ k)) → pos 0 ≤ℤ replaced f k (pos 0) l
    settle l ll (inl e) = rw (replaced_here f k (pos 0) l e) (omega (arith, ints))
    settle l ll (inr nl) = rw (replaced_other f k (pos 0) l nl) (nonneg l ll)

-- the coefficients of one generator
abbrev pub IsUnit : ℕ → (ℕ → ℤ) → ℕ → Type 0
IsUnit m a k = (k < m) × (a k ≡ pos 1) × ((i : ℕ) → i < m → i ≢ k → a i ≡ pos 0)

unit_of_squares : (m : ℕ) (a : ℕ → ℤ) → AreNonnegative m a → sum_to m (λ i. a i *ℤ a i) ≤ℤ pos 1 → (k : ℕ) → k < m → a k ≢ pos 0 → IsUnit m a k
unit_of_squares m a nonneg small k l nonzero = (
  l,
  one_of_square (a k) (nonneg k l) nonzero (at_most_trans_ℤ (term_le_sum m (λ i. a i *ℤ a i) k l (λ i _. nonneg_square (a i))) small),
  λ i li ne. zero_of_square (a i) (a k) (one_le_square (a k) nonzero)
      (at_most_trans_ℤ (two_terms_le_sum m (λ i. a i *ℤ a i) i k li l ne (λ i _. nonneg_square (a i))) small),
)
  where
    one_of_square : (x : ℤ) → pos 0 ≤ℤ x → x ≢ pos 0 → (x *ℤ x) ≤ℤ pos 1 → x ≡ pos 1
    one_of_square (pos zero) p n h = absurd (n refl)
    one_of_square (pos (suc zero)) p n h = refl
    one_of_square (pos (suc (suc x))) p n h = absurd (omega (arith, ints))
    one_of_square (negsuc x) p n h = absurd (omega (arith, ints))

    zero_of_square : (x y : ℤ) → pos 1 ≤ℤ (y *ℤ y) → (x *ℤ x +ℤ y *ℤ y) ≤ℤ pos 1 → x ≡ pos 0
    zero_of_square (pos zero) y h k = refl
    zero_of_square (pos (suc x)) y h k = absurd (let w : pos 1 ≤ℤ (pos (suc x) *ℤ pos (suc x)) = omega (arith, ints) in omega (arith, linear))
    zero_of_square (negsuc x) y h k = absurd (let w : pos 1 ≤ℤ (negsuc x *ℤ negsuc x) = omega (arith, ints) in omega (arith, linear))

-- a value of b ≥ 1 in a cone that is closed at b is that of a generator
pub closed_equality : (n m : ℕ) (q : ℕ → ℕ → ℤ) (v : ℕ → ℕ → ℤ) (b : ℤ) (a : ℕ → ℤ)
    → IsSymmetric n q → pos 1 ≤ℤ b → IsClosed m (λ k l. bilinear n q (v k) (v l)) b → AreNonnegative m a → SomeNonzero m a
    → form n q (combination m a v) ≡ b → (k : ℕ) × IsUnit m a k
closed_equality n m q v b a s positive closed nonneg (k, below, nonzero) attained =
    let over = form_over_squares n m q v b a s closed nonneg in
    let value : form m (λ k l. bilinear n q (v k) (v l)) a ≡ b = sym (form-combination n m q a v) ∙ attained in
    let one : b *ℤ pos 1 ≡ b = simp expand in
    let small : sum_to m (λ i. a i *ℤ a i) ≤ℤ pos 1 = le_of_mul_le_left b _ (pos 1) positive (omega (arith, linear)) in
    (k, unit_of_squares m a nonneg small k below nonzero)

-- ---- the children of a cone
-- child 0 at i and j: the generator i becomes v_i + v_j
abbrev pub child_zero : (ℕ → ℕ → ℤ) → ℕ → ℕ → ℕ → ℕ → ℤ
child_zero v i j = replaced v i (λ p. v i p +ℤ v j p)

-- and the coefficients there
abbrev pub child_coefficients : (ℕ → ℤ) → ℕ → ℕ → ℕ → ℤ
child_coefficients a i j = replaced a j (a j -ℤ a i)

pub child_zero_covers : (m : ℕ) (v : ℕ → ℕ → ℤ) (a : ℕ → ℤ) (i j p : ℕ) → i < m → j < m → i ≢ j
    → combination m (child_coefficients a i j) (child_zero v i j) p ≡ combination m a v p
unfolding combination
child_zero_covers m v a i j p li lj ne =
    let f : ℕ → ℤ = λ (k : ℕ). child_coefficients a i j k *ℤ child_zero v i j k p in
    let g : ℕ → ℤ = λ (k : ℕ). a k *ℤ v k p in
    let at_i : f i ≡ a i *ℤ (v i p +ℤ v j p) =
    ap₂ (λ (x : ℤ) (y : ℕ → ℤ). x *ℤ y p) (replaced_other a j (a j -ℤ a i) i ne) (replaced_here v i (λ p. v i p +ℤ v j p) i refl) in
    let at_j : f j ≡ (a j -ℤ a i) *ℤ v j p =
    ap₂ (λ (x : ℤ) (y : ℕ → ℤ). x *ℤ y p) (replaced_here a j (a j -ℤ a i) j refl) (replaced_other v i (λ p. v i p +ℤ v j p) j (λ e. ne (sym e))) in
    sum_to_but_two m f g i j li lj ne
    (λ k lk ni nj. ap₂ (λ (x : ℤ) (y : ℕ → ℤ). x *ℤ y p) (replaced_other a j (a j -ℤ a i) k nj) (replaced_other v i (λ p. v i p +ℤ v j p) k ni))
    (rw (at_i, at_j) (tidy (a i) (a j) (v i p) (v j p)))
  where
    tidy : (x y u w : ℤ) → x *ℤ (u +ℤ w) +ℤ (y -ℤ x) *ℤ w ≡ x *ℤ u +ℤ y *ℤ w
    tidy x y u w = simp expand (omega (arith, linear))

pub child_coefficients_nonnegative : (m : ℕ) (a : ℕ → ℤ) (i j : ℕ) → AreNonnegative m a → a i ≤ℤ a j → AreNonnegative m (child_coefficients a i j)
child_coefficients_nonnegative m a i j nonneg le k l = by (same_or_not k j)
  where
    by : ((k ≡ j) ⊎ (k ≢ j)) → pos 0 ≤ℤ child_coefficients a i j k
    by (inl e) = rw (replaced_here a j (a j -ℤ a i) k e) (omega (arith, linear))
    by (inr ne) = rw (replaced_other a j (a j -ℤ a i) k ne) (nonneg k l)
