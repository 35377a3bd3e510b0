-- Which combinations lie in a cone, in its children, and in the cones below it.
use Rattle.std.specs.Prelude.{◌≡◌, ◌≢◌, ℕ, ◌<◌, ℤ, pos, ◌+ℤ◌, ◌*ℤ◌, ◌-ℤ◌, ◌≤ℤ◌, cond, eqb, Bool, true, false, ◌⊎◌, Option, Some, None, [], ◌∷◌, ◌++◌}
use Rattle.std.proofs.Common.{arith, sym, ◌∙◌, ap, ap₂, refl, inl, inr}
use Rattle.std.proofs.lemmas.Int.{ints}
use Rattle.exact_forms.specs.Sums.{sum_to}
use Rattle.exact_forms.specs.Forms.{form, combination, IsSymmetric}
use Rattle.exact_forms.specs.Slacks.{replaced, shortfall, slack, IsClosed, AreNonnegative}
use Rattle.commutative_ring.proofs.Laws.{one_mul_ℤ, zero_mul_ℤ, mul_zero_ℤ}
use Rattle.commutative_ring.proofs.Expand.{linear, times_one}
use Rattle.commutative_ring.proofs.SmallCases.{apart_ways, same_or_not}
use Rattle.exact_forms.proofs.Sums.{sum_to_same, sum_to_one, sum_to_none}
use Rattle.exact_forms.proofs.Forms.{form_same, bilinear_symmetric}
use Rattle.exact_forms.proofs.Slacks.{replaced_here, replaced_other, closed_bound, closed_at_zero, closed_equality, some_nonzero, child_zero_covers}
use Rattle.exact_forms.proofs.Slacks.{child_coefficients_nonnegative, IsUnit, shortfall_of_nonneg, SomeNonzero}
use Rattle.unimodular_cone.proofs.Pairs.{pair_of_some, pair_of_none}
use Rattle.unimodular_cone.specs.Paths.{Path}
pub use Rattle.unimodular_cone.specs.Theorems.{IsNonzeroBelow}
use Rattle.unimodular_cone.specs.Cones.{Matrix, Generators, gram, value, child, child_at, next_cone, cone_from, pair_of, unit_vectors, IsPair, LiesIn}

pub total_ℤ : (x y : ℤ) → (x ≤ℤ y) ⊎ (y ≤ℤ x)
total_ℤ x y = grind (arith, ints)

-- the form looks at the places below n alone
pub value_same : (n : ℕ) (q : Matrix) (x y : ℕ → ℤ) → ((p : ℕ) → p < n → x p ≡ y p) → form n q x ≡ form n q y
value_same n q x y e = form_same n q q x y (λ i j li lj. refl) e

-- ---- a cone and its children
pub lies_in_first : (n : ℕ) (v : Generators) (x : ℕ → ℤ) (i j : ℕ) → i < n → j < n → i ≢ j → (l : LiesIn n v x) → l.coefficients i ≤ℤ l.coefficients j
    → LiesIn n (child v i j) x
lies_in_first n v x i j li lj ne l le = record {
  coefficients = replaced l.coefficients j (l.coefficients j -ℤ l.coefficients i);
  nonnegative = child_coefficients_nonnegative n l.coefficients i j l.nonnegative le;
  same = λ p lp. child_zero_covers n v l.coefficients i j p li lj ne ∙ l.same p lp;
}

pub combination_lies_in_first : (n : ℕ) (v : Generators) (a : ℕ → ℤ) (i j : ℕ) → i < n → j < n → i ≢ j → AreNonnegative n a → a i ≤ℤ a j
    → LiesIn n (child v i j) (combination n a v)
combination_lies_in_first n v a i j li lj ne nonneg le =
    lies_in_first n v (combination n a v) i j li lj ne (record { coefficients = a; nonnegative = nonneg; same = λ p lp. refl }) le

pub one_is_positive : (b : ℤ) → pos 1 ≤ℤ b → pos 0 ≤ℤ b
one_is_positive b h = omega (arith, ints)

pub lies_in_some_child : (n : ℕ) (v : Generators) (x : ℕ → ℤ) (i j : ℕ) → i < n → j < n → i ≢ j → LiesIn n v x
    → LiesIn n (child v i j) x ⊎ LiesIn n (child v j i) x
lies_in_some_child n v x i j li lj ne l = by (total_ℤ (l.coefficients i) (l.coefficients j))
  where
    by : ((l.coefficients i ≤ℤ l.coefficients j) ⊎ (l.coefficients j ≤ℤ l.coefficients i)) → LiesIn n (child v i j) x ⊎ LiesIn n (child v j i) x
    by (inl le) = inl (lies_in_first n v x i j li lj ne l le)
    by (inr le) = inr (lies_in_first n v x j i lj li (λ e. ne (sym e)) l le)

pub lies_in_parent : (n : ℕ) (v : Generators) (x : ℕ → ℤ) (i j : ℕ) → i < n → j < n → i ≢ j → LiesIn n (child v i j) x → LiesIn n v x
unfolding sum_to combination
lies_in_parent n v x i j li lj ne l = record {
  coefficients = up;
  nonnegative = λ k lk. up_nonnegative k lk (same_or_not k j);
  same = λ p lp.
      sym (child_zero_covers n v up i j p li lj ne)
      ∙ sum_to_same n _ _ (λ k lk. ap (λ (w : ℤ). w *ℤ child v i j k p) (back k (same_or_not k j)))
      ∙ l.same p lp;
}
  where
    a : ℕ → ℤ
    a = l.coefficients

    up : ℕ → ℤ
    up = replaced l.coefficients j (l.coefficients j +ℤ l.coefficients i)

    up_nonnegative : (k : ℕ) → k < n → ((k ≡ j) ⊎ (k ≢ j)) → pos 0 ≤ℤ up k
    up_nonnegative k lk (inl e) =
        rw (replaced_here a j (a j +ℤ a i) k e) (let u : pos 0 ≤ℤ a i = l.nonnegative i li in let w : pos 0 ≤ℤ a j = l.nonnegative j lj in
        omega (arith, linear))
    up_nonnegative k lk (inr nk) = rw (replaced_other a j (a j +ℤ a i) k nk) (l.nonnegative k lk)

    back : (k : ℕ) → ((k ≡ j) ⊎ (k ≢ j)) → replaced up j (up j -ℤ up i) k ≡ a k
    back k (inl e) = replaced_here up j (up j -ℤ up i) k e
        ∙ ap₂ (λ (u : ℤ) (w : ℤ). u -ℤ w) (replaced_here a j (a j +ℤ a i) j refl) (replaced_other a j (a j +ℤ a i) i ne) ∙ less (a j) (a i) ∙ ap a (sym e)
      where
        less : (u w : ℤ) → (u +ℤ w) -ℤ w ≡ u
        less u w = omega (arith, ints)
    back k (inr nk) = replaced_other up j (up j -ℤ up i) k nk ∙ replaced_other a j (a j +ℤ a i) k nk

-- ---- generators
pub combination_unit : (n : ℕ) (a : ℕ → ℤ) (v : Generators) (k p : ℕ) → IsUnit n a k → combination n a v p ≡ v k p
unfolding sum_to combination
combination_unit n a v k p (l, one, others) =
    sum_to_one n (λ i. a i *ℤ v i p) k l (λ i li ne. ap (λ (w : ℤ). w *ℤ v i p) (others i li ne) ∙ zero_mul_ℤ (v i p))
    ∙ ap (λ (w : ℤ). w *ℤ v k p) one
    ∙ one_mul_ℤ (v k p)

abbrev unit_at : ℕ → ℕ → ℤ
unit_at k = replaced (λ i. pos 0) k (pos 1)

unit_is : (n k : ℕ) → k < n → IsUnit n (unit_at k) k
unit_is n k l = (l, replaced_here (λ i. pos 0) k (pos 1) k refl, λ i li ne. replaced_other (λ i. pos 0) k (pos 1) i ne)

pub generator_lies : (n : ℕ) (v : Generators) (k : ℕ) → k < n → LiesIn n v (v k)
generator_lies n v k l = record {
  coefficients = unit_at k;
  nonnegative = λ i li. by i (same_or_not i k);
  same = λ p lp. combination_unit n (unit_at k) v k p (unit_is n k l);
}
  where
    by : (i : ℕ) → ((i ≡ k) ⊎ (i ≢ k)) → pos 0 ≤ℤ unit_at k i
    by i (inl e) = rw (replaced_here (λ i. pos 0) k (pos 1) i e) (omega (arith, ints))
    by i (inr ne) = rw (replaced_other (λ i. pos 0) k (pos 1) i ne) (omega (arith, ints))

unit_vector_is : (i p : ℕ) → ((i ≡ p) ⊎ (i ≢ p)) → ((i ≡ p) × (unit_vectors i p ≡ pos 1)) ⊎ ((i ≢ p) × (unit_vectors i p ≡ pos 0))
unit_vector_is i p (inl e) = inl (e, replaced_here (λ i. pos 0) p (pos 1) i e)
unit_vector_is i p (inr ne) = inr (ne, replaced_other (λ i. pos 0) p (pos 1) i ne)

pub root_has : (n : ℕ) (x : ℕ → ℤ) → AreNonnegative n x → LiesIn n unit_vectors x
unfolding sum_to combination
root_has n x nonneg = record { coefficients = x; nonnegative = nonneg; same = same }
  where
    same : (p : ℕ) → p < n → combination n x unit_vectors p ≡ x p
    same p lp =
        sum_to_one n (λ i. x i *ℤ unit_vectors i p) p lp (λ i li ne. ap (λ (w : ℤ). x i *ℤ w) (replaced_other (λ i. pos 0) p (pos 1) i ne) ∙ mul_zero_ℤ (x i))
        ∙ ap (λ (w : ℤ). x p *ℤ w) (replaced_here (λ i. pos 0) p (pos 1) p refl)
        ∙ times_one (x p)

-- ---- values in a closed cone
nonzero_coefficients : (n : ℕ) (v : Generators) (x : ℕ → ℤ) (l : LiesIn n v x) → IsNonzeroBelow n x → SomeNonzero n l.coefficients
nonzero_coefficients n v x l (p, lp, ne) = some_nonzero n l.coefficients v p (λ e. ne (sym (l.same p lp) ∙ e))

pub closed_at_least : (n : ℕ) (q : Matrix) (v : Generators) (b : ℤ) (x : ℕ → ℤ)
    → IsSymmetric n q → pos 0 ≤ℤ b → IsClosed n (gram n q v) b → LiesIn n v x → IsNonzeroBelow n x → b ≤ℤ form n q x
closed_at_least n q v b x s nonneg closed l nonzero =
    rw (sym (value_same n q _ _ l.same)) (closed_bound n n q v b l.coefficients s nonneg closed l.nonnegative (nonzero_coefficients n v x l nonzero))

pub closed_nonnegative : (n : ℕ) (q : Matrix) (v : Generators) (x : ℕ → ℤ)
    → IsSymmetric n q → IsClosed n (gram n q v) (pos 0) → LiesIn n v x → pos 0 ≤ℤ form n q x
closed_nonnegative n q v x s closed l =
    rw (sym (value_same n q _ _ l.same)) (closed_at_zero n n q v l.coefficients s closed l.nonnegative)

pub closed_attains : (n : ℕ) (q : Matrix) (v : Generators) (b : ℤ) (x : ℕ → ℤ)
    → IsSymmetric n q → pos 1 ≤ℤ b → IsClosed n (gram n q v) b → LiesIn n v x → IsNonzeroBelow n x → form n q x ≡ b
    → (k : ℕ) × (k < n) × ((p : ℕ) → p < n → x p ≡ v k p)
closed_attains n q v b x s positive closed l nonzero attained =
    let r : (k : ℕ) × IsUnit n l.coefficients k =
    closed_equality n n q v b l.coefficients s positive closed l.nonnegative (nonzero_coefficients n v x l nonzero) (value_same n q _ _ l.same ∙ attained) in
    (r.0, r.1.0, λ p lp. sym (l.same p lp) ∙ combination_unit n l.coefficients v r.0 p r.1)

-- a cone with no negative entry beside the diagonal is closed at each bound of its values
pub closed_without_pair : (n : ℕ) (q : Matrix) (v : Generators) (b : ℤ) → IsSymmetric n q → pair_of n (gram n q v) ≡ None
    → ((k : ℕ) → k < n → b ≤ℤ value n q v k) → IsClosed n (gram n q v) b
unfolding slack
closed_without_pair n q v b s none least i li =
    let g : Matrix = gram n q v in
    let rest : sum_to n (λ j. cond (eqb j i) (pos 0) (shortfall (g i j))) ≡ pos 0 = sum_to_none n _ (λ j lj. by j lj (same_or_not j i)) in
    let d : b ≤ℤ g i i = least i li in
    omega (arith, linear)
  where
    off : (j : ℕ) → j < n → j ≢ i → pos 0 ≤ℤ gram n q v i j
    off j lj ne = side (apart_ways i j (λ e. ne (sym e)))
      where
        side : ((i < j) ⊎ (j < i)) → pos 0 ≤ℤ gram n q v i j
        side (inl lt) = pair_of_none n (gram n q v) none i j lt lj
        side (inr lt) = rw (bilinear_symmetric n q (v i) (v j) s) (pair_of_none n (gram n q v) none j i lt li)

    by : (j : ℕ) → j < n → ((j ≡ i) ⊎ (j ≢ i)) → cond (eqb j i) (pos 0) (shortfall (gram n q v i j)) ≡ pos 0
    by j lj (inl e) = replaced_here (λ k. shortfall (gram n q v i k)) i (pos 0) j e
    by j lj (inr ne) = replaced_other (λ k. shortfall (gram n q v i k)) i (pos 0) j ne ∙ shortfall_of_nonneg _ (off j lj ne)

-- ---- paths
pub cone_from-append : (n : ℕ) (q : Matrix) (v : Generators) (a b : Path) → cone_from n q v (a ++ b) ≡ cone_from n q (cone_from n q v a) b
unfolding cone_from
cone_from-append n q v [] b = refl
cone_from-append n q v (side ∷ a) b = cone_from-append n q (next_cone n q v side) a b

pub row_range : {n : ℕ} {g : Matrix} {i j : ℕ} → IsPair n g i j → i < n
row_range r = omega arith

pub apart : {n : ℕ} {g : Matrix} {i j : ℕ} → IsPair n g i j → i ≢ j
apart r = omega arith

pub lies_in_next : (n : ℕ) (q : Matrix) (v : Generators) (side : Bool) (x : ℕ → ℤ) → LiesIn n (next_cone n q v side) x → LiesIn n v x
lies_in_next n q v side x l = by (pair_of n (gram n q v)) refl side l
  where
    by : (o : Option (ℕ × ℕ)) → pair_of n (gram n q v) ≡ o → (side : Bool) → LiesIn n (child_at o v side) x → LiesIn n v x
    by None e side l = l
    by (Some (i, j)) e false l = let r : IsPair n (gram n q v) i j = pair_of_some n (gram n q v) i j e in
        lies_in_parent n v x i j (row_range r) r.range (apart r) l
    by (Some (i, j)) e true l = let r : IsPair n (gram n q v) i j = pair_of_some n (gram n q v) i j e in
        lies_in_parent n v x j i r.range (row_range r) (λ e. apart r (sym e)) l

pub lies_above : (n : ℕ) (q : Matrix) (v : Generators) (path : Path) (x : ℕ → ℤ) → LiesIn n (cone_from n q v path) x → LiesIn n v x
unfolding cone_from
lies_above n q v [] x l = l
lies_above n q v (side ∷ path) x l = lies_in_next n q v side x (lies_above n q (next_cone n q v side) path x l)
