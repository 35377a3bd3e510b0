-- The sum of the basic columns in the last column.
use Rattle.std.specs.Prelude.{◌≡◌, ◌≢◌, ℕ, ◌+◌, ◌<◌, ◌⊎◌, pos, Bool, true, false, nat_eq, if◌then◌else◌}
use Rattle.std.proofs.Common.{arith, sym, ◌∙◌, ap, inl, inr}
use Rattle.commutative_ring.proofs.SmallCases.{true_or_false}
use Rattle.exact_forms.specs.Rational.{Rational, whole, ◌*ℚ◌}
use Rattle.exact_forms.specs.Sums.{sum_ℚ}
use Rattle.exact_forms.proofs.Rational.{zero_mul_ℚ}
use Rattle.exact_forms.proofs.RationalSums.{sum_ℚ_same, sum_ℚ_none, sum_ℚ_one, sum_ℚ_swap, sum_ℚ-mul}
use Rattle.exact_forms.specs.Coordinates.{Columns, IsCoordinates, IsBasis, IsShown, mark}
use Rattle.exact_forms.proofs.Coordinates.{mark_off, sum_marked}
use Rattle.exact_forms.proofs.Slacks.{replaced_here}
use Rattle.exact_linear.specs.Tables.{Table, rows_of, table_entry, basic_at}
use Rattle.exact_linear.specs.Columns.{with_sum, with_sum_of, HasCoordinates, IsLastFree}
use Rattle.exact_linear.proofs.Fill.{cells_at}

at_last : (j w : ℕ) → j + 1 ≡ w → nat_eq (j + 1) w ≡ true
at_last j w e = grind arith

not_last : (j w : ℕ) → j + 1 ≢ w → nat_eq (j + 1) w ≡ false
not_last j w n = grind arith

last_or_not : (j w : ℕ) → (j + 1 ≡ w) ⊎ (j + 1 ≢ w)
last_or_not j w = grind arith

module _ (A : Columns) (t : Table) (H : HasCoordinates A t) (F : IsLastFree t) where
  -- how often k is a basic column: 1 in the basis, else 0
  abbrev times : ℕ → Rational
  times k = sum_ℚ (rows_of t) (λ i. mark (basic_at t i) k)

  times_one : (k : ℕ) → k < A.count → H.basis k ≡ true → times k ≡ whole (pos 1)
  times_one k lk b =
      let e = H.shown.every k lk b in
      sum_ℚ_one (rows_of t) (λ i. mark (basic_at t i) k) e.0 e.1
      (λ i li ne. mark_off A (basic_at t i) k (λ (s : k ≡ basic_at t i). H.shown.apart i e.0 li e.1 ne (sym s ∙ sym e.2)))
      ∙ replaced_here (λ k. whole (pos 0)) (basic_at t e.0) (whole (pos 1)) k (sym e.2)

  times_none : (k : ℕ) → H.basis k ≡ false → times k ≡ whole (pos 0)
  times_none k b =
      sum_ℚ_none (rows_of t) _
      (λ i li. mark_off A (basic_at t i) k (λ (s : k ≡ basic_at t i). absurd (let u = H.shown.in_basis i li in
      let v : H.basis k ≡ H.basis (basic_at t i) = ap H.basis s in cc)))

  abbrev pub summed_coord : ℕ → ℕ → Rational
  summed_coord j k = if nat_eq (j + 1) A.count then times k else H.coord j k

  coord_last : (j k : ℕ) → j + 1 ≡ A.count → summed_coord j k ≡ times k
  coord_last j k e = ap (λ (b : Bool). if b then times k else H.coord j k) (at_last j A.count e)

  pub coord_other : (j k : ℕ) → j + 1 ≢ A.count → summed_coord j k ≡ H.coord j k
  coord_other j k n = ap (λ (b : Bool). if b then times k else H.coord j k) (not_last j A.count n)

  abbrev pub summed : Columns
  summed = with_sum_of A t

  entry_last : (j a b : ℕ) → j + 1 ≡ A.count → summed.entry j a b ≡ sum_ℚ (rows_of t) (λ i. A.entry (basic_at t i) a b)
  entry_last j a b e = ap (λ (x : Bool). if x then sum_ℚ (rows_of t) (λ i. A.entry (basic_at t i) a b) else A.entry j a b) (at_last j A.count e)

  pub entry_other : (j a b : ℕ) → j + 1 ≢ A.count → summed.entry j a b ≡ A.entry j a b
  entry_other j a b n = ap (λ (x : Bool). if x then sum_ℚ (rows_of t) (λ i. A.entry (basic_at t i) a b) else A.entry j a b) (not_last j A.count n)

  -- the last column is not in the basis
  last_out : (k : ℕ) → k < A.count → k + 1 ≡ A.count → H.basis k ≡ false
  last_out k lk e = by (true_or_false (H.basis k))
    where
      by : ((H.basis k ≡ true) ⊎ (H.basis k ≡ false)) → H.basis k ≡ false
      by (inr f) = f
      by (inl b) = let s = H.shown.every k lk b in absurd (F.free s.0 s.1 (let w = H.width in let x = s.2 in omega arith))

  -- combinations over the basis are the same
  same_sum : (c : ℕ → Rational) → ((k : ℕ) → k < A.count → H.basis k ≡ false → c k ≡ whole (pos 0)) → (a b : ℕ)
      → sum_ℚ A.count (λ k. c k *ℚ summed.entry k a b) ≡ sum_ℚ A.count (λ k. c k *ℚ A.entry k a b)
  same_sum c off a b = sum_ℚ_same A.count _ _ (λ k lk. by k lk (last_or_not k A.count))
    where
      by : (k : ℕ) → k < A.count → ((k + 1 ≡ A.count) ⊎ (k + 1 ≢ A.count)) → c k *ℚ summed.entry k a b ≡ c k *ℚ A.entry k a b
      by k lk (inl e) = let z = off k lk (last_out k lk e) in ap (λ w. w *ℚ summed.entry k a b) z ∙ zero_mul_ℚ (summed.entry k a b)
          ∙ sym (ap (λ w. w *ℚ A.entry k a b) z ∙ zero_mul_ℚ (A.entry k a b))
      by k lk (inr n) = ap (λ w. c k *ℚ w) (entry_other k a b n)

  sum_is : (a b : ℕ) → sum_ℚ A.count (λ k. times k *ℚ A.entry k a b) ≡ sum_ℚ (rows_of t) (λ i. A.entry (basic_at t i) a b)
  sum_is a b =
      sum_ℚ_same A.count _ _ (λ k lk. sum_ℚ-mul (A.entry k a b) (rows_of t) (λ i. mark (basic_at t i) k))
      ∙ sum_ℚ_swap A.count (rows_of t) (λ k i. mark (basic_at t i) k *ℚ A.entry k a b)
      ∙ sum_ℚ_same (rows_of t) _ _ (λ i li. sum_marked A.count (λ k. A.entry k a b) (basic_at t i) (H.shown.within i li))

  pub summed_basis : IsBasis summed H.basis summed_coord
  summed_basis = record {
    independent =
        record {
          only_zero = λ c h k lk. H.is_basis.independent.only_zero c record {
            outside = h.outside;
            sum = λ a b la lb. sym (same_sum c h.outside a b)
                ∙ h.sum a b la lb;
          } k lk;
        };
    written = λ j lj. by j lj (last_or_not j A.count);
  }
    where
      by : (j : ℕ) → j < A.count → ((j + 1 ≡ A.count) ⊎ (j + 1 ≢ A.count)) → IsCoordinates summed H.basis (summed_coord j) (summed.entry j)
      by j lj (inl e) = record {
        outside = λ k lk b. coord_last j k e ∙ times_none k b;
        sum = λ a b la lb.
            same_sum (summed_coord j) (λ k lk o. coord_last j k e ∙ times_none k o) a b
            ∙ sum_ℚ_same A.count _ _ (λ k lk. ap (λ w. w *ℚ A.entry k a b) (coord_last j k e))
            ∙ sum_is a b
            ∙ sym (entry_last j a b e);
      }
      by j lj (inr n) =
          let w = H.is_basis.written j lj in
          record {
            outside = λ k lk b. coord_other j k n ∙ w.outside k lk b;
            sum = λ a b la lb.
                same_sum (summed_coord j) (λ k lk o. coord_other j k n ∙ w.outside k lk o) a b
                ∙ sum_ℚ_same A.count _ _ (λ k lk. ap (λ v. v *ℚ A.entry k a b) (coord_other j k n))
                ∙ w.sum a b la lb
                ∙ sym (entry_other j a b n);
          }

  pub summed_shown : IsShown summed H.basis summed_coord (rows_of (with_sum t)) (table_entry (with_sum t)) (basic_at (with_sum t))
  summed_shown = record {
    entry = λ i j li lj. cell i j li lj ∙ by i j li lj (last_or_not j t.width);
    within = λ i li. H.shown.within i li;
    in_basis = λ i li. H.shown.in_basis i li;
    every = λ k lk b. H.shown.every k lk b;
    apart = λ i j li lj ne s. H.shown.apart i j li lj ne s;
  }
    where
      cell : (i j : ℕ) → i < rows_of t → j < A.count → table_entry (with_sum t) i j ≡ (if nat_eq (j + 1) t.width then whole (pos 1) else table_entry t i j)
      cell i j li lj =
          cells_at (rows_of t) t.width (λ i j. if nat_eq (j + 1) t.width then whole (pos 1) else table_entry t i j) i j li (let w = H.width in omega arith)

      by : (i j : ℕ) → i < rows_of t → j < A.count → ((j + 1 ≡ t.width) ⊎ (j + 1 ≢ t.width))
          → (if nat_eq (j + 1) t.width then whole (pos 1) else table_entry t i j) ≡ summed_coord j (basic_at t i)
      by i j li lj (inl e) =
          ap (λ (b : Bool). if b then whole (pos 1) else table_entry t i j) (at_last j t.width e)
          ∙ sym (coord_last j (basic_at t i) (e ∙ sym H.width) ∙ times_one (basic_at t i) (H.shown.within i li) (H.shown.in_basis i li))
      by i j li lj (inr n) =
          ap (λ (b : Bool). if b then whole (pos 1) else table_entry t i j) (not_last j t.width n)
          ∙ H.shown.entry i j li lj
          ∙ sym (coord_other j (basic_at t i) (λ e. n (e ∙ H.width)))

  pub summed_coordinates : HasCoordinates (with_sum_of A t) (with_sum t)
  summed_coordinates = record { basis = H.basis; coord = summed_coord; width = H.width; is_basis = summed_basis; shown = summed_shown }
