-- Sums over the start runs, in any commutative ring: the weights of a matrix give it back.
use Rattle.std.specs.Prelude.{◌≡◌, ℕ, zero, suc, ◌+◌, ◌-◌, ◌<◌, ◌≤◌, ◌⊎◌, pos, ◌*ℤ◌, List, [], ◌∷◌, ◌++◌, length, slice_index_or}
use Rattle.std.proofs.Common.{arith, sym, ◌∙◌, ap, ap₂, refl, inl, inr}
use Rattle.commutative_ring.proofs.Ring.{CommutativeRing, ring_in, num, ◌⊕◌, ◌⊗◌, ◌⊖◌, v0, v1, v2, v3}
use Rattle.commutative_ring.proofs.SumOf.{total, total-zero, total-suc, total_none, total_head}
use Rattle.commutative_ring.proofs.SmallCases.{next_or_within, at_least_or_at_most}
use Rattle.symmetric_matrix.specs.StartVectors.{Run, run_digit, runs_from, late_runs}
use Rattle.symmetric_matrix.specs.StartWeights.{framed}
use Rattle.symmetric_matrix.proofs.Runs.{run_digit_inside, run_digit_before, run_digit_after, runs_from_none, runs_from_more, late_runs_none, late_runs_more}
use Rattle.symmetric_matrix.proofs.Frames.{framed_inside, framed_above, framed_beyond}

module _ {A : Type 0} (R : CommutativeRing A) where
  abbrev pub minus : A → A → A
  minus x y = R.add x (R.neg y)

  pub minus_same : (x : A) → minus x x ≡ R.of_int (pos 0)
  minus_same x = ring_in R (x ∷ []) (v0 ⊖ v0) (num (pos 0)) refl

  -- ---- sums over a list
  unfoldable pub list_sum : {X : Type 0} → (X → A) → List X → A
  list_sum f [] = R.of_int (pos 0)
  list_sum f (x ∷ xs) = R.add (f x) (list_sum f xs)

  pub list_sum-append : {X : Type 0} (f : X → A) (xs ys : List X) → list_sum f (xs ++ ys) ≡ R.add (list_sum f xs) (list_sum f ys)
  unfolding list_sum
  list_sum-append f [] ys = sym (R.zero_add (list_sum f ys))
  list_sum-append f (x ∷ xs) ys = ap (λ w. R.add (f x) w) (list_sum-append f xs ys) ∙ sym (R.add_assoc (f x) (list_sum f xs) (list_sum f ys))

  pub list_sum_one : {X : Type 0} (f : X → A) (x : X) → list_sum f (x ∷ []) ≡ f x
  unfolding list_sum
  list_sum_one f x = ring_in R (f x ∷ []) (v0 ⊕ num (pos 0)) v0 refl

  pub list_sum_none : {X : Type 0} (f : X → A) → list_sum f [] ≡ R.of_int (pos 0)
  unfolding list_sum
  list_sum_none f = refl

  -- the sum by index
  pub total_of_list : {X : Type 0} (f : X → A) (xs : List X) (d : X) → total R (length xs) (λ k. f (slice_index_or xs k d)) ≡ list_sum f xs
  unfolding list_sum
  total_of_list f [] d = total-zero R (λ k. f (slice_index_or [] k d))
  total_of_list f (x ∷ xs) d = total_head R (length xs) (λ k. f (slice_index_or (x ∷ xs) k d)) ∙ ap (λ w. R.add (f x) w) (total_of_list f xs d)

  -- ---- sums over runs
  pub sum_of_row : (f : Run → A) (j m : ℕ) → list_sum f (runs_from j m) ≡ total R m (λ d. f (record { first = j; last = j + d }))
  sum_of_row f j zero = ap (list_sum f) (runs_from_none j) ∙ list_sum_none f ∙ sym (total-zero R (λ d. f (record { first = j; last = j + d })))
  sum_of_row f j (suc m) =
      let e : m + 1 ≡ suc m = omega arith in
      ap (λ (k : ℕ). list_sum f (runs_from j k)) (sym e) ∙ ap (list_sum f) (runs_from_more j m)
      ∙ list_sum-append f (runs_from j m) (record { first = j; last = j + m } ∷ [])
      ∙ ap₂ R.add (sum_of_row f j m) (list_sum_one f (record { first = j; last = j + m }))
      ∙ sym (total-suc R m (λ d. f (record { first = j; last = j + d })))

  abbrev pub row_total : (Run → A) → ℕ → ℕ → A
  row_total f n k = total R (k + 1) (λ d. f (record { first = n - (k + 1); last = n - (k + 1) + d }))

  pub sum_of_late : (f : Run → A) (n m : ℕ) → list_sum f (late_runs n m) ≡ total R m (λ k. row_total f n k)
  sum_of_late f n zero = ap (list_sum f) (late_runs_none n) ∙ list_sum_none f ∙ sym (total-zero R (λ k. row_total f n k))
  sum_of_late f n (suc m) =
      let e : m + 1 ≡ suc m = omega arith in
      ap (λ (k : ℕ). list_sum f (late_runs n k)) (sym e) ∙ ap (list_sum f) (late_runs_more n m)
      ∙ list_sum-append f (late_runs n m) (runs_from (n - (m + 1)) (m + 1))
      ∙ ap₂ R.add (sum_of_late f n m) (sum_of_row f (n - (m + 1)) (m + 1))
      ∙ sym (total-suc R m (λ k. row_total f n k))

  -- ---- the weights of a matrix
  abbrev pub edged : ℕ → (ℕ → ℕ → A) → ℕ → ℕ → A
  edged n a i j = framed (R.of_int (pos 0)) n a i j

  unfoldable pub weight_in : ℕ → (ℕ → ℕ → A) → Run → A
  weight_in n a r =
      R.add (minus (minus (edged n a (r.first + 1) (r.last + 1)) (edged n a r.first (r.last + 1))) (edged n a (r.first + 1) (r.last + 2)))
      (edged n a r.first (r.last + 2))

  -- the entry at (i,l) of the matrix of a run's vector
  abbrev pub mark_of : ℕ → ℕ → Run → A
  mark_of i l r = R.of_int (pos (run_digit r i) *ℤ pos (run_digit r l))

  pub mark_none_left : (i l : ℕ) (r : Run) → run_digit r i ≡ 0 → mark_of i l r ≡ R.of_int (pos 0)
  mark_none_left i l r h = ap (λ (d : ℕ). R.of_int (pos d *ℤ pos (run_digit r l))) h ∙ R.of_int_mul (pos 0) (pos (run_digit r l))
      ∙ R.zero_mul (R.of_int (pos (run_digit r l)))

  pub mark_none_right : (i l : ℕ) (r : Run) → run_digit r l ≡ 0 → mark_of i l r ≡ R.of_int (pos 0)
  mark_none_right i l r h =
      ap (λ (d : ℕ). R.of_int (pos (run_digit r i) *ℤ pos d)) h ∙ R.of_int_mul (pos (run_digit r i)) (pos 0)
      ∙ ring_in R (R.of_int (pos (run_digit r i)) ∷ []) (v0 ⊗ num (pos 0)) (num (pos 0)) refl

  pub mark_one : (i l : ℕ) (r : Run) → run_digit r i ≡ 1 → run_digit r l ≡ 1 → mark_of i l r ≡ R.of_int (pos 1)
  mark_one i l r h k = ap₂ (λ (d : ℕ) (e : ℕ). R.of_int (pos d *ℤ pos e)) h k

  abbrev pub share : ℕ → (ℕ → ℕ → A) → ℕ → ℕ → Run → A
  share n a i l r = R.mul (weight_in n a r) (mark_of i l r)

  pub share_none : (n : ℕ) (a : ℕ → ℕ → A) (i l : ℕ) (r : Run) → mark_of i l r ≡ R.of_int (pos 0) → share n a i l r ≡ R.of_int (pos 0)
  share_none n a i l r h = ap (λ w. R.mul (weight_in n a r) w) h ∙ ring_in R (weight_in n a r ∷ []) (v0 ⊗ num (pos 0)) (num (pos 0)) refl

  pub share_whole : (n : ℕ) (a : ℕ → ℕ → A) (i l : ℕ) (r : Run) → mark_of i l r ≡ R.of_int (pos 1) → share n a i l r ≡ weight_in n a r
  share_whole n a i l r h = ap (λ w. R.mul (weight_in n a r) w) h ∙ ring_in R (weight_in n a r ∷ []) (v0 ⊗ num (pos 1)) v0 refl

  -- how much row j + 1 is over row j, in column k, counted from 1
  abbrev pub rise : ℕ → (ℕ → ℕ → A) → ℕ → ℕ → A
  rise n a j k = minus (edged n a (j + 1) (k + 1)) (edged n a j (k + 1))

  weight_as_rises : (n : ℕ) (a : ℕ → ℕ → A) (j k : ℕ) → weight_in n a (record { first = j; last = k }) ≡ minus (rise n a j k) (rise n a j (k + 1))
  unfolding weight_in
  weight_as_rises n a j k =
      let e : k + 2 ≡ k + 1 + 1 = omega arith in
      ring_in R (edged n a (j + 1) (k + 1) ∷ edged n a j (k + 1) ∷ edged n a (j + 1) (k + 2) ∷ edged n a j (k + 2) ∷ [])
      (((v0 ⊖ v1) ⊖ v2) ⊕ v3) ((v0 ⊖ v1) ⊖ (v2 ⊖ v3)) refl
      ∙ ap (λ (c : ℕ). minus (rise n a j k) (minus (edged n a (j + 1) c) (edged n a j c))) e

  -- the runs that begin at j, up to a length
  row_none : (n : ℕ) (a : ℕ → ℕ → A) (i l j m : ℕ) → j + m ≤ l → total R m (λ d. share n a i l (record { first = j; last = j + d })) ≡ R.of_int (pos 0)
  row_none n a i l j m h =
      total_none R m _ (λ d b. share_none n a i l (record { first = j; last = j + d })
      (mark_none_right i l (record { first = j; last = j + d }) (run_digit_after (record { first = j; last = j + d }) l (omega arith))))

  row_some : (n : ℕ) (a : ℕ → ℕ → A) (i l j m : ℕ) → j ≤ i → i ≤ l → l ≤ j + m
      → total R m (λ d. share n a i l (record { first = j; last = j + d })) ≡ minus (rise n a j l) (rise n a j (j + m))
  row_some n a i l j zero hj hi hl =
      let e : l ≡ j + 0 = omega arith in
      total-zero R _ ∙ sym (minus_same (rise n a j l)) ∙ ap (λ (k : ℕ). minus (rise n a j l) (rise n a j k)) e
  row_some n a i l j (suc m) hj hi hl = by (next_or_within l (j + m) (omega arith)) (row_some n a i l j m hj hi)
    where
      by : ((l ≡ suc (j + m)) ⊎ (l ≤ j + m))
          → (l ≤ j + m → total R m (λ d. share n a i l (record { first = j; last = j + d })) ≡ minus (rise n a j l) (rise n a j (j + m)))
          → total R (suc m) (λ d. share n a i l (record { first = j; last = j + d })) ≡ minus (rise n a j l) (rise n a j (j + suc m))
      by (inl e) before =
          let f : l ≡ j + suc m = omega arith in
          row_none n a i l j (suc m) (omega arith) ∙ sym (minus_same (rise n a j l)) ∙ ap (λ (k : ℕ). minus (rise n a j l) (rise n a j k)) f
      by (inr b) before =
          let r : Run = record { first = j; last = j + m } in
          let more : j + m + 1 ≡ j + suc m = omega arith in
          total-suc R m (λ d. share n a i l (record { first = j; last = j + d }))
          ∙ ap₂ R.add (before b) (share_whole n a i l r (mark_one i l r (run_digit_inside r i hj (omega arith)) (run_digit_inside r l (omega arith) b))
          ∙ weight_as_rises n a j (j + m))
          ∙ ring_in R (rise n a j l ∷ rise n a j (j + m) ∷ rise n a j (j + m + 1) ∷ []) ((v0 ⊖ v1) ⊕ (v1 ⊖ v2)) (v0 ⊖ v2) refl
          ∙ ap (λ (k : ℕ). minus (rise n a j l) (rise n a j k)) more

  -- a whole row
  row_above : (n : ℕ) (a : ℕ → ℕ → A) (i l k : ℕ) → i < n - (k + 1) → row_total (share n a i l) n k ≡ R.of_int (pos 0)
  row_above n a i l k h =
      total_none R (k + 1) _ (λ d b. share_none n a i l (record { first = n - (k + 1); last = n - (k + 1) + d })
      (mark_none_left i l (record { first = n - (k + 1); last = n - (k + 1) + d })
      (run_digit_before (record { first = n - (k + 1); last = n - (k + 1) + d }) i h)))

  no_rise : (n : ℕ) (a : ℕ → ℕ → A) (j k : ℕ) → n ≤ k → rise n a j k ≡ R.of_int (pos 0)
  no_rise n a j k h =
      ap₂ minus (framed_beyond (R.of_int (pos 0)) n a (j + 1) (k + 1) (omega arith)) (framed_beyond (R.of_int (pos 0)) n a j (k + 1) (omega arith))
      ∙ minus_same (R.of_int (pos 0))

  row_whole : (n : ℕ) (a : ℕ → ℕ → A) (i l k : ℕ) → k < n → n - (k + 1) ≤ i → i ≤ l → l < n → row_total (share n a i l) n k ≡ rise n a (n - (k + 1)) l
  row_whole n a i l k hk hj hi hl =
      row_some n a i l (n - (k + 1)) (k + 1) hj hi (omega arith)
      ∙ ap (λ w. minus (rise n a (n - (k + 1)) l) w) (no_rise n a (n - (k + 1)) (n - (k + 1) + (k + 1)) (omega arith))
      ∙ ring_in R (rise n a (n - (k + 1)) l ∷ []) (v0 ⊖ num (pos 0)) v0 refl

  -- the rows from below
  rows_some : (n : ℕ) (a : ℕ → ℕ → A) (i l m : ℕ) → i ≤ l → l < n → m ≤ n → n ≤ i + 1 + m
      → total R m (λ k. row_total (share n a i l) n k) ≡ minus (edged n a (i + 1) (l + 1)) (edged n a (n - m) (l + 1))
  rows_some n a i l zero hi hl hm h =
      let e : i + 1 ≡ n - 0 = omega arith in
      total-zero R _ ∙ sym (minus_same (edged n a (i + 1) (l + 1))) ∙ ap (λ (j : ℕ). minus (edged n a (i + 1) (l + 1)) (edged n a j (l + 1))) e
  rows_some n a i l (suc m) hi hl hm h = by (next_or_within n (i + 1 + m) (omega arith)) (rows_some n a i l m hi hl (omega arith))
    where
      by : ((n ≡ suc (i + 1 + m)) ⊎ (n ≤ i + 1 + m))
          → (n ≤ i + 1 + m → total R m (λ k. row_total (share n a i l) n k) ≡ minus (edged n a (i + 1) (l + 1)) (edged n a (n - m) (l + 1)))
          → total R (suc m) (λ k. row_total (share n a i l) n k) ≡ minus (edged n a (i + 1) (l + 1)) (edged n a (n - suc m) (l + 1))
      by (inl e) before =
          let f : i + 1 ≡ n - suc m = omega arith in
          total_none R (suc m) _ (λ k b. row_above n a i l k (omega arith)) ∙ sym (minus_same (edged n a (i + 1) (l + 1)))
          ∙ ap (λ (j : ℕ). minus (edged n a (i + 1) (l + 1)) (edged n a j (l + 1))) f
      by (inr b) before =
          let up : n - (m + 1) + 1 ≡ n - m = omega arith in
          let here : n - (m + 1) ≡ n - suc m = omega arith in
          total-suc R m (λ k. row_total (share n a i l) n k)
          ∙ ap₂ R.add (before b) (row_whole n a i l m (omega arith) (omega arith) hi hl)
          ∙ ap₂ (λ (j : ℕ) (g : ℕ). R.add (minus (edged n a (i + 1) (l + 1)) (edged n a (n - m) (l + 1))) (minus (edged n a j (l + 1)) (edged n a g (l + 1))))
          up here
          ∙ ring_in R (edged n a (i + 1) (l + 1) ∷ edged n a (n - m) (l + 1) ∷ edged n a (n - suc m) (l + 1) ∷ []) ((v0 ⊖ v1) ⊕ (v1 ⊖ v2)) (v0 ⊖ v2) refl

  -- the weights give the entries in and above the diagonal
  shares_above : (n : ℕ) (a : ℕ → ℕ → A) (i l : ℕ) → i ≤ l → l < n → list_sum (share n a i l) (late_runs n n) ≡ a i l
  shares_above n a i l hi hl =
      let e : n - n ≡ 0 = omega arith in
      sum_of_late (share n a i l) n n ∙ rows_some n a i l n hi hl (omega arith) (omega arith)
      ∙ ap₂ minus (framed_inside (R.of_int (pos 0)) n a i l (omega arith) hl) (ap (λ (j : ℕ). edged n a j (l + 1)) e
      ∙ framed_above (R.of_int (pos 0)) n a (l + 1))
      ∙ ring_in R (a i l ∷ []) (v0 ⊖ num (pos 0)) v0 refl

  pub list_sum_same : {X : Type 0} (f g : X → A) (xs : List X) → ((x : X) → f x ≡ g x) → list_sum f xs ≡ list_sum g xs
  unfolding list_sum
  list_sum_same f g [] h = refl
  list_sum_same f g (x ∷ xs) h = ap₂ R.add (h x) (list_sum_same f g xs h)

  pub shares_give_entry : (n : ℕ) (a : ℕ → ℕ → A) → ((i j : ℕ) → i < n → j < n → a i j ≡ a j i) → (i l : ℕ) → i < n → l < n
      → list_sum (share n a i l) (late_runs n n) ≡ a i l
  shares_give_entry n a symmetric i l hi hl = by (at_least_or_at_most l i)
    where
      flip : (r : Run) → share n a i l r ≡ share n a l i r
      flip r = ap (λ w. R.mul (weight_in n a r) w) (R.of_int_mul (pos (run_digit r i)) (pos (run_digit r l))
          ∙ R.mul_comm (R.of_int (pos (run_digit r i))) (R.of_int (pos (run_digit r l))) ∙ sym (R.of_int_mul (pos (run_digit r l)) (pos (run_digit r i))))

      by : ((i ≤ l) ⊎ (l ≤ i)) → list_sum (share n a i l) (late_runs n n) ≡ a i l
      by (inl h) = shares_above n a i l h hl
      by (inr h) = list_sum_same (share n a i l) (share n a l i) (late_runs n n) flip ∙ shares_above n a l i h hi ∙ symmetric l i hl hi
