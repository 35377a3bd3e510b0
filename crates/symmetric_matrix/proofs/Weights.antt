-- The weights of a matrix are its coordinates over the matrices of the start vectors, and the only ones.
use Rattle.std.specs.Prelude.{◌≡◌, ◌≢◌, ℕ, ◌+◌, ◌*◌, ◌<◌, ◌⊎◌, ℤ, pos, negsuc, ◌+ℤ◌, ◌*ℤ◌, neg_ℤ, List, [], ◌∷◌, length, map, slice_index_or}
use Rattle.std.proofs.Common.{arith, sym, ◌∙◌, ap, ap₂, refl, inl, inr}
use Rattle.std.proofs.lemmas.List.{get_or-map, length-map}
use Rattle.std.proofs.lemmas.List.Elements.{All-contains, Contains-get_or}
use Rattle.commutative_ring.proofs.Ring.{CommutativeRing, ring_in, ring, num, ◌⊕◌, ◌⊗◌, ◌⊖◌, v0, v1, v2, v3, v4}
use Rattle.commutative_ring.proofs.Laws.{neg_is_mul, zero_mul_ℤ}
use Rattle.commutative_ring.proofs.SumOf.{total, total_same, total_none, total_one, total-add, total-neg}
use Rattle.commutative_ring.proofs.SmallCases.{positive_product}
use Rattle.exact_forms.specs.Rational.{Rational, ratio, whole, ◌+ℚ◌, ◌*ℚ◌, neg_ℚ}
use Rattle.exact_forms.specs.Sums.{sum_ℚ}
use Rattle.exact_forms.specs.Vectors.{coordinate}
use Rattle.exact_forms.specs.RankOne.{rank_one_sum, AreCoordinates, AreIndependent}
use Rattle.exact_forms.proofs.Rational.{rational_ring, ratio_same, add-ratio, neg-ratio}
use Rattle.exact_forms.proofs.Vectors.{increasing_once}
use Rattle.symmetric_matrix.specs.StartVectors.{Run, run_digit, run_vector, late_runs, start_list, IsRunWithin}
use Rattle.symmetric_matrix.specs.StartWeights.{framed, start_weight, start_weights, start_coordinates}
use Rattle.symmetric_matrix.proofs.Runs.{run_vector_at, late_runs_all, late_increasing, start_list_is, IsLate}
use Rattle.symmetric_matrix.proofs.Frames.{framed_same, framed-map, framed_family, framed_product, padded_run, edge, edge_inside, edge_before, edge_after}
use Rattle.symmetric_matrix.proofs.Frames.{edges_apart}
use Rattle.symmetric_matrix.proofs.Telescopes.{minus, total_of_list, edged, weight_in, mark_of, share, shares_give_entry}

abbrev pub no_run : Run
no_run = record { first = 0; last = 0 }

abbrev pub run_at : ℕ → ℕ → Run
run_at n k = slice_index_or (late_runs n n) k no_run

abbrev pub run_count : ℕ → ℕ
run_count n = length (late_runs n n)

pub run_at_within : (n k : ℕ) → k < run_count n → IsRunWithin n (run_at n k)
run_at_within n k l =
    (All-contains (IsLate n n) (late_runs n n) (run_at n k) (late_runs_all n n (omega arith)) (Contains-get_or (late_runs n n) k no_run l)).within

pub runs_apart : (n k l : ℕ) → k < run_count n → l < run_count n → k ≢ l → ((run_at n k).first ≡ (run_at n l).first) → ((run_at n k).last ≡ (run_at n l).last)
    → ⊥
runs_apart n k l hk hl ne first last =
    ne (increasing_once (map (run_vector n) (late_runs n n)) [] (late_increasing n n (omega arith)) k l (rw length-map hk) (rw length-map hl)
    (get_or-map (run_vector n) (late_runs n n) k no_run [] hk
    ∙ ap₂ (λ (a : ℕ) (b : ℕ). run_vector n (record { first = a; last = b })) first last
    ∙ sym (get_or-map (run_vector n) (late_runs n n) l no_run [] hl)))

-- ---- the four entries of which a weight is made
abbrev corners : {A : Type 0} → (A → A → A) → (A → A → A) → (ℕ → ℕ → A) → Run → A
corners plus less f r = plus (less (less (f (r.first + 1) (r.last + 1)) (f r.first (r.last + 1))) (f (r.first + 1) (r.last + 2))) (f r.first (r.last + 2))

corners_same : {A : Type 0} {f g : ℕ → ℕ → A} (plus less : A → A → A) (r : Run) → ((i j : ℕ) → f i j ≡ g i j) → corners plus less f r ≡ corners plus less g r
corners_same plus less r at =
    ap₂ plus (ap₂ less (ap₂ less (at (r.first + 1) (r.last + 1)) (at r.first (r.last + 1))) (at (r.first + 1) (r.last + 2))) (at r.first (r.last + 2))

-- ---- whole weights
-- the weights of the matrix of one run's vector
product_weight : (n : ℕ) (s r : Run) → IsRunWithin n s → start_weight n (λ i j. pos (run_digit s i) *ℤ pos (run_digit s j)) r
    ≡ (pos (edge s (r.first + 1)) +ℤ neg_ℤ (pos (edge s r.first))) *ℤ (pos (edge s (r.last + 1)) +ℤ neg_ℤ (pos (edge s (r.last + 2))))
unfolding start_weight
product_weight n s r within =
    corners_same (λ (x : ℤ) (y : ℤ). x +ℤ y) (λ (x : ℤ) (y : ℤ). x +ℤ neg_ℤ y) r at
    ∙ ring (pos (edge s (r.first + 1)) ∷ pos (edge s r.first) ∷ pos (edge s (r.last + 1)) ∷ pos (edge s (r.last + 2)) ∷ [])
    (((v0 ⊗ v2 ⊖ v1 ⊗ v2) ⊖ v0 ⊗ v3) ⊕ v1 ⊗ v3) ((v0 ⊖ v1) ⊗ (v2 ⊖ v3)) refl
  where
    at : (i j : ℕ) → framed (pos 0) n (λ i j. pos (run_digit s i) *ℤ pos (run_digit s j)) i j ≡ pos (edge s i) *ℤ pos (edge s j)
    at i j = framed_product n (λ p. pos (run_digit s p)) (λ p. pos (run_digit s p)) i j
        ∙ ap₂ (λ (x : ℤ) (y : ℤ). x *ℤ y) (padded_run n s i within) (padded_run n s j within)

own_weight : (n : ℕ) (s : Run) → IsRunWithin n s → start_weight n (λ i j. pos (run_digit s i) *ℤ pos (run_digit s j)) s ≡ pos 1
own_weight n s within =
    let a : edge s (s.first + 1) ≡ 1 = edge_inside s (s.first + 1) (omega arith) (omega (arith, within.ordered)) in
    let b : edge s s.first ≡ 0 = edge_before s s.first (omega arith) in
    let c : edge s (s.last + 1) ≡ 1 = edge_inside s (s.last + 1) (omega (arith, within.ordered)) (omega arith) in
    let d : edge s (s.last + 2) ≡ 0 = edge_after s (s.last + 2) (omega arith) in
    product_weight n s s within ∙ (rw (a, b, c, d) refl)

other_weight : (n : ℕ) (s r : Run) → IsRunWithin n s → IsRunWithin n r → ((r.first ≡ s.first) → (r.last ≡ s.last) → ⊥)
    → start_weight n (λ i j. pos (run_digit s i) *ℤ pos (run_digit s j)) r ≡ pos 0
other_weight n s r within inside apart = product_weight n s r within ∙ by (edges_apart n r s inside apart)
  where
    by : ((edge s (r.first + 1) ≡ edge s r.first) ⊎ (edge s (r.last + 1) ≡ edge s (r.last + 2)))
        → (pos (edge s (r.first + 1)) +ℤ neg_ℤ (pos (edge s r.first))) *ℤ (pos (edge s (r.last + 1)) +ℤ neg_ℤ (pos (edge s (r.last + 2)))) ≡ pos 0
    by (inl e) = ap (λ (x : ℕ). (pos x +ℤ neg_ℤ (pos (edge s r.first))) *ℤ (pos (edge s (r.last + 1)) +ℤ neg_ℤ (pos (edge s (r.last + 2))))) e
        ∙ ring (pos (edge s r.first) ∷ pos (edge s (r.last + 1)) ∷ pos (edge s (r.last + 2)) ∷ []) ((v0 ⊖ v0) ⊗ (v1 ⊖ v2)) (num (pos 0)) refl
    by (inr e) = ap (λ (x : ℕ). (pos (edge s (r.first + 1)) +ℤ neg_ℤ (pos (edge s r.first))) *ℤ (pos x +ℤ neg_ℤ (pos (edge s (r.last + 2))))) e
        ∙ ring (pos (edge s (r.first + 1)) ∷ pos (edge s r.first) ∷ pos (edge s (r.last + 2)) ∷ []) ((v0 ⊖ v1) ⊗ (v2 ⊖ v2)) (num (pos 0)) refl

-- ---- the weights of a combination are its coefficients
module _ {A : Type 0} (R : CommutativeRing A) where
  pub weight_same : (n : ℕ) (a b : ℕ → ℕ → A) (r : Run) → ((i j : ℕ) → i < n → j < n → a i j ≡ b i j) → weight_in R n a r ≡ weight_in R n b r
  unfolding weight_in
  weight_same n a b r h =
      let at : (i j : ℕ) → edged R n a i j ≡ edged R n b i j = framed_same (R.of_int (pos 0)) n a b h in
      corners_same R.add (minus R) r at

  neg_of_int : (a : ℤ) → R.neg (R.of_int a) ≡ R.of_int (neg_ℤ a)
  neg_of_int a = R.neg_is_mul (R.of_int a) ∙ sym (R.of_int_mul (negsuc 0) a) ∙ ap R.of_int (neg_is_mul a)

  -- of whole numbers, by a map that keeps what is taken from them
  pub weight-map : (f : ℤ → A) (n : ℕ) (q : ℕ → ℕ → ℤ) (r : Run) → f (pos 0) ≡ R.of_int (pos 0) → ((a b : ℤ) → minus R (f a) (f b) ≡ f (a +ℤ neg_ℤ b))
      → ((a b : ℤ) → R.add (f a) (f b) ≡ f (a +ℤ b)) → weight_in R n (λ i j. f (q i j)) r ≡ f (start_weight n q r)
  unfolding weight_in start_weight
  weight-map f n q r zero less more =
      let at : (i j : ℕ) → edged R n (λ i j. f (q i j)) i j ≡ f (framed (pos 0) n q i j) =
      λ i j. ap (λ w. framed w n (λ i j. f (q i j)) i j) (sym zero) ∙ framed-map f (pos 0) n q i j in
      let e : ℤ = framed (pos 0) n q (r.first + 1) (r.last + 1) in
      let d : ℤ = framed (pos 0) n q r.first (r.last + 1) in
      let g : ℤ = framed (pos 0) n q (r.first + 1) (r.last + 2) in
      let h : ℤ = framed (pos 0) n q r.first (r.last + 2) in
      corners_same R.add (minus R) r at
      ∙ ap (λ w. R.add (minus R w (f g)) (f h)) (less e d)
      ∙ ap (λ w. R.add w (f h)) (less (e +ℤ neg_ℤ d) g)
      ∙ more (e +ℤ neg_ℤ d +ℤ neg_ℤ g) h

  weight-of_int : (n : ℕ) (q : ℕ → ℕ → ℤ) (r : Run) → weight_in R n (λ i j. R.of_int (q i j)) r ≡ R.of_int (start_weight n q r)
  weight-of_int n q r =
      weight-map R.of_int n q r refl (λ a b. ap (λ w. R.add (R.of_int a) w) (neg_of_int b) ∙ sym (R.of_int_add a (neg_ℤ b))) (λ a b. sym (R.of_int_add a b))

  weight-mul : (n : ℕ) (c : A) (a : ℕ → ℕ → A) (r : Run) → weight_in R n (λ i j. R.mul c (a i j)) r ≡ R.mul c (weight_in R n a r)
  unfolding weight_in
  weight-mul n c a r =
      let zero_is : R.mul c (R.of_int (pos 0)) ≡ R.of_int (pos 0) = ring_in R (c ∷ []) (v0 ⊗ num (pos 0)) (num (pos 0)) refl in
      let at : (i j : ℕ) → edged R n (λ i j. R.mul c (a i j)) i j ≡ R.mul c (edged R n a i j) =
      λ i j. ap (λ w. framed w n (λ i j. R.mul c (a i j)) i j) (sym zero_is) ∙ framed-map (λ w. R.mul c w) (R.of_int (pos 0)) n a i j in
      corners_same R.add (minus R) r at
      ∙ ring_in R (c ∷ edged R n a (r.first + 1) (r.last + 1) ∷ edged R n a r.first (r.last + 1) ∷ edged R n a (r.first + 1) (r.last + 2)
      ∷ edged R n a r.first (r.last + 2) ∷ [])
      (((v0 ⊗ v1 ⊖ v0 ⊗ v2) ⊖ v0 ⊗ v3) ⊕ v0 ⊗ v4) (v0 ⊗ (((v1 ⊖ v2) ⊖ v3) ⊕ v4)) refl

  weight-total : (n m : ℕ) (f : ℕ → ℕ → ℕ → A) (r : Run) → weight_in R n (λ i j. total R m (λ s. f s i j)) r ≡ total R m (λ s. weight_in R n (f s) r)
  unfolding weight_in
  weight-total n m f r =
      let at : (i j : ℕ) → edged R n (λ i j. total R m (λ s. f s i j)) i j ≡ total R m (λ s. edged R n (f s) i j) =
      λ i j. framed_family (λ g. total R m g) (R.of_int (pos 0)) (R.of_int (pos 0)) n f i j (total_none R m (λ s. R.of_int (pos 0)) (λ k l. refl)) in
      let e : ℕ → A = λ (s : ℕ). edged R n (f s) (r.first + 1) (r.last + 1) in
      let g : ℕ → A = λ (s : ℕ). edged R n (f s) r.first (r.last + 1) in
      let h : ℕ → A = λ (s : ℕ). edged R n (f s) (r.first + 1) (r.last + 2) in
      let k : ℕ → A = λ (s : ℕ). edged R n (f s) r.first (r.last + 2) in
      corners_same R.add (minus R) r at
      ∙ ap (λ w. R.add w (total R m k)) (ap₂ R.add (ap (λ w. R.add (total R m e) w) (sym (total-neg R m g))
      ∙ sym (total-add R m e (λ s. R.neg (g s)))) (sym (total-neg R m h)) ∙ sym (total-add R m (λ s. minus R (e s) (g s)) (λ s. R.neg (h s))))
      ∙ sym (total-add R m (λ s. minus R (minus R (e s) (g s)) (h s)) k)

  pub weight_recovered : (n : ℕ) (c : ℕ → A) (t : ℕ) → t < run_count n
      → weight_in R n (λ i j. total R (run_count n) (λ k. R.mul (c k) (mark_of R i j (run_at n k)))) (run_at n t) ≡ c t
  weight_recovered n c t l =
      weight-total n (run_count n) (λ k i j. R.mul (c k) (mark_of R i j (run_at n k))) (run_at n t)
      ∙ total_same R (run_count n) _ _ (λ k h. weight-mul n (c k) (λ i j. mark_of R i j (run_at n k)) (run_at n t)
      ∙ ap (λ w. R.mul (c k) w) (weight-of_int n (λ i j. pos (run_digit (run_at n k) i) *ℤ pos (run_digit (run_at n k) j)) (run_at n t)))
      ∙ total_one R (run_count n)
      (λ k. R.mul (c k) (R.of_int (start_weight n (λ i j. pos (run_digit (run_at n k) i) *ℤ pos (run_digit (run_at n k) j)) (run_at n t)))) t l
      (λ k h ne. ap (λ (w : ℤ). R.mul (c k) (R.of_int w))
      (other_weight n (run_at n k) (run_at n t) (run_at_within n k h) (run_at_within n t l) (runs_apart n t k l h (λ e. ne (sym e))))
      ∙ ring_in R (c k ∷ []) (v0 ⊗ num (pos 0)) (num (pos 0)) refl)
      ∙ ap (λ (w : ℤ). R.mul (c t) (R.of_int w)) (own_weight n (run_at n t) (run_at_within n t l))
      ∙ ring_in R (c t ∷ []) (v0 ⊗ num (pos 1)) v0 refl

-- ---- over the rational numbers
ratio_zero : (d : ℕ) → 0 < d → ratio (pos 0) d ≡ whole (pos 0)
unfolding whole
ratio_zero d h = ratio_same (pos 0) (pos 0) d 1 h (omega arith) (sym (zero_mul_ℤ (pos d)))

ratio_plus : (p r : ℤ) (d : ℕ) → 0 < d → ratio p d +ℚ ratio r d ≡ ratio (p +ℤ r) d
ratio_plus p r d h =
    add-ratio p r d d h h
    ∙ ratio_same (p *ℤ pos d +ℤ r *ℤ pos d) (p +ℤ r) (d * d) d (positive_product d d h h) h
    (ring (p ∷ r ∷ pos d ∷ []) ((v0 ⊗ v2 ⊕ v1 ⊗ v2) ⊗ v2) ((v0 ⊕ v1) ⊗ (v2 ⊗ v2)) refl)

weight-ratio : (n : ℕ) (q : ℕ → ℕ → ℤ) (d : ℕ) (r : Run) → 0 < d → weight_in rational_ring n (λ i j. ratio (q i j) d) r ≡ ratio (start_weight n q r) d
weight-ratio n q d r positive =
    weight-map rational_ring (λ z. ratio z d) n q r (ratio_zero d positive)
    (λ a b. ap (λ w. ratio a d +ℚ w) (neg-ratio b d positive) ∙ ratio_plus a (neg_ℤ b) d positive) (λ a b. ratio_plus a b d positive)

length_by_runs : (n : ℕ) → length (start_list n) ≡ run_count n
length_by_runs n = ap length (start_list_is n) ∙ length-map (late_runs n n) (run_vector n)

start_vector_at : (n k : ℕ) → k < run_count n → slice_index_or (start_list n) k [] ≡ run_vector n (run_at n k)
start_vector_at n k l = ap (λ (xs : List (List ℕ)). slice_index_or xs k []) (start_list_is n) ∙ get_or-map (run_vector n) (late_runs n n) k no_run [] l

start_digit : (n k p : ℕ) → k < run_count n → p < n → coordinate (slice_index_or (start_list n) k []) p ≡ pos (run_digit (run_at n k) p)
start_digit n k p l h = ap (λ (x : List ℕ). coordinate x p) (start_vector_at n k l) ∙ ap pos (run_vector_at n (run_at n k) p h)

-- a combination of the start vectors' matrices, by runs
rank_one_by_runs : (n : ℕ) (c : ℕ → Rational) (i j : ℕ) → i < n → j < n
    → rank_one_sum (start_list n) c i j ≡ total rational_ring (run_count n) (λ k. c k *ℚ mark_of rational_ring i j (run_at n k))
unfolding rank_one_sum sum_ℚ
rank_one_by_runs n c i j hi hj =
    ap (λ (m : ℕ).
    total rational_ring m (λ k. c k *ℚ whole (coordinate (slice_index_or (start_list n) k []) i *ℤ coordinate (slice_index_or (start_list n) k []) j)))
    (length_by_runs n)
    ∙ total_same rational_ring (run_count n) _ _ (λ k l. ap₂ (λ (x : ℤ) (y : ℤ). c k *ℚ whole (x *ℤ y)) (start_digit n k i l hi) (start_digit n k j l hj))

start_coordinate_at : (n : ℕ) (q : ℕ → ℕ → ℤ) (d k : ℕ) → k < run_count n → start_coordinates n q d k ≡ ratio (start_weight n q (run_at n k)) d
unfolding start_coordinates start_weights
start_coordinate_at n q d k l = ap (λ (z : ℤ). ratio z d) (get_or-map (start_weight n q) (late_runs n n) k no_run (pos 0) l)

pub start_coordinates_write : (n : ℕ) (q : ℕ → ℕ → ℤ) (d : ℕ) → 0 < d → ((i j : ℕ) → i < n → j < n → q i j ≡ q j i)
    → AreCoordinates n (start_list n) (start_coordinates n q d) (λ i j. ratio (q i j) d)
start_coordinates_write n q d positive symmetric = record {
  sum = λ i j hi hj.
      rank_one_by_runs n (start_coordinates n q d) i j hi hj
      ∙ total_same rational_ring (run_count n) _ _ (λ k l. ap (λ w. w *ℚ mark_of rational_ring i j (run_at n k))
      (start_coordinate_at n q d k l ∙ sym (weight-ratio n q d (run_at n k) positive)))
      ∙ total_of_list rational_ring (share rational_ring n (λ i j. ratio (q i j) d) i j) (late_runs n n) no_run
      ∙ shares_give_entry rational_ring n (λ i j. ratio (q i j) d) (λ i j hi hj. ap (λ (z : ℤ). ratio z d) (symmetric i j hi hj)) i j hi hj;
}

zero_entry : (n i j : ℕ) → framed (pos 0) n (λ i j. pos 0) i j ≡ pos 0
zero_entry n i j = framed-map (λ (z : ℤ). pos 0) (pos 0) n (λ i j. pos 0) i j

zero_weight : (n : ℕ) (r : Run) → ratio (start_weight n (λ i j. pos 0) r) 1 ≡ whole (pos 0)
unfolding start_weight
zero_weight n r =
    rw (zero_entry n (r.first + 1) (r.last + 1), zero_entry n r.first (r.last + 1), zero_entry n (r.first + 1) (r.last + 2), zero_entry n r.first (r.last + 2))
    (ratio_zero 1 (omega arith))

pub start_matrices_independent : (n : ℕ) → AreIndependent n (start_list n)
start_matrices_independent n = record {
  only_zero = λ c h k l.
      let inside : k < run_count n = omega (arith, length_by_runs n) in
      sym (weight_recovered rational_ring n c k inside)
      ∙ weight_same rational_ring n (λ i j. total rational_ring (run_count n) (λ k. c k *ℚ mark_of rational_ring i j (run_at n k))) (λ i j. ratio (pos 0) 1)
      (run_at n k)
      (λ i j hi hj. sym (rank_one_by_runs n c i j hi hj) ∙ h.sum i j hi hj ∙ sym (ratio_zero 1 (omega arith)))
      ∙ weight-ratio n (λ i j. pos 0) 1 (run_at n k) (omega arith)
      ∙ zero_weight n (run_at n k);
}
