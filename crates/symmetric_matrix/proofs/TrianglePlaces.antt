-- The places of a lower triangle in order, and sums over them.
use Rattle.std.specs.Prelude.{◌≡◌, ◌≢◌, ℕ, zero, suc, ◌+◌, ◌<◌, ◌≤◌, ◌⊎◌, ℤ, pos, ◌+ℤ◌, ◌*ℤ◌, List, [], ◌∷◌, ◌++◌, length, map, slice_index_or}
use Rattle.std.specs.List.{range_with_len, flat_map}
use Rattle.std.proofs.Common.{arith, sym, ◌∙◌, ap, ap₂, refl, inl, inr}
use Rattle.std.proofs.lemmas.List.{append-nil, length-append, get_or-map, get_or_append_left, get_or-append-add}
use Rattle.std.proofs.lemmas.List.FromFn.{length-map-range_with_len, get_or-map-range_with_len, map-range_with_len_more}
use Rattle.std.proofs.lemmas.List.Concat.{flat_map-append}
use Rattle.commutative_ring.proofs.Ring.{int_ring}
use Rattle.commutative_ring.proofs.Laws.{one_mul_ℤ}
use Rattle.commutative_ring.proofs.SmallCases.{before_or_last}
use Rattle.exact_forms.specs.Sums.{sum_to}
use Rattle.exact_forms.specs.Triangles.{triangle}
use Rattle.exact_forms.proofs.Sums.{sum_to-zero, sum_to-suc, sum_to_more, sum_to_same, mul-sum_to}
use Rattle.exact_forms.proofs.Triangles.{triangle-zero, triangle-suc, entry_before, sum_by_triangle}
use Rattle.symmetric_matrix.specs.Symmetric.{entry}
use Rattle.symmetric_matrix.specs.Recipes.{Place, row_places, triangle_places, multiplicity}
use Rattle.symmetric_matrix.proofs.Places.{entry_lower}
use Rattle.symmetric_matrix.proofs.Runs.{range_more}
use Rattle.symmetric_matrix.proofs.Telescopes.{list_sum, list_sum-append, list_sum_one, list_sum_none}

abbrev pub place : ℕ → ℕ → Place
place i j = record { row = i; column = j }

length-row_places : (i : ℕ) → length (row_places i) ≡ i + 1
unfolding row_places
length-row_places i = length-map-range_with_len (place i) 0 (i + 1)

row_place_at : (i j : ℕ) (d : Place) → j ≤ i → slice_index_or (row_places i) j d ≡ record { row = i; column = j }
unfolding row_places
row_place_at i j d h = get_or-map-range_with_len (place i) 0 (i + 1) j j d (omega arith) (omega arith)

pub triangle_places_none : triangle_places 0 ≡ []
unfolding triangle_places
triangle_places_none = refl

pub triangle_places_more : (n : ℕ) → triangle_places (n + 1) ≡ triangle_places n ++ row_places n
unfolding triangle_places
triangle_places_more n =
    ap (flat_map row_places) (range_more n) ∙ flat_map-append row_places (range_with_len 0 n) (n ∷ [])
    ∙ ap (λ (ps : List Place). flat_map row_places (range_with_len 0 n) ++ ps) (append-nil (row_places n))

triangle_places-suc : (n : ℕ) → triangle_places (suc n) ≡ triangle_places n ++ row_places n
triangle_places-suc n = let e : suc n ≡ n + 1 = omega arith in ap triangle_places e ∙ triangle_places_more n

pub length-triangle_places : (n : ℕ) → length (triangle_places n) ≡ triangle n
length-triangle_places zero = ap length triangle_places_none ∙ sym triangle-zero
length-triangle_places (suc n) =
    let e : n + 1 ≡ suc n = omega arith in
    ap length (triangle_places-suc n) ∙ length-append (triangle_places n) (row_places n)
    ∙ ap₂ (λ (a : ℕ) (b : ℕ). a + b) (length-triangle_places n) (length-row_places n ∙ e) ∙ sym (triangle-suc n)

pub triangle_place_at : (n i j : ℕ) (d : Place) → i < n → j ≤ i → slice_index_or (triangle_places n) (triangle i + j) d ≡ record { row = i; column = j }
triangle_place_at zero i j d hi hj = absurd (omega arith)
triangle_place_at (suc n) i j d hi hj = ap (λ (ps : List Place). slice_index_or ps (triangle i + j) d) (triangle_places-suc n)
    ∙ by (before_or_last i n hi) (λ l. triangle_place_at n i j d l hj)
  where
    by : ((i < n) ⊎ (i ≡ n)) → (i < n → slice_index_or (triangle_places n) (triangle i + j) d ≡ record { row = i; column = j })
        → slice_index_or (triangle_places n ++ row_places n) (triangle i + j) d ≡ record { row = i; column = j }
    by (inl l) before =
        let long = length-triangle_places n in
        get_or_append_left (triangle_places n) (row_places n) d (triangle i + j) (omega (arith, entry_before i j n hj l)) ∙ before l
    by (inr e) before =
        ap (λ (i : ℕ). slice_index_or (triangle_places n ++ row_places n) (triangle i + j) d) e
        ∙ ap (λ (k : ℕ). slice_index_or (triangle_places n ++ row_places n) (k + j) d) (sym (length-triangle_places n))
        ∙ get_or-append-add (triangle_places n) (row_places n) j d ∙ row_place_at n j d (omega arith)
        ∙ ap (λ (i : ℕ). place i j) (sym e)

-- ---- sums
abbrev pub places_sum : (Place → ℤ) → List Place → ℤ
places_sum f ps = list_sum int_ring f ps

sum_of_range : (g : ℕ → Place) (f : Place → ℤ) (m : ℕ) → places_sum f (map g (range_with_len 0 m)) ≡ sum_to m (λ j. f (g j))
sum_of_range g f zero = list_sum_none int_ring f ∙ sym (sum_to-zero (λ j. f (g j)))
sum_of_range g f (suc m) =
    let e : suc m ≡ m + 1 = omega arith in
    ap (λ (k : ℕ). places_sum f (map g (range_with_len 0 k))) e ∙ ap (places_sum f) (map-range_with_len_more g 0 m m (omega arith))
    ∙ list_sum-append int_ring f (map g (range_with_len 0 m)) (g m ∷ [])
    ∙ ap₂ (λ (a : ℤ) (b : ℤ). a +ℤ b) (sum_of_range g f m) (list_sum_one int_ring f (g m))
    ∙ sym (sum_to-suc m (λ j. f (g j)))

sum_of_row_places : (f : Place → ℤ) (i : ℕ) → places_sum f (row_places i) ≡ sum_to (i + 1) (λ j. f (record { row = i; column = j }))
unfolding row_places
sum_of_row_places f i = sum_of_range (place i) f (i + 1)

sum_of_triangle : (f : Place → ℤ) (n : ℕ) → places_sum f (triangle_places n) ≡ sum_to n (λ i. sum_to (i + 1) (λ j. f (record { row = i; column = j })))
sum_of_triangle f zero = ap (places_sum f) triangle_places_none ∙ list_sum_none int_ring f
    ∙ sym (sum_to-zero (λ i. sum_to (i + 1) (λ j. f (record { row = i; column = j }))))
sum_of_triangle f (suc n) =
    ap (places_sum f) (triangle_places-suc n) ∙ list_sum-append int_ring f (triangle_places n) (row_places n)
    ∙ ap₂ (λ (a : ℤ) (b : ℤ). a +ℤ b) (sum_of_triangle f n) (sum_of_row_places f n)
    ∙ sym (sum_to-suc n (λ i. sum_to (i + 1) (λ j. f (record { row = i; column = j }))))

pub multiplicity_on : (i : ℕ) → multiplicity (record { row = i; column = i }) ≡ 1
unfolding multiplicity
multiplicity_on i = grind arith

pub multiplicity_beside : (i j : ℕ) → i ≢ j → multiplicity (record { row = i; column = j }) ≡ 2
unfolding multiplicity
multiplicity_beside i j h = grind arith

-- a symmetric double sum, each entry of the lower triangle with its multiplicity
pub sum_by_places : (n : ℕ) (g : ℕ → ℕ → ℤ) → ((i j : ℕ) → i < n → j < n → g i j ≡ g j i)
    → places_sum (λ p. pos (multiplicity p) *ℤ g p.row p.column) (triangle_places n) ≡ sum_to n (λ i. sum_to n (λ j. g i j))
sum_by_places n g symmetric =
    sum_of_triangle (λ p. pos (multiplicity p) *ℤ g p.row p.column) n
    ∙ sum_to_same n _ _ (λ i l. row i)
    ∙ sym (sum_by_triangle n g symmetric)
  where
    row : (i : ℕ) → sum_to (i + 1) (λ j. pos (multiplicity (record { row = i; column = j })) *ℤ g i j) ≡ pos 2 *ℤ sum_to i (λ j. g i j) +ℤ g i i
    row i =
        sum_to_more i (λ j. pos (multiplicity (record { row = i; column = j })) *ℤ g i j)
        ∙ ap₂ (λ (a : ℤ) (b : ℤ). a +ℤ b)
        (sum_to_same i _ (λ j. pos 2 *ℤ g i j) (λ j l. ap (λ (m : ℕ). pos m *ℤ g i j) (multiplicity_beside i j (omega arith)))
        ∙ sym (mul-sum_to (pos 2) i (λ j. g i j)))
        (ap (λ (m : ℕ). pos m *ℤ g i i) (multiplicity_on i) ∙ one_mul_ℤ (g i i))

-- ---- a matrix that is made place by place
pub placed_entry : (n : ℕ) (g : Place → ℤ) (i j : ℕ) → j ≤ i → i < n → entry (record { size = n; lower = map g (triangle_places n) }) i j ≡ g (place i j)
placed_entry n g i j h l =
    entry_lower (record { size = n; lower = map g (triangle_places n) }) i j h
    ∙ get_or-map g (triangle_places n) (triangle i + j) (place 0 0) (pos 0) (omega (arith, length-triangle_places n, entry_before i j n h l))
    ∙ ap g (triangle_place_at n i j (place 0 0) l h)
