-- The columns are the zeros and the leaving vector, each once.
use Rattle.std.specs.Prelude.{◌≡◌, ◌≢◌, ℕ, zero, suc, ◌+◌, ◌<◌, ◌⊎◌, pos, ◌*ℤ◌, true, List, [], ◌∷◌, ◌++◌, length, slice_index_or, Option, Some, None}
use Rattle.std.proofs.Common.{arith, sym, ◌∙◌, ap, subst, refl, inl, inr, length-append, get_or-append-add}
use Rattle.std.proofs.Math.ListN.{get_or-append}
use Rattle.std.proofs.lemmas.List.{get_or-map, length-map}
use Rattle.commutative_ring.proofs.SmallCases.{names_apart as all_apart, same_of_test, test_of_same}
use Rattle.exact_forms.specs.Rational.{whole}
use Rattle.exact_forms.specs.RankOne.{AreCoordinates, AreIndependent}
use Rattle.exact_forms.specs.Vectors.{coordinate}
use Rattle.exact_forms.specs.Coordinates.{Columns, IsIndependent, mark}
use Rattle.exact_forms.proofs.RankOne.{rank_one_sum_is, coordinates_agree, independent_of_free}
use Rattle.exact_forms.proofs.Coordinates.{sum_marked}
use Rattle.exact_forms.proofs.Signs.{positive_not_zero, one_positive}
use Rattle.exact_forms.proofs.Slacks.{replaced_here, replaced_other}
use Rattle.exact_linear.specs.Tables.{first_place, contains, or_zero}
use Rattle.exact_linear.proofs.Places.{first_found, first_none}
use Rattle.exact_linear.specs.Squares.{name_at, vector_at, named}
use Rattle.exact_linear.proofs.Listed.{places_pass, places_increase, places_all, contains_at, contained}
use Rattle.extreme_ray.specs.Rays.{ray_names, is_name, position, IsRayBasis}

pub record IsNameFound (xs : List ℕ) (x p : ℕ) : Type 0 where
  pub within : p < length xs
  pub here : name_at xs p ≡ x

pub position_found : (xs : List ℕ) (x p : ℕ) → p < length xs → name_at xs p ≡ x → IsNameFound xs x (position xs x)
unfolding position
position_found xs x p l e = by (first_place (is_name xs x) 0 (length xs)) refl
  where
    by : (o : Option ℕ) → first_place (is_name xs x) 0 (length xs) ≡ o → IsNameFound xs x (or_zero o)
    by (Some i) h = let f = first_found (is_name xs x) 0 (length xs) i h in
        record { within = let b = f.below in omega arith; here = same_of_test (name_at xs i) x f.passes }
    by None h = absurd (let f = first_none (is_name xs x) 0 (length xs) h p (omega arith) (omega arith) in let t = test_of_same (name_at xs p) x e in cc)

pub mark_coordinates : (n : ℕ) (vs : List (List ℕ)) (k : ℕ) → k < length vs
    → AreCoordinates n vs (mark k) (λ i j. whole (coordinate (slice_index_or vs k []) i *ℤ coordinate (slice_index_or vs k []) j))
mark_coordinates n vs k l = record {
  sum = λ i j li lj. rank_one_sum_is vs (mark k) i j
      ∙ sum_marked (length vs) (λ m. whole (coordinate (slice_index_or vs m []) i *ℤ coordinate (slice_index_or vs m []) j)) k l;
}

-- of independent matrices no two are equal
pub no_two_equal : (n : ℕ) (vs : List (List ℕ)) → AreIndependent n vs → (k m : ℕ) → k < length vs → m < length vs → k ≢ m
    → slice_index_or vs k [] ≢ slice_index_or vs m []
no_two_equal n vs free k m lk lm ne e =
    positive_not_zero (whole (pos 1)) one_positive
    (sym (replaced_here (λ m. whole (pos 0)) k (whole (pos 1)) k refl)
    ∙ coordinates_agree n vs (mark k) (mark m) (λ i j. whole (coordinate (slice_index_or vs m []) i *ℤ coordinate (slice_index_or vs m []) j)) free
    (subst (λ (v : List ℕ). AreCoordinates n vs (mark k) (λ i j. whole (coordinate v i *ℤ coordinate v j))) e (mark_coordinates n vs k lk))
    (mark_coordinates n vs m lm) k lk
    ∙ replaced_other (λ m. whole (pos 0)) m (whole (pos 1)) k ne)

pub named_at : (vectors : List (List ℕ)) (xs : List ℕ) (i : ℕ) → i < length xs → slice_index_or (named vectors xs) i [] ≡ vector_at vectors (name_at xs i)
named_at vectors xs i l = get_or-map (vector_at vectors) xs i 0 [] l

pub named_length : (vectors : List (List ℕ)) (xs : List ℕ) → length (named vectors xs) ≡ length xs
named_length vectors xs = length-map xs (vector_at vectors)

-- different ones of independent vectors
pub named_independent : (n : ℕ) (vs : List (List ℕ)) (ps : List ℕ) → AreIndependent n vs → ((i : ℕ) → i < length ps → name_at ps i < length vs)
    → ((i j : ℕ) → i < length ps → j < length ps → i ≢ j → name_at ps i ≢ name_at ps j) → AreIndependent n (named vs ps)
named_independent n vs ps free within apart =
    let m = named_length vs ps in
    independent_of_free columns (λ k. true) (named vs ps) (name_at ps)
    (record { only_zero = λ c h k lk. free.only_zero c (record { sum = λ i j li lj. rank_one_sum_is vs c i j ∙ h.sum i j li lj }) k lk })
    (λ i h. within i (omega arith)) (λ i h. refl) (λ i j li lj ne. apart i j (omega arith) (omega arith) ne)
    (λ k i j h li lj. ap (λ (v : List ℕ). whole (coordinate v i *ℤ coordinate v j)) (sym (named_at vs ps k (omega arith))))
  where
    columns : Columns
    columns = record { size = n; count = length vs; entry = λ k i j. whole (coordinate (slice_index_or vs k []) i *ℤ coordinate (slice_index_or vs k []) j) }

module _ (n : ℕ) (vectors : List (List ℕ)) (zeros : List ℕ) (l : ℕ) (B : IsRayBasis n vectors zeros l) where
  abbrev pub names : List ℕ
  names = ray_names vectors zeros l

  abbrev given : List ℕ
  given = zeros ++ l ∷ []

  given_length : length given ≡ length zeros + 1
  given_length = length-append zeros (l ∷ [])

  pub name_within : (i : ℕ) → i < length names → name_at names i < length vectors
  name_within i h = let b = (places_pass (contains (l ∷ zeros)) 0 (length vectors) i h).below in omega arith

  pub names_apart : (i j : ℕ) → i < length names → j < length names → i ≢ j → name_at names i ≢ name_at names j
  names_apart =
      all_apart (name_at names) (length names) (λ i j h lj e. let a = places_increase (contains (l ∷ zeros)) 0 (length vectors) i j h lj in omega arith)

  listed : (i : ℕ) → i < length names → IsNameFound given (name_at names i) (position given (name_at names i))
  listed i h = let c = contained (l ∷ zeros) (name_at names i) (places_pass (contains (l ∷ zeros)) 0 (length vectors) i h).passes in by c.0 c.1 c.2
    where
      by : (p : ℕ) → p < length (l ∷ zeros) → slice_index_or (l ∷ zeros) p 0 ≡ name_at names i
          → IsNameFound given (name_at names i) (position given (name_at names i))
      by zero lt e =
          position_found given (name_at names i) (length zeros) (let a = given_length in
          omega arith) (ap (name_at given) (let s : length zeros ≡ length zeros + 0 = omega arith in s) ∙ get_or-append-add zeros (l ∷ []) 0 0 ∙ e)
      by (suc q) lt e = position_found given (name_at names i) q (let a = given_length in omega arith) (get_or-append zeros (l ∷ []) 0 q (omega arith) ∙ e)

  abbrev given_columns : Columns
  given_columns = record {
    size = n;
    count = length (named vectors given);
    entry = λ k i j. whole (coordinate (slice_index_or (named vectors given) k []) i *ℤ coordinate (slice_index_or (named vectors given) k []) j);
  }

  given_free : IsIndependent given_columns (λ k. true)
  given_free = record {
    only_zero = λ c h k lk.
        B.independent.only_zero c (record { sum = λ i j li lj. rank_one_sum_is (named vectors given) c i j ∙ h.sum i j li lj }) k lk;
  }

  pub names_independent : AreIndependent n (named vectors names)
  names_independent =
      let m = named_length vectors names in
      let g = named_length vectors given in
      independent_of_free given_columns (λ k. true) (named vectors names) (λ i. position given (name_at names i)) given_free
      (λ i h. let f = (listed i (omega arith)).within in omega arith)
      (λ i h. refl)
      (λ i j li lj ne e. names_apart i j (omega arith) (omega arith) ne (sym (listed i (omega arith)).here ∙ ap (name_at given) e
      ∙ (listed j (omega arith)).here))
      (λ k i j h li lj. let f = listed k (omega arith) in
      ap (λ (v : List ℕ). whole (coordinate v i *ℤ coordinate v j)) (named_at vectors given (position given (name_at names k)) f.within
      ∙ ap (vector_at vectors) f.here ∙ sym (named_at vectors names k (omega arith))))

  -- where the zeros and the leaving vector stand
  pub zero_found : (q : ℕ) → q < length zeros → (p : ℕ) × (p < length names) × (name_at names p ≡ name_at zeros q)
  zero_found q h =
      places_all (contains (l ∷ zeros)) 0 (length vectors) (name_at zeros q) (contains_at (l ∷ zeros) (suc q) (omega arith)) (omega arith)
      (let w = B.within q h in omega arith)

  pub leaving_found : IsNameFound names l (position names l)
  leaving_found = let f =
      places_all (contains (l ∷ zeros)) 0 (length vectors) l (contains_at (l ∷ zeros) 0 (omega arith)) (omega arith) (let w = B.leaving_within in
      omega arith) in position_found names l f.0 f.1 f.2

  pub zero_not_leaving : (q : ℕ) → q < length zeros → name_at zeros q ≢ l
  zero_not_leaving q h e =
      let g = named_length vectors given in
      let s = given_length in
      no_two_equal n (named vectors given) B.independent q (length zeros) (omega arith) (omega arith) (λ e. omega arith)
      (named_at vectors given q (omega arith)
      ∙ ap (vector_at vectors) (get_or-append zeros (l ∷ []) 0 q h ∙ e
      ∙ sym (ap (name_at given) (let s : length zeros ≡ length zeros + 0 = omega arith in s) ∙ get_or-append-add zeros (l ∷ []) 0 0))
      ∙ sym (named_at vectors given (length zeros) (omega arith)))
