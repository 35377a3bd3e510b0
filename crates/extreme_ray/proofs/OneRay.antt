-- As many independent vectors as a symmetric matrix has entries are perfect, so one primitive matrix is a ray of them.
use Rattle.std.specs.Prelude.{◌≡◌, ◌≢◌, ℕ, zero, suc, ◌+◌, ◌<◌, ◌≤◌, ◌⊎◌, ℤ, pos, negsuc, ◌*ℤ◌, ◌≤ℤ◌, true, false, List, [], ◌∷◌, ◌++◌, length, map}
use Rattle.std.specs.Prelude.{slice_index_or}
use Rattle.std.specs.List.{range_with_len}
use Rattle.std.proofs.Common.{arith, sym, ◌∙◌, ap, ap₂, refl, subst, inl, inr, length-append, get_or-append-add}
use Rattle.std.proofs.Math.ListN.{get_or-append}
use Rattle.std.proofs.lemmas.Int.{ints}
use Rattle.std.proofs.lemmas.List.FromFn.{length-map-range_with_len, get_or-map-range_with_len}
use lib.IntN.{*ℤ_comm}
use Rattle.exact_forms.specs.Rational.{whole}
use Rattle.exact_forms.specs.Forms.{form, unit_sum}
use Rattle.exact_forms.specs.Triangles.{triangle}
use Rattle.exact_forms.specs.Vectors.{coordinate}
use Rattle.exact_forms.specs.Coordinates.{Columns}
use Rattle.exact_forms.specs.Copositive.{IsPerfect}
use Rattle.exact_forms.specs.RankOne.{AreCoordinates, AreIndependent, HasVectors}
use Rattle.exact_forms.proofs.Forms.{form-mul}
use Rattle.exact_forms.proofs.Perfect.{perfect_from_units, perfect_decides}
use Rattle.exact_forms.proofs.Triangles.{place_of}
use Rattle.exact_forms.proofs.Vectors.{all_from_places}
use Rattle.commutative_ring.proofs.Expand.{expand}
use Rattle.commutative_ring.proofs.SmallCases.{before_or_here, true_or_false}
use Rattle.symmetric_matrix.specs.Symmetric.{Symmetric, IsSymmetricMatrix, entry}
use Rattle.symmetric_matrix.proofs.Places.{entry_lower, entry_flip}
use Rattle.exact_linear.specs.Tables.{Table}
use Rattle.exact_linear.specs.Columns.{columns_of, start_table}
use Rattle.exact_linear.specs.Exchange.{first_bases}
use Rattle.exact_linear.specs.Squares.{squares, vector_at, named, name_at}
use Rattle.exact_linear.proofs.FirstTables.{IsFirstTable, first_tables, start_first}
use Rattle.exact_linear.proofs.Counts.{no_more}
use Rattle.exact_linear.proofs.Spanning.{AreUnitsAndVectors, at_unit, unit_coordinates}
use Rattle.exact_linear.proofs.SquareColumns.{has_vectors_alone}
use Rattle.exact_linear.proofs.SquareLists.{length-squares}
use Rattle.exact_linear.proofs.UnitColumns.{units_and_vectors}
use Rattle.extreme_ray.specs.Rays.{IsRayBasis, IsPrimitiveRay}
use Rattle.extreme_ray.proofs.Columns.{over_vectors, all_taken}
use Rattle.extreme_ray.proofs.Names.{named_at, named_length}
use Rattle.extreme_ray.proofs.Multiples.{same_multiples}

module _ (n : ℕ) (vectors : List (List ℕ)) (sizes : (k : ℕ) → k < length vectors
    → length (slice_index_or vectors k []) ≡ n) (number : length vectors ≡ triangle n) (free : AreIndependent n vectors) where
  abbrev A : Columns
  A = columns_of n (squares vectors)

  abbrev low : ℕ
  low = triangle n

  abbrev t : Table
  t = first_bases (start_table n (squares vectors)) (length vectors)

  count : A.count ≡ low + length vectors + 1
  count = let a = length-squares vectors in omega arith

  V : HasVectors A low vectors
  V = has_vectors_alone n vectors sizes

  U : AreUnitsAndVectors A low vectors
  U = units_and_vectors n (squares vectors) vectors V

  F : IsFirstTable A low (low + length vectors) t
  F = first_tables A low (start_table n (squares vectors)) (length vectors) (start_first n (squares vectors)) (let a = count in omega arith)

  taken : (k : ℕ) → k < length vectors → F.basis (low + k) ≡ true
  taken = all_taken A low vectors V count free F.basis F.coord F.first

  -- the vectors' columns
  abbrev own : List ℕ
  own = map (λ k. triangle n + k) (range_with_len 0 (length vectors))

  own_length : length own ≡ length vectors
  own_length = length-map-range_with_len (λ k. triangle n + k) 0 (length vectors)

  own_at : (k : ℕ) → k < length vectors → slice_index_or own k 0 ≡ low + k
  own_at k l = get_or-map-range_with_len (λ k. triangle n + k) 0 (length vectors) k k 0 l (omega arith)

  -- a unit in the basis would be one basic column more than there are rows
  no_unit : (u : ℕ) → u < low → F.basis u ≡ false
  no_unit u l = by (true_or_false (F.basis u))
    where
      by : ((F.basis u ≡ true) ⊎ (F.basis u ≡ false)) → F.basis u ≡ false
      by (inr f) = f
      by (inl h) = absurd (let m = no_more (u ∷ own) t.basic apart each in let o = own_length in let r = F.rows in omega arith)
        where
          apart : (i j : ℕ) → i < j → j < length (u ∷ own) → slice_index_or (u ∷ own) i 0 ≢ slice_index_or (u ∷ own) j 0
          apart i zero a b e = absurd (omega arith)
          apart zero (suc j) a b e = let o = own_length in let s = own_at j (omega arith) in omega arith
          apart (suc i) (suc j) a b e = let o = own_length in let r = own_at i (omega arith) in let s = own_at j (omega arith) in omega arith

          each : (i : ℕ) → i < length (u ∷ own) → (j : ℕ) × (j < length t.basic) × (slice_index_or t.basic j 0 ≡ slice_index_or (u ∷ own) i 0)
          each zero a = let c = count in F.shown.every u (omega arith) h
          each (suc i) a =
              let o = own_length in
              let c = count in
              let e = F.shown.every (low + i) (omega arith) (taken i (omega arith)) in
              (e.0, e.1, e.2 ∙ sym (own_at i (omega arith)))

  unit_written : (a b : ℕ) → a < n → b < n
      → AreCoordinates n vectors (λ m. at_unit A low vectors U F.basis F.coord F.first.basis (low + m) a b) (λ i j. whole (unit_sum a b i j))
  unit_written a b la lb =
      let C = unit_coordinates A low vectors U F.basis F.coord F.first.basis a b la lb in
      over_vectors A low vectors V count (λ k. at_unit A low vectors U F.basis F.coord F.first.basis k a b) (λ i j. whole (unit_sum a b i j))
      (λ k lk h. C.outside k lk (outside k lk h)) C.sum
    where
      outside : (k : ℕ) → k < A.count → ((k < low) ⊎ (low + length vectors ≤ k)) → F.basis k ≡ false
      outside k lk (inl h) = no_unit k h
      outside k lk (inr h) = F.first.later k h lk

  pub independent_perfect : IsPerfect n vectors
  independent_perfect = perfect_from_units n vectors (λ a b m. at_unit A low vectors U F.basis F.coord F.first.basis (low + m) a b) unit_written

module _ (n : ℕ) (vectors : List (List ℕ)) (zeros : List ℕ) (l : ℕ) (B : IsRayBasis n vectors zeros l) (sizes : (k : ℕ) → k < length vectors
    → length (vector_at vectors k) ≡ n) where
  abbrev given : List ℕ
  given = zeros ++ l ∷ []

  given_length : length given ≡ length zeros + 1
  given_length = length-append zeros (l ∷ [])

  given_zero : (k : ℕ) → k < length zeros → name_at given k ≡ name_at zeros k
  given_zero k h = get_or-append zeros (l ∷ []) 0 k h

  given_last : name_at given (length zeros) ≡ l
  given_last = ap (name_at given) (let s : length zeros ≡ length zeros + 0 = omega arith in s) ∙ get_or-append-add zeros (l ∷ []) 0 0

  zero_or_last : (k : ℕ) → k < length given → (k < length zeros) ⊎ (k ≡ length zeros)
  zero_or_last k h = before_or_here k (length zeros) (let g = given_length in omega arith)

  given_within : (k : ℕ) → k < length given → name_at given k < length vectors
  given_within k h = by (zero_or_last k h)
    where
      by : ((k < length zeros) ⊎ (k ≡ length zeros)) → name_at given k < length vectors
      by (inl a) = let e = given_zero k a in let w = B.within k a in omega arith
      by (inr a) = let e : name_at given k ≡ l = ap (name_at given) a ∙ given_last in let w = B.leaving_within in omega arith

  -- the zeros and the leaving vector
  pub basis_perfect : IsPerfect n (named vectors given)
  basis_perfect =
      let m = named_length vectors given in
      let g = given_length in
      independent_perfect n (named vectors given)
      (λ k h. ap length (named_at vectors given k (omega arith)) ∙ sizes (name_at given k) (given_within k (omega arith)))
      (m ∙ g ∙ B.number) B.independent

  module _ (r s : Symmetric) (R : IsPrimitiveRay n (named vectors zeros) (vector_at vectors l) r)
      (S : IsPrimitiveRay n (named vectors zeros) (vector_at vectors l) s) where
    abbrev a : ℤ
    a = form n (entry r) (coordinate (vector_at vectors l))

    abbrev b : ℤ
    b = form n (entry s) (coordinate (vector_at vectors l))

    -- at each of them b·R and a·S have one value
    one_value : (k : ℕ) → k < length given
        → b *ℤ form n (entry r) (coordinate (slice_index_or (named vectors given) k []))
        ≡ a *ℤ form n (entry s) (coordinate (slice_index_or (named vectors given) k []))
    one_value k h =
        ap (λ (v : List ℕ). b *ℤ form n (entry r) (coordinate v)) (named_at vectors given k h) ∙ by (zero_or_last k h)
        ∙ ap (λ (v : List ℕ). a *ℤ form n (entry s) (coordinate v)) (sym (named_at vectors given k h))
      where
        zero_at : (q : Symmetric) → IsPrimitiveRay n (named vectors zeros) (vector_at vectors l) q → k < length zeros
            → form n (entry q) (coordinate (vector_at vectors (name_at given k))) ≡ pos 0
        zero_at q Q h =
            ap (λ (k : ℕ). form n (entry q) (coordinate (vector_at vectors k))) (given_zero k h)
            ∙ ap (λ (v : List ℕ). form n (entry q) (coordinate v)) (sym (named_at vectors zeros k h))
            ∙ Q.is_ray.at_zeros k [] (let m = named_length vectors zeros in omega arith)

        nothing : (x y : ℤ) → x *ℤ pos 0 ≡ y *ℤ pos 0
        nothing x y = simp expand

        by : ((k < length zeros) ⊎ (k ≡ length zeros))
            → b *ℤ form n (entry r) (coordinate (vector_at vectors (name_at given k)))
            ≡ a *ℤ form n (entry s) (coordinate (vector_at vectors (name_at given k)))
        by (inl h) = ap (λ (z : ℤ). b *ℤ z) (zero_at r R h) ∙ nothing b a ∙ ap (λ (z : ℤ). a *ℤ z) (sym (zero_at s S h))
        by (inr e) =
            let last : name_at given k ≡ l = ap (name_at given) e ∙ given_last in
            ap (λ (m : ℕ). b *ℤ form n (entry r) (coordinate (vector_at vectors m))) last ∙ *ℤ_comm b a
            ∙ ap (λ (m : ℕ). a *ℤ form n (entry s) (coordinate (vector_at vectors m))) (sym last)

    entries_agree : (i j : ℕ) → i < n → j < n → b *ℤ entry r i j ≡ a *ℤ entry s i j
    entries_agree =
        perfect_decides n (named vectors given) (λ i j. b *ℤ entry r i j) (λ i j. a *ℤ entry s i j) basis_perfect
        (λ i j li lj. ap (λ (z : ℤ). b *ℤ z) (entry_flip r i j)) (λ i j li lj. ap (λ (z : ℤ). a *ℤ z) (entry_flip s i j))
        (all_from_places (λ v. form n (λ i j. b *ℤ entry r i j) (coordinate v) ≡ form n (λ i j. a *ℤ entry s i j) (coordinate v)) (named vectors given) (λ k h.
        form-mul n b (entry r) (coordinate (slice_index_or (named vectors given) k []))
        ∙ one_value k (let m = named_length vectors given in omega arith)
        ∙ sym (form-mul n a (entry s) (coordinate (slice_index_or (named vectors given) k [])))))

    numbers_agree : (k : ℕ) → k < triangle n → b *ℤ slice_index_or r.lower k (pos 0) ≡ a *ℤ slice_index_or s.lower k (pos 0)
    numbers_agree k h = at (place_of n k h)
      where
        at : ((i : ℕ) × (j : ℕ) × (i < n) × (j ≤ i) × (k ≡ triangle i + j)) → b *ℤ slice_index_or r.lower k (pos 0) ≡ a *ℤ slice_index_or s.lower k (pos 0)
        at (i, j, li, lj, e) =
            ap (λ (k : ℕ). b *ℤ slice_index_or r.lower k (pos 0)) e ∙ ap (λ (z : ℤ). b *ℤ z) (sym (entry_lower r i j lj))
            ∙ entries_agree i j li (omega arith)
            ∙ ap (λ (z : ℤ). a *ℤ z) (entry_lower s i j lj) ∙ ap (λ (k : ℕ). a *ℤ slice_index_or s.lower k (pos 0)) (sym e)

    pub one_ray : IsSymmetricMatrix r → IsSymmetricMatrix s → r ≡ s
    one_ray hr hs =
        let p = whole_part a R.is_ray.at_leaving in
        let q = whole_part b S.is_ray.at_leaving in
        let long_r : length r.lower ≡ triangle n = hr.triangle.entries ∙ ap triangle R.size in
        let long_s : length s.lower ≡ triangle n = hs.triangle.entries ∙ ap triangle S.size in
        same_record r s (R.size ∙ sym S.size) (lists_same r.lower s.lower (long_r ∙ sym long_s) (λ k h.
        same_multiples p.0 q.0 r.lower s.lower p.1 q.1 (long_r ∙ sym long_s) R.primitive S.primitive
        (λ k h. subst (λ (x : ℤ). x *ℤ slice_index_or r.lower k (pos 0) ≡ pos p.0 *ℤ slice_index_or s.lower k (pos 0)) q.2
        (subst (λ (y : ℤ). b *ℤ slice_index_or r.lower k (pos 0) ≡ y *ℤ slice_index_or s.lower k (pos 0)) p.2 (numbers_agree k (omega arith)))) k
        (omega arith)))
      where
        whole_part : (z : ℤ) → pos 1 ≤ℤ z → (m : ℕ) × (0 < m) × (z ≡ pos m)
        whole_part (pos m) h = (m, omega (arith, ints), refl)
        whole_part (negsuc m) h = absurd (omega (arith, ints))

        same_record : (r s : Symmetric) → r.size ≡ s.size → r.lower ≡ s.lower → r ≡ s
        same_record r s e f = ap₂ (λ (m : ℕ) (xs : List ℤ). (let q : Symmetric = record { size = m; lower = xs } in q)) e f

        lists_same : (xs ys : List ℤ) → length xs ≡ length ys → ((k : ℕ) → k < length xs → slice_index_or xs k (pos 0) ≡ slice_index_or ys k (pos 0)) → xs ≡ ys
        lists_same [] [] e h = refl
        lists_same [] (y ∷ ys) e h = absurd (omega arith)
        lists_same (x ∷ xs) [] e h = absurd (omega arith)
        lists_same (x ∷ xs) (y ∷ ys) e h =
            ap₂ (λ (a : ℤ) (b : List ℤ). a ∷ b) (h 0 (omega arith)) (lists_same xs ys (omega arith) (λ k l. h (suc k) (omega arith)))
