-- The answer Outside in the words of vectors.
use Rattle.std.specs.Prelude.{◌≡◌, ◌≢◌, ℕ, ◌+◌, ◌<◌, ◌⊎◌, ◌<ℤ◌, ◌*ℤ◌, pos, Bool, true, false, List, [], ◌∷◌, ◌++◌, length, slice_index_or}
use Rattle.std.specs.List.{Contains}
use Rattle.std.proofs.Common.{arith, sym, ◌∙◌, ap, subst, inl, inr, length-append, get_or-append-add}
use Rattle.std.proofs.Math.ListN.{get_or-append}
use Rattle.std.proofs.lemmas.List.{get_or-map, length-map}
use Rattle.commutative_ring.proofs.SmallCases.{names_apart as all_apart, here_or_before}
use Rattle.exact_forms.specs.Rational.{Rational, whole}
use Rattle.exact_forms.specs.Signs.{IsPositive}
use Rattle.exact_forms.specs.Slacks.{replaced}
use Rattle.exact_forms.specs.Coordinates.{swapped}
use Rattle.exact_forms.specs.Copositive.{Matrix, IsExtremeRay}
use Rattle.exact_forms.specs.Forms.{inner}
use Rattle.exact_forms.specs.Neighbours.{IsRay}
use Rattle.exact_forms.specs.RankOne.{AreIndependent}
use Rattle.exact_forms.specs.Triangles.{triangle}
use Rattle.exact_forms.specs.Vectors.{coordinate}
use Rattle.exact_forms.proofs.RankOne.{independent_of_free}
use Rattle.exact_forms.proofs.Rays.{outside_extreme, ray_value_negative}
use Rattle.exact_forms.proofs.Signs.{negative_opposite}
use Rattle.exact_forms.proofs.Slacks.{replaced_here, replaced_other}
use Rattle.symmetric_matrix.specs.Symmetric.{Symmetric, entry}
use Rattle.exact_linear.specs.Squares.{name_at, vector_at, named}
use Rattle.exact_lp.specs.Program.{Program, IsProgram, EndsOutside, IsState}
use Rattle.exact_lp.specs.OfVectors.{IsProgramOf}
use Rattle.exact_lp.specs.Simplex.{IsOutsideOf}
use Rattle.exact_linear.specs.Separation.{IsSeparating}

-- ---- a name at the end of a list
name_before : (names : List ℕ) (v i : ℕ) → i < length names → name_at (names ++ v ∷ []) i ≡ name_at names i
name_before names v i l = get_or-append names (v ∷ []) 0 i l

name_last : (names : List ℕ) (v i : ℕ) → i ≡ length names → name_at (names ++ v ∷ []) i ≡ v
name_last names v i e = ap (name_at (names ++ v ∷ [])) (let s : i ≡ length names + 0 = omega arith in s) ∙ get_or-append-add names (v ∷ []) 0 0

module _ (P : Program) (B : ℕ → Bool) (coord start : ℕ → ℕ
    → Rational) (R : IsProgram P start) (H : IsState P B coord) (O : EndsOutside P coord) (vectors : List (List ℕ)) (s : Symmetric)
    (V : IsProgramOf P vectors s)
    (zeros : List ℕ) (leaving : ℕ) (Z : IsOutsideOf P B coord zeros leaving) where
  zero_within : (i : ℕ) → i < length zeros → name_at zeros i < length vectors
  zero_within i l = let a = Z.vectors i l in let b = V.high in omega arith

  vector_within : leaving < length vectors
  vector_within = let a = (R.first_is_vector Z.place Z.within).1 in let b = Z.vector_is in let c = V.high in omega arith

  column_within : (k : ℕ) → k < length vectors → P.low + k < P.columns.count
  column_within k l = let a = V.high in let b = R.vectors in omega arith

  -- ---- independence
  abbrev names : List ℕ
  names = zeros ++ leaving ∷ []

  names_length : length (named vectors names) ≡ length zeros + 1
  names_length = length-map names (vector_at vectors) ∙ length-append zeros (leaving ∷ [])

  name_within : (i : ℕ) → i < length zeros + 1 → name_at names i < length vectors
  name_within i l = by (here_or_before i (length zeros) l)
    where
      by : ((i ≡ length zeros) ⊎ (i < length zeros)) → name_at names i < length vectors
      by (inl e) = let n = name_last zeros leaving i e in let w = vector_within in omega arith
      by (inr m) = let n = name_before zeros leaving i m in let w = zero_within i m in omega arith

  kept_basic : (i : ℕ) → i < length zeros → swapped B P.top (P.low + leaving) (P.low + name_at zeros i) ≡ true
  kept_basic i l =
      replaced_other (replaced B P.top false) (P.low + leaving) true (P.low + name_at zeros i) (λ e. Z.apart i l (omega arith))
      ∙ replaced_other B P.top false (P.low + name_at zeros i) (R.top_apart (P.low + name_at zeros i) (omega arith) (Z.vectors i l))
      ∙ Z.basic i l

  column_basic : (i : ℕ) → i < length zeros + 1 → swapped B P.top (P.low + leaving) (P.low + name_at names i) ≡ true
  column_basic i l = by (here_or_before i (length zeros) l)
    where
      by : ((i ≡ length zeros) ⊎ (i < length zeros)) → swapped B P.top (P.low + leaving) (P.low + name_at names i) ≡ true
      by (inl e) = replaced_here (replaced B P.top false) (P.low + leaving) true (P.low + name_at names i)
          (ap (λ (v : ℕ). P.low + v) (name_last zeros leaving i e))
      by (inr m) = ap (λ (v : ℕ). swapped B P.top (P.low + leaving) (P.low + v)) (name_before zeros leaving i m) ∙ kept_basic i m

  names_apart : (i j : ℕ) → i < j → j < length zeros + 1 → name_at names i ≢ name_at names j
  names_apart i j h l e = by (here_or_before j (length zeros) l)
    where
      before : name_at names i ≡ name_at zeros i
      before = name_before zeros leaving i (omega arith)

      by : ((j ≡ length zeros) ⊎ (j < length zeros)) → ⊥
      by (inl d) = Z.apart i (omega arith) (sym before ∙ e ∙ name_last zeros leaving j d)
      by (inr m) = let n = name_before zeros leaving j m in let less = Z.increasing i j h m in let b = before in omega arith

  columns_apart : (i j : ℕ) → i < length zeros + 1 → j < length zeros + 1 → i ≢ j → P.low + name_at names i ≢ P.low + name_at names j
  columns_apart = all_apart (λ i. P.low + name_at names i) (length zeros + 1) (λ i j l lj e. names_apart i j l lj (omega arith))

  named_vector : (i : ℕ) → i < length zeros + 1 → slice_index_or (named vectors names) i [] ≡ vector_at vectors (name_at names i)
  named_vector i l = get_or-map (vector_at vectors) names i 0 [] (let a = length-append zeros (leaving ∷ []) in omega arith)

  names_independent : AreIndependent P.columns.size (named vectors names)
  names_independent =
      let n = names_length in
      independent_of_free P.columns (swapped B P.top (P.low + leaving)) (named vectors names) (λ i. P.low + name_at names i) Z.is_basis.independent
      (λ i l. column_within (name_at names i) (name_within i (omega arith)))
      (λ i l. column_basic i (omega arith))
      (λ i j li lj ne. columns_apart i j (omega arith) (omega arith) ne)
      (λ k a b l la lb. V.has_vectors.entry (name_at names k) a b (name_within k (omega arith)) la lb
      ∙ ap (λ (v : List ℕ). whole (coordinate v a *ℤ coordinate v b)) (sym (named_vector k (omega arith))))

  -- ---- the ray
  basic_vector : (k : ℕ) → k < P.columns.count → B k ≡ true → k ≢ P.top → (i : ℕ) × (i < length vectors) × (P.low + i ≡ k)
  basic_vector k l b n = let z = Z.every k l b n in (name_at zeros z.place, zero_within z.place z.within, z.here)

  listed : (k : ℕ) → k < length vectors → B (P.low + k) ≡ true → Contains (named vectors zeros) (vector_at vectors k)
  listed k l b =
      let z = Z.every (P.low + k) (column_within k l) b (R.top_apart (P.low + k) (omega arith) (let a = V.high in omega arith)) in
      let here = z.here in
      let same : name_at zeros z.place ≡ k = omega arith in (
        z.place,
        (let w = z.within in let n = length-map zeros (vector_at vectors) in omega arith),
        get_or-map (vector_at vectors) zeros z.place 0 (vector_at vectors k) z.within ∙ ap (vector_at vectors) same,
      )

  coordinate_positive : IsPositive (coord (P.low + leaving) P.top)
  coordinate_positive = subst (λ (k : ℕ). IsPositive (coord k P.top)) (sym Z.vector_is) Z.positive

  ray_extreme : (r : Matrix) → IsRay P.columns.size (named vectors zeros) (vector_at vectors leaving) r → IsExtremeRay P.columns.size r vectors
  ray_extreme r Y =
      outside_extreme P.columns B coord H.basis P.top R.top_within P.low vectors V.has_vectors basic_vector r (named vectors zeros) leaving Y vector_within
      listed coordinate_positive V.units
      (λ k l. O.none (P.low + k) (omega arith) (let a = V.high in omega arith))

  ray_separates : (r : Matrix) → IsRay P.columns.size (named vectors zeros) (vector_at vectors leaving) r → inner P.columns.size r (entry s) <ℤ pos 0
  ray_separates r Y =
      ray_value_negative P.columns B coord H.basis P.top R.top_within P.low vectors V.has_vectors basic_vector r (named vectors zeros) leaving Y vector_within
      listed coordinate_positive (entry s) P.target R.target_within
      (λ i j li lj. V.target i j (let z = V.size in omega arith) (let z = V.size in omega arith))
      ((negative_opposite (coord P.target P.top)).0 O.here)

  pub separating : IsSeparating s.size vectors s zeros leaving
  separating = subst (λ (n : ℕ). IsSeparating n vectors s zeros leaving) V.size record {
    within = zero_within;
    leaving_within = vector_within;
    increasing = Z.increasing;
    apart = Z.apart;
    number = Z.number ∙ V.low ∙ ap triangle (sym V.size);
    independent = names_independent;
    extreme = ray_extreme;
    separates = ray_separates;
  }
