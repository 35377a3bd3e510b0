-- The call puts the steps together.
use Rattle.std.specs.Prelude.{◌≡◌, ◌≢◌, ℕ, ◌+◌, ◌<◌, ◌≤◌, ℤ, List, length, Result, Ok, Err, IfOk, IfErr}
use Rattle.std.proofs.Common.{arith, sym, ◌∙◌, ap, ap₂, subst}
use Rattle.exact_forms.specs.Triangles.{triangle}
use Rattle.symmetric_matrix.specs.Symmetric.{Symmetric, IsLower}
use Rattle.symmetric_matrix.specs.Lists.{IsVectorList}
use Rattle.symmetric_matrix.specs.Combining.{primitive_of}
use Rattle.symmetric_matrix.specs.Divisors.{divisor_from}
use Rattle.exact_linear.specs.declared.entry.EntryOp.{EntryOp}
use Rattle.exact_linear.specs.Tables.{Table, rows_of, row_of, or_zero}
use Rattle.exact_linear.specs.Columns.{start_table}
use Rattle.exact_linear.specs.Exchange.{first_bases, first_ops}
use Rattle.exact_linear.proofs.BringIn.{first_shape}
use Rattle.exact_linear.proofs.StartTable.{start_rows}
use Rattle.exact_linear.specs.Squares.{name_at, squares, vector_at, named}
use Rattle.exact_linear.proofs.SquareLists.{length-squares}
use Rattle.extreme_ray.specs.declared.clearing.Coefficient.{Coefficient}
use Rattle.extreme_ray.specs.declared.ray.RayFail.{RayFail}
use Rattle.extreme_ray.specs.Clearing.{cleared_coefficients, ray_clear_ops, cleared_matrix}
use Rattle.extreme_ray.specs.Rays.{ray_names, position, vector_size, ray_start, ray_table, ray_row, coefficients, ray_coefficients, ray, IsRayBasis}
use Rattle.extreme_ray.specs.Rays.{IsRayAnswer, IsPrimitiveRay}
use Rattle.extreme_ray.specs.Steps.{NoEntryOwed, NothingOwed, IsEntryFail, IsClearFail}
use Rattle.extreme_ray.proofs.Names.{named_length, name_within, leaving_found}
use Rattle.extreme_ray.proofs.Cleared.{length-coefficients, length-numerators}
use Rattle.extreme_ray.proofs.Meaning.{row_within, divisor_not_zero, is_primitive_ray}
use Rattle.extreme_ray.proofs.Answering.{ray_entries_of, entry_answer, clear_answer, none_answer, cleared_narrow}

pub cleared_lower : (t : Table) (r n : ℕ) (zs : List ℤ) → NothingOwed (ray_clear_ops (coefficients t r n)) → zs ≡ cleared_coefficients (coefficients t r n)
    → IsLower n zs
cleared_lower t r n zs h e = subst (λ (zs : List ℤ). IsLower n zs) (sym e) record {
  entries = length-numerators _ (coefficients t r n) ∙ length-coefficients t r n;
  fits = cleared_narrow (coefficients t r n) h;
}

pub cleared_lower_as : (t : Table) (r n : ℕ) (cs : List Coefficient) (zs : List ℤ) → cs ≡ coefficients t r n → NothingOwed (ray_clear_ops cs)
    → zs ≡ cleared_coefficients cs → IsLower n zs
cleared_lower_as t r n cs zs c h e =
    cleared_lower t r n zs (subst (λ (cs : List Coefficient). NothingOwed (ray_clear_ops cs)) c h) (e ∙ ap cleared_coefficients c)

pub start_width : (n : ℕ) (vectors : List (List ℕ)) (names : List ℕ) (t : Table) → t ≡ start_table n (squares (named vectors names))
    → rows_of t + length names ≤ t.width
start_width n vectors names t e = subst (λ (t : Table). rows_of t + length names ≤ t.width) (sym e) (
    let r = start_rows n (squares (named vectors names)) in
    let a = length-squares (named vectors names) in
    let b = named_length vectors names in
    omega arith)

-- what the call has found: the names and the size
pub record IsFound (vectors : List (List ℕ)) (zeros : List ℕ) (l : ℕ) (ns : List ℕ) (n : ℕ) : Type 0 where
  pub basis : IsRayBasis (vector_size vectors l) vectors zeros l
  pub list : IsVectorList vectors
  pub names : ns ≡ ray_names vectors zeros l
  pub size : n ≡ vector_size vectors l

module _ (vectors : List (List ℕ)) (zeros : List ℕ) (l : ℕ) (ns : List ℕ) (n : ℕ) (F : IsFound vectors zeros l ns n) where
  sizes : (k : ℕ) → k < length vectors → length (vector_at vectors k) ≡ vector_size vectors l
  sizes k h = F.list.one_length k l h F.basis.leaving_within

  pub within : (i : ℕ) → i < length ns → name_at ns i < length vectors
  within = subst (λ (xs : List ℕ). (i : ℕ) → i < length xs
      → name_at xs i < length vectors) (sym F.names) (name_within (vector_size vectors l) vectors zeros l F.basis)

  pub sizes_are : (k : ℕ) → k < length vectors → length (vector_at vectors k) ≡ n
  sizes_are k h = sizes k h ∙ sym F.size

  start_is : start_table n (squares (named vectors ns)) ≡ ray_start vectors zeros l
  start_is = ap₂ (λ (n : ℕ) (xs : List ℕ). start_table n (squares (named vectors xs))) F.size F.names

  ops_are : first_ops (start_table n (squares (named vectors ns))) (length ns) ≡ ray_entries_of vectors zeros l
  ops_are = ap₂ (λ (n : ℕ) (xs : List ℕ). first_ops (start_table n (squares (named vectors xs))) (length xs)) F.size F.names

  pub fails : (f : RayFail) → IsEntryFail (first_ops (start_table n (squares (named vectors ns))) (length ns)) f → IsRayAnswer vectors zeros l (Err f)
  fails f h = entry_answer vectors zeros l f (subst (λ (ops : List EntryOp). IsEntryFail ops f) ops_are h)

  module _ (t : Table) (table : t ≡ first_bases (start_table n (squares (named vectors ns))) (length ns)) where
    table_is : t ≡ ray_table vectors zeros l
    table_is = table ∙ ap₂ (λ (n : ℕ) (xs : List ℕ). first_bases (start_table n (squares (named vectors xs))) (length xs)) F.size F.names

    rows_are : rows_of t ≡ triangle n
    rows_are = ap (λ (t : Table). rows_of t) table ∙ (first_shape (start_table n (squares (named vectors ns))) (length ns)).1
        ∙ start_rows n (squares (named vectors ns))

    pub width_is : t.width ≡ triangle n + length ns + 1
    width_is =
        let w : t.width ≡ (start_table n (squares (named vectors ns))).width = ap (λ (t : Table). t.width) table
        ∙ (first_shape (start_table n (squares (named vectors ns))) (length ns)).0 in
        let a = length-squares (named vectors ns) in
        let b = named_length vectors ns in
        omega arith

    pub units_within : triangle n ≤ t.width
    units_within = let w = width_is in omega arith

    pub place_within : rows_of t + position ns l < t.width
    place_within =
        let w = width_is in
        let r = rows_are in
        let p : position ns l < length ns =
        subst (λ (xs : List ℕ). position xs l < length xs) (sym F.names) (leaving_found (vector_size vectors l) vectors zeros l F.basis).within in
        omega arith

    module _ (row : ℕ) (row_here : row ≡ or_zero (row_of t (rows_of t + position ns l))) where
      row_is : row ≡ ray_row vectors zeros l
      row_is =
          row_here ∙ ap (λ (r : ℕ). or_zero (row_of t (r + position ns l))) (rows_are ∙ ap triangle F.size)
          ∙ ap₂ (λ (t : Table) (xs : List ℕ). or_zero (row_of t (triangle (vector_size vectors l) + position xs l))) table_is F.names

      pub row_inside : row < rows_of t
      row_inside = let w = row_within vectors zeros l F.basis sizes in let r = row_is in let q : rows_of t ≡ rows_of (ray_table vectors zeros l) =
          ap (λ (t : Table). rows_of t) table_is in omega arith

      coefficients_are : coefficients t row n ≡ ray_coefficients vectors zeros l
      coefficients_are = ap₂ (λ (t : Table) (r : ℕ). coefficients t r n) table_is row_is
          ∙ ap (coefficients (ray_table vectors zeros l) (ray_row vectors zeros l)) F.size

      pub divisor_here : divisor_from 0 (cleared_coefficients (coefficients t row n)) ≢ 0
      divisor_here =
          subst (λ (cs : List Coefficient). divisor_from 0 (cleared_coefficients cs) ≢ 0) (sym coefficients_are)
          (divisor_not_zero vectors zeros l F.basis sizes)

      made_is : (r : Symmetric) → r ≡ primitive_of (cleared_matrix n (coefficients t row n)) → r ≡ ray vectors zeros l
      unfolding ray
      made_is r e = e ∙ ap₂ (λ (n : ℕ) (cs : List Coefficient). primitive_of (cleared_matrix n cs)) F.size coefficients_are

      pub answers : NoEntryOwed (first_ops (start_table n (squares (named vectors ns))) (length ns)) → (result : Result Symmetric RayFail)
          → IfOk result (λ r. NothingOwed (ray_clear_ops (coefficients t row n)) × (r ≡ primitive_of (cleared_matrix n (coefficients t row n))))
          → IfErr result (IsClearFail (ray_clear_ops (coefficients t row n))) → IsRayAnswer vectors zeros l result
      answers o (Ok r) h k = (
        none_answer vectors zeros l (subst NoEntryOwed ops_are o) (subst (λ (cs : List Coefficient). NothingOwed (ray_clear_ops cs)) coefficients_are h.0),
        made_is r h.1,
      )
      answers o (Err f) h k =
          clear_answer vectors zeros l f (subst NoEntryOwed ops_are o) (subst (λ (cs : List Coefficient). IsClearFail (ray_clear_ops cs) f) coefficients_are k)

      pub means : (result : Result Symmetric RayFail)
          → IfOk result (λ r. NothingOwed (ray_clear_ops (coefficients t row n)) × (r ≡ primitive_of (cleared_matrix n (coefficients t row n))))
          → IfOk result (λ r. IsPrimitiveRay (vector_size vectors l) (named vectors zeros) (vector_at vectors l) r)
      means (Ok r) h =
          subst (λ (r : Symmetric). IsPrimitiveRay (vector_size vectors l) (named vectors zeros) (vector_at vectors l) r) (sym (made_is r h.1))
          (is_primitive_ray vectors zeros l F.basis sizes)
      means (Err f) h = tt
