-- The table that the linear program begins with.
use Rattle.std.specs.Prelude.{◌≡◌, ◌≢◌, ℕ, ◌+◌, ◌<◌, ◌≤◌, ℤ, pos, ◌≤ℤ◌, List, [], ◌∷◌, ◌++◌, length}
use Rattle.std.proofs.Common.{arith, sym, subst, length-append}
use Rattle.exact_forms.specs.Rational.{Rational, whole}
use Rattle.exact_forms.proofs.Signs.{positive_not_zero, whole_positive}
use Rattle.symmetric_matrix.specs.Symmetric.{Symmetric}
use Rattle.exact_linear.specs.Tables.{Table, rows_of, basic_at}
use Rattle.exact_linear.specs.Columns.{start_table}
use Rattle.exact_linear.specs.Squares.{squares}
use Rattle.exact_linear.proofs.SquareLists.{length-squares}
use Rattle.exact_linear.proofs.StartTable.{some_units, start_rows, start_basic}
use Rattle.exact_lp.specs.declared.placed.Placed.{Placed}
use Rattle.exact_lp.specs.Placement.{IsPlaceAnswer}
use Rattle.exact_lp.proofs.Meaning.{HasWidth}

pub record IsStart (t : Table) (m : ℕ) : Type 0 where
  pub width : HasWidth t m
  pub row : 1 ≤ rows_of t
  pub units : (i : ℕ) → i < rows_of t → basic_at t i < rows_of t

pub start_is : (vectors : List (List ℕ)) (s : Symmetric) (t : Table) → 1 ≤ s.size → t ≡ start_table s.size (squares vectors ++ s ∷ [])
    → IsStart t (length vectors)
start_is vectors s t h e = subst (λ (t : Table). IsStart t (length vectors)) (sym e) record {
  width = let r = start_rows s.size (squares vectors ++ s ∷ []) in let a = length-append (squares vectors) (s ∷ []) in let b = length-squares vectors in
      omega arith;
  row = let r = start_rows s.size (squares vectors ++ s ∷ []) in let u = some_units s.size h in omega arith;
  units = λ i l. let r = start_rows s.size (squares vectors ++ s ∷ []) in let b = start_basic s.size (squares vectors ++ s ∷ []) i (omega arith) in omega arith;
}

pub divisor : (d : ℤ) → pos 1 ≤ℤ d → whole d ≢ whole (pos 0)
divisor d h = positive_not_zero (whole d) (whole_positive d h)

pub placed_as : (t u : Table) (m n : ℕ) (d e : Rational) (budget : ℕ) (r : Placed) → t ≡ u → m ≡ n → d ≡ e
    → IsPlaceAnswer (record { start = t; vectors = m; d = d }) budget r → IsPlaceAnswer (record { start = u; vectors = n; d = e }) budget r
placed_as t u m n d e budget r f g h P =
    subst (λ (t : Table). IsPlaceAnswer (record { start = t; vectors = n; d = e }) budget r) f
    (subst (λ (m : ℕ). IsPlaceAnswer (record { start = t; vectors = m; d = e }) budget r) g
    (subst (λ (d : Rational). IsPlaceAnswer (record { start = t; vectors = m; d = d }) budget r) h P))
