-- Tables stay rectangles.
use Rattle.std.specs.Prelude.{◌≡◌, ◌≢◌, ℕ, suc, ◌+◌, ◌*◌, ◌<◌, ◌⊎◌, pos, nat_eq, List, [], ◌∷◌, length, if◌then◌else◌}
use Rattle.std.proofs.Common.{arith, sym, ◌∙◌, ap, ap₂, refl, inl, inr}
use Rattle.commutative_ring.proofs.SmallCases.{same_or_not}
use Rattle.exact_forms.specs.Rational.{Rational, whole}
use Rattle.exact_forms.specs.Triangles.{triangle}
use Rattle.symmetric_matrix.specs.Symmetric.{Symmetric}
use Rattle.exact_linear.specs.Tables.{Table, IsRectangle, rows_of, table_entry, basic_at}
use Rattle.exact_linear.specs.Columns.{start_cell, width_of, start_table, with_sum}
use Rattle.exact_linear.specs.Exchange.{exchanged, rest_cells, table_cells, pivot_row, next_row, next_column}
use Rattle.exact_linear.proofs.Fill.{length-cells}
use Rattle.exact_linear.proofs.Exchanges.{exchanged_rows, exchanged_width, exchanged_basic_here, exchanged_basic_other}
use Rattle.exact_linear.proofs.StartTable.{start_rows, start_basic}

pub rest_length : (r c w : ℕ) (new old xs : List Rational) (i j : ℕ) → length (rest_cells r c w new old xs i j) ≡ length xs
unfolding rest_cells
rest_length r c w new old [] i j = refl
rest_length r c w new old (x ∷ xs) i j = ap (λ (n : ℕ). suc n) (rest_length r c w new old xs (next_row w i j) (next_column w i j))

cells_length : (t : Table) (r c : ℕ) → length (exchanged t r c).entries ≡ length t.entries
unfolding exchanged table_cells
cells_length t r c = rest_length r c t.width (pivot_row t.width t.entries r c) t.entries t.entries 0 0

pub exchanged_rectangle : (t : Table) (r c : ℕ) → IsRectangle t → r < rows_of t → c < t.width → IsRectangle (exchanged t r c)
exchanged_rectangle t r c R lr lc = record {
  cells = cells_length t r c ∙ R.cells ∙ sym (ap₂ (λ (a : ℕ) (b : ℕ). a * b) (exchanged_rows t r c) (exchanged_width t r c));
  positive = let e = exchanged_width t r c in let p = R.positive in omega arith;
  within = λ i l. by i (let e = exchanged_rows t r c in omega arith) (same_or_not i r);
}
  where
    by : (i : ℕ) → i < rows_of t → ((i ≡ r) ⊎ (i ≢ r)) → basic_at (exchanged t r c) i < (exchanged t r c).width
    by i l (inl s) = let e : basic_at (exchanged t r c) i ≡ c = ap (λ (i : ℕ). basic_at (exchanged t r c) i) s ∙ exchanged_basic_here t r c lr in let w =
        exchanged_width t r c in omega arith
    by i l (inr n) = let e = exchanged_basic_other t r c i n in let b = R.within i l in let w = exchanged_width t r c in omega arith

pub summed_rectangle : (t : Table) → IsRectangle t → IsRectangle (with_sum t)
summed_rectangle t R = record {
  cells = length-cells (rows_of t) t.width (λ i j. if nat_eq (j + 1) t.width then whole (pos 1) else table_entry t i j);
  positive = R.positive;
  within = λ i l. R.within i l;
}

pub start_rectangle : (n : ℕ) (given : List Symmetric) → IsRectangle (start_table n given)
start_rectangle n given = record {
  cells = length-cells (triangle n) (width_of n given) (start_cell (triangle n) given) ∙ ap (λ (r : ℕ). r * width_of n given) (sym (start_rows n given));
  positive = omega arith;
  within = λ i l. let r = start_rows n given in let b = start_basic n given i (omega arith) in omega arith;
}
