-- How many rows and columns a tableau has.
use Rattle.std.proofs.Common.{◌≡◌, ℕ, ◌∙◌, ap, refl, arith, length, List, Result, Ok, Err, IfOk, IfErr}
use Rattle.exact_forms.specs.Triangles.{triangle}
use Rattle.symmetric_matrix.specs.Symmetric.{Symmetric}
use Rattle.exact_linear.specs.Tables.{Table, rows_of}
use Rattle.exact_linear.specs.Columns.{start_table}
use Rattle.exact_linear.specs.Exchange.{exchanged}
use Rattle.exact_linear.proofs.StartTable.{start_rows}
use Rattle.exact_linear.proofs.Exchanges.{exchanged_rows, exchanged_width}

pub triangle_six : triangle 6 ≡ 21
unfolding triangle
triangle_six = refl

pub rows_over_units : (given : List Symmetric) (t : Table) → t ≡ start_table 6 given → rows_of t ≡ 21
rows_over_units given t e = ap rows_of e ∙ start_rows 6 given ∙ triangle_six

pub width_over_units : (given : List Symmetric) (t : Table) → length given ≡ 494 → t ≡ start_table 6 given → t.width ≡ 516
width_over_units given t l e = let w = ap (λ (t : Table). t.width) e in let s = triangle_six in omega arith

abbrev pub HasSizes : ℕ → ℕ → Table → Type 0
HasSizes rows width t = (rows_of t ≡ rows) × (t.width ≡ width)

-- an exchange keeps them, made or refused
pub sizes_after : {V E : Type 0} (r : Result V E) (rows width i j : ℕ) (t u : Table) → HasSizes rows width t → IfOk r (λ _. u ≡ exchanged t i j)
    → IfErr r (λ _. u ≡ t) → HasSizes rows width u
sizes_after (Ok v) rows width i j t u h made kept =
    (ap rows_of made ∙ exchanged_rows t i j ∙ h.0, ap (λ (t : Table). t.width) made ∙ exchanged_width t i j ∙ h.1)
sizes_after (Err e) rows width i j t u h made kept = (ap rows_of kept ∙ h.0, ap (λ (t : Table). t.width) kept ∙ h.1)
