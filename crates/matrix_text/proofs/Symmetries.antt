-- A table is compared with its mirror image, place by place.
use Rattle.std.proofs.Common.{◌≡◌, ℕ, ◌-◌, ◌<◌, Bool, not, List, [], ◌∷◌, length, get_or, take, find, refl, sym, ap, ◌∙◌, arith}
use Rattle.std.specs.List.{list_all, range_with_len}
use Rattle.std.proofs.lemmas.List.{get_or-map, get_or-take, length-take-le, length-map, get_or_default}
use Rattle.exact_forms.specs.Rational.{Rational}
use Rattle.text_lines.specs.Square.{entry_at, mirrors, first_unlike}
use Rattle.text_lines.proofs.Squares.{IsSquare}
use Rattle.matrix_text.specs.declared.table.Row.{Row}
use Rattle.matrix_text.specs.declared.table.Table.{Table}
use Rattle.matrix_text.specs.Matrix.{none, same_number}
use Rattle.matrix_text.specs.Rows.{table_entries}

-- what counts of a row
abbrev row_entries : ℕ → Row → List Rational
row_entries size row = take size row.entries

pub length-entries : (t : Table) → length (table_entries t) ≡ t.size
unfolding table_entries
length-entries t = length-map (take t.size t.rows) (row_entries t.size)
    ∙ length-take-le t.size t.rows (let few = t.few in let room = t.room in omega (arith, few, room))

row_at-entries : (t : Table) (i : ℕ) (row : Row) → i < t.size → get_or (table_entries t) i [] ≡ take t.size (get_or t.rows i row).entries
unfolding table_entries
row_at-entries t i row lt =
    let few = t.few in
    let room = t.room in
    let len : length (take t.size t.rows) ≡ t.size = length-take-le t.size t.rows (omega (arith, few, room)) in
    get_or-map (row_entries t.size) (take t.size t.rows) i row [] (omega (arith, len)) ∙ ap (row_entries t.size) (get_or-take t.size t.rows i row lt)

pub entry_at-entries : (t : Table) (i j : ℕ) (row : Row) (entry : Rational) → i < t.size → j < t.size
    → get_or (get_or t.rows i row).entries j entry ≡ entry_at none (table_entries t) i j
unfolding entry_at
entry_at-entries t i j row entry lt left =
    let few = t.few in
    let room = (get_or t.rows i row).room in
    rw (row_at-entries t i row lt) (get_or_default (get_or t.rows i row).entries j entry none (omega (arith, few, room))
    ∙ sym (get_or-take t.size (get_or t.rows i row).entries j none left))

-- the entry at (i, j) is as that at (j, i)
abbrev pub is_like : Table → ℕ → ℕ → Bool
is_like t i j = same_number (entry_at none (table_entries t) i j) (entry_at none (table_entries t) j i)

abbrev pub is_unlike : Table → ℕ → Bool
is_unlike t i = not (mirrors same_number none (table_entries t) i)

pub likes : (t : Table) (i : ℕ) → list_all (is_like t i) (range_with_len 0 (i - 0)) ≡ mirrors same_number none (table_entries t) i
unfolding mirrors
likes t i = (let k : i - 0 ≡ i = omega arith in rw k refl)

pub unlikes : (t : Table) → find (is_unlike t) (range_with_len 0 (t.size - 0)) ≡ first_unlike same_number none (table_entries t)
unfolding first_unlike
unlikes t = (let k : t.size - 0 ≡ t.size = omega arith in rw (k, length-entries t) refl)

-- a row like any other
empty : Row
empty = record { line = 0; entries = none ∷ none ∷ none ∷ none ∷ none ∷ none ∷ []; room = refl }

pub length-row : (t : Table) (i : ℕ) → i < t.size → length (get_or (table_entries t) i []) ≡ t.size
length-row t i lt =
    let few = t.few in
    let room = (get_or t.rows i empty).room in
    rw (row_at-entries t i empty lt) (length-take-le t.size (get_or t.rows i empty).entries (omega (arith, few, room)))

pub square-entries : (t : Table) → IsSquare t.size (table_entries t)
square-entries t = record { len = length-entries t; each = λ i lt. length-row t i lt }
