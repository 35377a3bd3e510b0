-- From the rows of a text to its matrix.
use Rattle.std.proofs.Common.{◌≡◌, ℕ, List, [], ◌∷◌, length, take, map, Option, None, Result, Ok, Err, refl, sym, ap, ◌∙◌, inl, inr, arith}
use Rattle.std.proofs.lemmas.List.{length-map, length-take-le}
use Rattle.exact_forms.specs.Rational.{Rational}
use Rattle.text_lines.specs.Lines.{content_lines, end_line}
use Rattle.text_lines.specs.Square.{lower_of, first_unlike}
use Rattle.matrix_text.specs.RationalMatrix.{RationalMatrix}
use Rattle.matrix_text.specs.Matrix.{none, same_number, entries_of, mirrored, table_of, matrix_of, MatrixText, MatrixFault, HasOneReading}
use Rattle.matrix_text.specs.Rows.{text_row, table_rows, table_entries}
use Rattle.matrix_text.specs.declared.table.Row.{Row}
use Rattle.matrix_text.specs.declared.table.Table.{Table}
use Rattle.matrix_text.specs.declared.fault.TextFault.{TextFault}

entries-rows : (size : ℕ) (rows : List Row) → entries_of (map (text_row size) rows) ≡ map (λ (row : Row). take size row.entries) rows
entries-rows size [] = refl
entries-rows size (row ∷ rows) = ap (λ (xs : List (List Rational)). take size row.entries ∷ xs) (entries-rows size rows)

entries-table : (t : Table) → entries_of (table_rows t) ≡ table_entries t
unfolding table_entries
entries-table t = entries-rows t.size (take t.size t.rows)

length-table : (t : Table) → length (table_rows t) ≡ t.size
length-table t = length-map (take t.size t.rows) (text_row t.size)
    ∙ length-take-le t.size t.rows (let few = t.few in let room = t.room in omega (arith, few, room))

-- what a table gives, read of the bytes
pub table-read : (bytes : List ℕ) (t : Table) → table_of (record { lines = content_lines bytes; end = end_line bytes }) ≡ Ok (table_rows t)
    → matrix_of bytes ≡ mirrored (table_rows t) (first_unlike same_number none (table_entries t))
unfolding matrix_of
table-read bytes t read = rw read (ap (λ (rows : List (List Rational)). mirrored (table_rows t) (first_unlike same_number none rows)) (entries-table t))

pub symmetric-table : (t : Table) (first : Option ℕ) → first ≡ None
    → mirrored (table_rows t) first ≡ Ok (record { size = t.size; lower = lower_of (table_entries t) })
symmetric-table t first alike =
    rw (alike, length-table t) (ap (λ (rows : List (List Rational)). made (record { size = t.size; lower = lower_of rows })) (entries-table t))
  where
    made : RationalMatrix → Result RationalMatrix TextFault
    made a = Ok a

pub fault-read : (bytes : List ℕ) (fault : TextFault) → table_of (record { lines = content_lines bytes; end = end_line bytes }) ≡ Err fault
    → MatrixFault bytes fault.kind fault.line
unfolding matrix_of MatrixFault
fault-read bytes fault read = rw read refl

-- ---- one reading

pub one-reading : (bytes : List ℕ) → HasOneReading bytes
unfolding MatrixText MatrixFault
one-reading bytes = by (matrix_of bytes) refl
  where
    by : (read : Result RationalMatrix TextFault) → matrix_of bytes ≡ read → HasOneReading bytes
    by (Ok a) is = inl (a, record { text = is; alone = λ b h. same a b (sym is ∙ h); faultless = λ kind line h. apart (sym is ∙ h) })
      where
        same : (a b : RationalMatrix) → ◌≡◌ {A = Result RationalMatrix TextFault} (Ok a) (Ok b) → b ≡ a
        same a b e = cc

        apart : {a : RationalMatrix} {fault : TextFault} → ◌≡◌ {A = Result RationalMatrix TextFault} (Ok a) (Err fault) → ⊥
        apart e = cc
    by (Err f) is =
        inr (f, record { fault = is; alone = λ kind line h. same f (record { kind = kind; line = line }) (sym is ∙ h); no_text = λ a h. apart (sym is ∙ h) })
      where
        same : (f g : TextFault) → ◌≡◌ {A = Result RationalMatrix TextFault} (Err f) (Err g) → (g.kind ≡ f.kind) × (g.line ≡ f.line)
        same f g e = (cc, cc)

        apart : {a : RationalMatrix} {fault : TextFault} → ◌≡◌ {A = Result RationalMatrix TextFault} (Err fault) (Ok a) → ⊥
        apart e = cc
