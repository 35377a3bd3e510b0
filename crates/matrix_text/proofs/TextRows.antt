-- Rows, read line by line.
use Rattle.std.proofs.Common.{◌≡◌, ℕ, suc, ◌+◌, ◌-◌, ◌<◌, ◌≤◌, List, [], ◌∷◌, length, take, set, map, Ok, Err, refl, sym, ap, arith}
use Rattle.std.proofs.lemmas.List.{append-nil, take_more_set, map_push}
use Rattle.text_lines.specs.Lines.{TextLine}
use Rattle.matrix_text.specs.declared.table.Row.{Row}
use Rattle.matrix_text.specs.declared.fault.TextFault.{TextFault}
use Rattle.matrix_text.specs.declared.fault.TextKind.TheVariants.{MissingRow, ExtraLine}
use Rattle.matrix_text.specs.Matrix.{TextRow, row_of_words, rows_of_lines, read_line}
use Rattle.matrix_text.specs.Rows.{text_row}
use Rattle.text_lines.proofs.Fronts.{after_front, after_none, after_more}

pub rows_more : (rows : List Row) (size end k i : ℕ) (left : List TextLine) (line : TextLine) (more : List TextLine) (row : Row) → i < k → i < length rows
    → left ≡ line ∷ more → read_line (row_of_words size) line ≡ Ok (take size row.entries) → row.line ≡ line.number
    → after_front (map (text_row size) (take (i + 1) (set rows i row))) (rows_of_lines size end (k - (i + 1)) more)
    ≡ after_front (map (text_row size) (take i rows)) (rows_of_lines size end (k - i) left)
unfolding rows_of_lines
rows_more rows size end k i left line more row lt in_rows e is at =
    let n : k - i ≡ suc (k - (i + 1)) = omega arith in
    rw (
      take_more_set rows i row in_rows,
      map_push (text_row size) (take i rows) row,
      e,
      n,
      is,
      ← at,
    ) (sym (after_more (map (text_row size) (take i rows)) (text_row size row) (rows_of_lines size end (k - (i + 1)) more)))

pub rows_fault : (front : List TextRow) (size end k i : ℕ) (left : List TextLine) (line : TextLine) (more : List TextLine) (fault : TextFault) → i < k
    → left ≡ line ∷ more → read_line (row_of_words size) line ≡ Err fault
    → after_front front (rows_of_lines size end (k - i) left) ≡ Err fault
unfolding rows_of_lines after_front
rows_fault front size end k i left line more fault lt e is =
    let n : k - i ≡ suc (k - (i + 1)) = omega arith in
    rw (e, n, is) refl

pub rows_missing : (front : List TextRow) (size end k i : ℕ) (left : List TextLine) → i < k → left ≡ []
    → after_front front (rows_of_lines size end (k - i) left) ≡ Err (record { kind = MissingRow; line = end })
unfolding rows_of_lines after_front
rows_missing front size end k i left lt e =
    let n : k - i ≡ suc (k - (i + 1)) = omega arith in
    rw (e, n) refl

pub rows_extra : (front : List TextRow) (size end k i : ℕ) (left : List TextLine) (line : TextLine) (more : List TextLine) (fault : TextFault) → k ≤ i
    → left ≡ line ∷ more → read_line {A = List TextRow} (λ words. Err ExtraLine) line ≡ Err fault
    → after_front front (rows_of_lines size end (k - i) left) ≡ Err fault
unfolding rows_of_lines after_front
rows_extra front size end k i left line more fault le e is =
    let n : k - i ≡ 0 = omega arith in
    rw (e, n, is) refl

pub rows_end : (front : List TextRow) (size end k i : ℕ) (left : List TextLine) → k ≤ i → left ≡ []
    → after_front front (rows_of_lines size end (k - i) left) ≡ Ok front
unfolding rows_of_lines after_front
rows_end front size end k i left le e =
    let n : k - i ≡ 0 = omega arith in
    rw (e, n) (ap Ok (append-nil front))

pub ruleset rows_steps = (after_none, rows_more, rows_fault, rows_missing, rows_extra, rows_end)
