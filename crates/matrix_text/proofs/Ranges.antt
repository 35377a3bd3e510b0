-- What is read has one to six rows, as many entries in each, and no large number.
use Rattle.std.proofs.Common.{◌≡◌, ℕ, zero, suc, ◌<◌, ◌≤◌, not, ◌&&◌, ltb, List, [], ◌∷◌, length, Option, Some, None, Result, Ok, Err, codes, refl, sym, ap}
use Rattle.std.proofs.Common.{subst, ◌∙◌, arith, inl, inr, lit<}
use Rattle.std.specs.List.{AllByRecursion}
use Rattle.std.specs.Str.{bytes_eq}
use Rattle.std.proofs.lemmas.Bool.{and_parts, ltb-true, cases_Bool}
use Rattle.std.proofs.lemmas.List.Elements.{All-from_recursion}
use Rattle.exact_forms.specs.Rational.{Rational}
use Rattle.text_lines.specs.Lines.{words, TextLine, Content, content_lines, end_line}
use Rattle.text_lines.specs.Numbers.{is_whole, whole_value}
use Rattle.text_lines.specs.Square.{lower_of, first_unlike}
use Rattle.text_lines.specs.Readings.{◌>>=◌}
use Rattle.text_lines.specs.Fractions.{fraction_up_to, kinded}
use Rattle.text_lines.specs.declared.fractions.NumberFault.{NumberFault}
use Rattle.text_lines.proofs.Mirrors.{lower-each}
use Rattle.text_lines.proofs.ReadValues.{bind_ok, guard_ok, ok_is, fraction-within, numbers-each, line-ok}
use Rattle.matrix_text.specs.RationalMatrix.{RationalMatrix}
use Rattle.matrix_text.specs.Matrix.{TextRow, number_kind, entry_of_word, row_of_words, rows_of_lines, header_of, size_of_word, fault_at, read_line, table_of}
use Rattle.matrix_text.specs.Matrix.{table_of_lines, none, same_number, entries_of, mirrored, matrix_of, MatrixText}
use Rattle.matrix_text.specs.Canonical.{IsShort, IsShortMatrix}
use Rattle.matrix_text.specs.declared.fault.TextKind.{TextKind}
use Rattle.matrix_text.specs.declared.fault.TextKind.TheVariants.{NotAscii, NoHeader, BadVersion, BadDimension, ShortRow, LongRow, ExtraLine}
use Rattle.matrix_text.specs.declared.fault.TextFault.{TextFault}

entry-short : (word : List ℕ) (x : Rational) → entry_of_word word ≡ Ok x → IsShort x
unfolding entry_of_word
entry-short word x e =
    let h = fraction-within 9223372036854775807 word x (lit< tt) (kinded-ok (fraction_up_to 9223372036854775807 word) x e) in
    record { num = h.num; den = h.den }
  where
    kinded-ok : (r : Result Rational NumberFault) (x : Rational) → kinded number_kind r ≡ Ok x → r ≡ Ok x
    kinded-ok (Ok y) x e = ap (λ v. Ok v) (ok_is {E = TextKind} y x e)
    kinded-ok (Err f) x e = absurd cc

-- ---- a line

row-short : (n : ℕ) (ws : List (List ℕ)) (xs : List Rational) → row_of_words n ws ≡ Ok xs → AllByRecursion IsShort xs
row-short n ws xs e = (numbers-each IsShort entry_of_word ShortRow LongRow entry-short n ws xs e).each

nothing : {A : Type 0} (x : A) (line : TextLine) → read_line {A = A} (λ others. Err ExtraLine) line ≡ Ok x → ⊥
nothing x line e = let h = line-ok fault_at NotAscii (λ others. Err ExtraLine) line x e in cc

size-few : (word : List ℕ) (n : ℕ) → size_of_word word ≡ Ok n → (1 ≤ n) × (n ≤ 6)
unfolding size_of_word
size-few word n e = elim (cases_Bool (is_whole word && ltb 0 (whole_value word) && ltb (whole_value word) 7)) [
  | inl t ↦
      let a = and_parts (is_whole word && ltb 0 (whole_value word)) (ltb (whole_value word) 7) t in
      let same : whole_value word ≡ n = ok_is {E = TextKind} (whole_value word) n (sym (rw t refl) ∙ e) in
      let b = and_parts (is_whole word) (ltb 0 (whole_value word)) a.0 in
      let low : 0 < whole_value word = ltb-true 0 (whole_value word) b.1 in
      let high : whole_value word < 7 = ltb-true (whole_value word) 7 a.1 in
      (rw (← same) (omega (arith, low)), rw (← same) (omega (arith, high)))
  | inr f ↦ (let no : ◌≡◌ {A = Result ℕ TextKind} (Err BadDimension) (Ok n) = sym (rw f refl) ∙ e in absurd cc)
]

header-few : (ws : List (List ℕ)) (n : ℕ) → header_of ws ≡ Ok n → (1 ≤ n) × (n ≤ 6)
unfolding header_of
header-few [] n e = absurd cc
header-few (a ∷ []) n e = absurd cc
header-few (a ∷ b ∷ []) n e = absurd cc
header-few (a ∷ b ∷ c ∷ []) n e =
    let g = guard_ok (not (bytes_eq a (codes "cpmatrix"))) NoHeader _ n e in
    let h = guard_ok (not (bytes_eq b (codes "1"))) BadVersion _ n g.1 in
    size-few c n h.1
header-few (a ∷ b ∷ c ∷ d ∷ ws) n e = absurd cc

-- ---- the text

abbrev IsShortTable : ℕ → List TextRow → Type 0
IsShortTable k rows = (length rows ≡ k) × AllByRecursion (AllByRecursion IsShort) (entries_of rows)

rows-short : (size end k : ℕ) (ls : List TextLine) (rows : List TextRow) → rows_of_lines size end k ls ≡ Ok rows → IsShortTable k rows
unfolding rows_of_lines
rows-short size end zero [] rows e = subst (IsShortTable 0) (ok_is {E = TextFault} [] rows e) (refl, tt)
rows-short size end zero (l ∷ ls) rows e = absurd (nothing rows l e)
rows-short size end (suc k) [] rows e = absurd cc
rows-short size end (suc k) (l ∷ ls) rows e =
    let a = bind_ok (read_line (row_of_words size) l) (λ entries. rows_of_lines size end k ls
    >>= λ others. Ok (record { line = l.number; entries = entries } ∷ others)) rows e in
    let b = bind_ok (rows_of_lines size end k ls) (λ others. Ok (record { line = l.number; entries = a.0 } ∷ others)) rows a.2 in
    let r = row-short size (words l.bytes) a.0 (line-ok fault_at NotAscii (row_of_words size) l a.0 a.1) in
    let h = rows-short size end k ls b.0 b.1 in
    let made : TextRow = record { line = l.number; entries = a.0 } in
    subst (IsShortTable (suc k)) (ok_is {E = TextFault} (made ∷ b.0) rows b.2) (ap suc h.0, (r, h.1))

table-short : (text : Content) (rows : List TextRow) → table_of text ≡ Ok rows
    → (1 ≤ length rows) × (length rows ≤ 6) × AllByRecursion (AllByRecursion IsShort) (entries_of rows)
unfolding table_of
table-short text rows e = by text.lines e
  where
    by : (ls : List TextLine) → table_of_lines text.end ls ≡ Ok rows
        → (1 ≤ length rows) × (length rows ≤ 6) × AllByRecursion (AllByRecursion IsShort) (entries_of rows)
    by [] f = absurd cc
    by (l ∷ ls) f =
        let a = bind_ok (read_line header_of l) (λ size. rows_of_lines size text.end size ls) rows f in
        let few = header-few (words l.bytes) a.0 (line-ok fault_at NotAscii header_of l a.0 a.1) in
        let r = rows-short a.0 text.end a.0 ls rows a.2 in
        (rw r.0 few.0, rw r.0 few.1, r.1)

-- ---- the matrix

mirrored-short : (rows : List TextRow) (first : Option ℕ) (a : RationalMatrix)
    → (1 ≤ length rows) × (length rows ≤ 6) × AllByRecursion (AllByRecursion IsShort) (entries_of rows) → mirrored rows first ≡ Ok a → IsShortMatrix a
mirrored-short rows (Some i) a h e = absurd cc
mirrored-short rows None a h e = subst IsShortMatrix (ok_is {E = TextFault} (record { size = length rows; lower = lower_of (entries_of rows) }) a e) (record {
  rows = h.1;
  entries = All-from_recursion IsShort (lower_of (entries_of rows)) (lower-each IsShort 1 (entries_of rows) h.2);
})

pub text-short : (bytes : List ℕ) (a : RationalMatrix) → MatrixText bytes a → IsShortMatrix a
unfolding MatrixText matrix_of
text-short bytes a e =
    let r = bind_ok (table_of (record { lines = content_lines bytes; end = end_line bytes }))
    (λ rows. mirrored rows (first_unlike same_number none (entries_of rows))) a e in
    mirrored-short r.0 (first_unlike same_number none (entries_of r.0)) a (table-short (record { lines = content_lines bytes; end = end_line bytes }) r.0 r.1)
    r.2

mirrored-some : (rows : List TextRow) (first : Option ℕ) (a : RationalMatrix) → 1 ≤ length rows → mirrored rows first ≡ Ok a → 1 ≤ a.size
mirrored-some rows (Some i) a h e = absurd cc
mirrored-some rows None a h e =
    subst (λ (m : RationalMatrix). 1 ≤ m.size) (ok_is {E = TextFault} (record { size = length rows; lower = lower_of (entries_of rows) }) a e) h

pub text-some : (bytes : List ℕ) (a : RationalMatrix) → MatrixText bytes a → 1 ≤ a.size
unfolding MatrixText matrix_of
text-some bytes a e =
    let r = bind_ok (table_of (record { lines = content_lines bytes; end = end_line bytes }))
    (λ rows. mirrored rows (first_unlike same_number none (entries_of rows))) a e in
    mirrored-some r.0 (first_unlike same_number none (entries_of r.0)) a (table-short (record { lines = content_lines bytes; end = end_line bytes }) r.0 r.1).0
    r.2
