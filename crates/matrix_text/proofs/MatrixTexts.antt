-- The text that is written of a matrix is a text of that matrix.
use Rattle.std.proofs.Common.{◌≡◌, ℕ, suc, ◌+◌, true, List, [], ◌∷◌, length, get_or, map, pos, Result, Ok, refl, ap, ap₂, ◌∙◌, inl, inr, arith, lit≤}
use Rattle.std.specs.Prelude.{◌&&◌}
use Rattle.std.specs.Bool.{Decides}
use Rattle.std.specs.List.{All, AllByRecursion, range_with_len}
use Rattle.std.proofs.lemmas.Bool.{and_parts, cases_lt, lt-ltb, le-ltb}
use Rattle.std.proofs.lemmas.Bool.Decides.{Decides-int_eq}
use Rattle.std.proofs.lemmas.List.{get_or_past}
use Rattle.std.proofs.lemmas.List.FromFn.{length-map-range_with_len}
use Rattle.commutative_ring.specs.Gcd.{gcd_of, gcd_steps}
use Rattle.exact_forms.specs.Rational.{Rational, ratio, whole}
use Rattle.exact_forms.specs.Triangles.{triangle, entry_in}
use Rattle.exact_forms.proofs.Rational.{same_parts}
use Rattle.exact_forms.proofs.Lists.{each_of_range}
use Rattle.text_lines.specs.Square.{lower_of, full, first_unlike}
use Rattle.matrix_text.specs.RationalMatrix.{RationalMatrix, IsRationalMatrix}
use Rattle.matrix_text.specs.Matrix.{none, same_number, entries_of, mirrored, matrix_of, MatrixText}
use Rattle.matrix_text.specs.Canonical.{matrix_text, IsShort, IsShortMatrix}
use Rattle.matrix_text.specs.declared.fault.TextFault.{TextFault}
use Rattle.text_lines.proofs.Squares.{square-full, lower-full, full-mirrored, mirrored-alike}
use Rattle.matrix_text.proofs.Tables.{IsShortRow, text_rows_from, table-read}

pub Decides-same_number : (x y : Rational) → Decides (same_number x y) (x ≡ y)
Decides-same_number x y = (
  same,
  λ e. ap₂ (λ a b. a && b) ((Decides-int_eq x.num y.num).1 (ap (λ (q : Rational). q.num) e))
      ((Decides-int_eq (pos x.den) (pos y.den)).1 (ap (λ (q : Rational). pos q.den) e)),
)
  where
    same : same_number x y ≡ true → x ≡ y
    same e =
        let h = and_parts _ _ e in
        let den : pos x.den ≡ pos y.den = (Decides-int_eq (pos x.den) (pos y.den)).0 h.1 in
        same_parts x y ((Decides-int_eq x.num y.num).0 h.0) cc

-- ---- the entries are short

zero_short : IsShort none
unfolding whole ratio gcd_of gcd_steps
zero_short = record { num = lit≤ tt; den = lit≤ tt }

entry_short : (lower : List Rational) (k : ℕ) → All IsShort lower → IsShort (get_or lower k none)
entry_short lower k short = elim (cases_lt k (length lower)) [ inl lt ↦ short k none lt | inr le ↦ rw (get_or_past lower k none le) zero_short ]

entry_in-short : (lower : List Rational) (i j : ℕ) → All IsShort lower → IsShort (entry_in none lower i j)
unfolding entry_in
entry_in-short lower i j short = elim (cases_lt i j) [
  | inl lt ↦ rw (lt-ltb i j lt) (entry_short lower (triangle j + i) short)
  | inr le ↦ rw (le-ltb i j le) (entry_short lower (triangle i + j) short)
]

full-short : (n : ℕ) (lower : List Rational) → All IsShort lower → AllByRecursion (IsShortRow n) (full none n lower)
unfolding full
full-short n lower short = each_of_range (IsShortRow n) (λ i. map (λ j. entry_in none lower i j) (range_with_len 0 n)) 0 n (λ i. record {
  len = length-map-range_with_len (λ j. entry_in none lower i j) 0 n;
  short = each_of_range IsShort (λ j. entry_in none lower i j) 0 n (λ j. entry_in-short lower i j short);
})

-- ---- the text is read again

entries-rows : (k : ℕ) (rows : List (List Rational)) → entries_of (text_rows_from k rows) ≡ rows
entries-rows k [] = refl
entries-rows k (row ∷ rows) = ap (λ (others : List (List Rational)). row ∷ others) (entries-rows (k + 1) rows)

length-rows : (k : ℕ) (rows : List (List Rational)) → length (text_rows_from k rows) ≡ length rows
length-rows k [] = refl
length-rows k (row ∷ rows) = ap suc (length-rows (k + 1) rows)

-- rows that are those of a lower triangle
rows-matrix : (n : ℕ) (lower : List Rational) → length lower ≡ triangle n
    → mirrored (text_rows_from 2 (full none n lower)) (first_unlike same_number none (full none n lower)) ≡ Ok (record { size = n; lower = lower })
rows-matrix n lower len =
    let square = square-full none n lower in
    rw (mirrored-alike same_number none n (full none n lower) Decides-same_number square.len (full-mirrored none n lower))
    (ap₂ made (length-rows 2 (full none n lower) ∙ square.len) (ap (λ (rows : List (List Rational)). lower_of rows) (entries-rows 2 (full none n lower))
    ∙ lower-full none n lower len))
  where
    made : ℕ → List Rational → Result RationalMatrix TextFault
    made size entries = Ok (record { size = size; lower = entries })

pub written-read : (a : RationalMatrix) → IsRationalMatrix a → IsShortMatrix a → MatrixText (matrix_text a) a
unfolding MatrixText matrix_of matrix_text
written-read a is short =
    let rows = full none a.size a.lower in
    let square = square-full none a.size a.lower in
    let few = short.rows in
    let some = is.positive in
    let read = table-read (full none a.size a.lower) (rw square.len (omega (arith, some))) (rw square.len (omega (arith, few)))
    (rw square.len (full-short a.size a.lower short.entries)) in
    rw read (ap (λ (rows : List (List Rational)). mirrored (text_rows_from 2 (full none a.size a.lower)) (first_unlike same_number none rows))
    (entries-rows 2 (full none a.size a.lower)) ∙ rows-matrix a.size a.lower is.triangle)
