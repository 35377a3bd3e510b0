-- W's table is compared with its mirror image, place by place.
use Rattle.std.proofs.Common.{◌≡◌, ℕ, ◌-◌, ◌<◌, Bool, not, List, [], ◌∷◌, length, get_or, take, map, find, Option, None, Result, Ok, ℤ, pos, refl, sym, ap}
use Rattle.std.proofs.Common.{ap₂}
use Rattle.std.proofs.Common.{◌∙◌, arith}
use Rattle.std.specs.List.{list_all, range_with_len}
use Rattle.std.specs.Ordering.{int_eq}
use Rattle.std.proofs.lemmas.List.{get_or-map, get_or-take, length-take-le, length-map, get_or_default}
use Rattle.std.proofs.lemmas.List.Elements.{All-from_recursion}
use Rattle.exact_forms.specs.Rational.{Rational}
use Rattle.symmetric_matrix.specs.Symmetric.{Symmetric, FitsInt, IsLower}
use Rattle.text_lines.specs.Square.{entry_at, lower_of, mirrors, first_unlike}
use Rattle.text_lines.proofs.Squares.{IsSquare, length-lower}
use Rattle.text_lines.proofs.Mirrors.{lower-each}
use Rattle.cone_tree_certificate.specs.declared.table.SignedRow.{SignedRow}
use Rattle.cone_tree_certificate.specs.declared.table.SignedTable.{SignedTable}
use Rattle.cone_tree_certificate.specs.declared.fault.VerdictFault.{VerdictFault}
use Rattle.cone_tree_certificate.specs.declared.verdict.Verdict.{Verdict}
use Rattle.cone_tree_certificate.specs.declared.verdict.Verdict.TheVariants.{Separator}
use Rattle.cone_tree_certificate.specs.Trees.{Lines}
use Rattle.cone_tree_certificate.specs.ProofText.{row_entries, unless_unlike}
use Rattle.cone_tree_certificate.specs.Rows.{seen_row, seen_rows, table_rows_of, w_entries, AreNarrow}

-- what counts of a row
abbrev front_entries : ℕ → SignedRow → List ℤ
front_entries size row = take size row.entries

pub length-entries : (t : SignedTable) → length (w_entries t) ≡ t.size
unfolding w_entries
length-entries t = length-map (take t.size t.rows) (front_entries t.size)
    ∙ length-take-le t.size t.rows (let few = t.few in let room = t.room in omega (arith, few, room))

row_at-entries : (t : SignedTable) (i : ℕ) (row : SignedRow) → i < t.size → get_or (w_entries t) i [] ≡ take t.size (get_or t.rows i row).entries
unfolding w_entries
row_at-entries t i row lt =
    let few = t.few in
    let room = t.room in
    let len : length (take t.size t.rows) ≡ t.size = length-take-le t.size t.rows (omega (arith, few, room)) in
    get_or-map (front_entries t.size) (take t.size t.rows) i row [] (omega (arith, len)) ∙ ap (front_entries t.size) (get_or-take t.size t.rows i row lt)

pub entry_at-entries : (t : SignedTable) (i j : ℕ) (row : SignedRow) (entry : ℤ) → i < t.size → j < t.size
    → get_or (get_or t.rows i row).entries j entry ≡ entry_at (pos 0) (w_entries t) i j
unfolding entry_at
entry_at-entries t i j row entry lt left =
    let few = t.few in
    let room = (get_or t.rows i row).room in
    rw (row_at-entries t i row lt) (get_or_default (get_or t.rows i row).entries j entry (pos 0) (omega (arith, few, room))
    ∙ sym (get_or-take t.size (get_or t.rows i row).entries j (pos 0) left))

-- the entry at (i, j) is as that at (j, i)
abbrev pub is_like : SignedTable → ℕ → ℕ → Bool
is_like t i j = int_eq (entry_at (pos 0) (w_entries t) i j) (entry_at (pos 0) (w_entries t) j i)

abbrev pub is_unlike : SignedTable → ℕ → Bool
is_unlike t i = not (mirrors int_eq (pos 0) (w_entries t) i)

pub likes : (t : SignedTable) (i : ℕ) → list_all (is_like t i) (range_with_len 0 (i - 0)) ≡ mirrors int_eq (pos 0) (w_entries t) i
unfolding mirrors
likes t i = (let k : i - 0 ≡ i = omega arith in rw k refl)

pub unlikes : (t : SignedTable) → find (is_unlike t) (range_with_len 0 (t.size - 0)) ≡ first_unlike int_eq (pos 0) (w_entries t)
unfolding first_unlike
unlikes t = (let k : t.size - 0 ≡ t.size = omega arith in rw (k, length-entries t) refl)

-- a row like any other
empty : SignedRow
empty = record { line = 0; entries = pos 0 ∷ pos 0 ∷ pos 0 ∷ pos 0 ∷ pos 0 ∷ pos 0 ∷ []; room = refl }

pub length-row : (t : SignedTable) (i : ℕ) → i < t.size → length (get_or (w_entries t) i []) ≡ t.size
length-row t i lt =
    let few = t.few in
    let room = (get_or t.rows i empty).room in
    rw (row_at-entries t i empty lt) (length-take-le t.size (get_or t.rows i empty).entries (omega (arith, few, room)))

pub square-entries : (t : SignedTable) → IsSquare t.size (w_entries t)
square-entries t = record { len = length-entries t; each = λ i lt. length-row t i lt }

-- ---- the separation by W

pub entries-seen : (size : ℕ) (rows : List SignedRow) → row_entries (seen_rows size rows) ≡ map (λ (row : SignedRow). take size row.entries) rows
entries-seen size [] = refl
entries-seen size (row ∷ rows) = ap (λ (xs : List (List ℤ)). take size row.entries ∷ xs) (entries-seen size rows)

entries-table : (t : SignedTable) → row_entries (table_rows_of t) ≡ w_entries t
unfolding w_entries
entries-table t = entries-seen t.size (take t.size t.rows)

length-table : (t : SignedTable) → length (table_rows_of t) ≡ t.size
length-table t = length-map (take t.size t.rows) (seen_row t.size)
    ∙ length-take-le t.size t.rows (let few = t.few in let room = t.room in omega (arith, few, room))

-- a separation that was read, by its size and its lower triangle
abbrev pub separator_with : Rational → Lines → ℕ → List ℤ → Result Verdict VerdictFault
separator_with value tree size lower = Ok (Separator (record { size = size; lower = lower }) value tree)

pub separated-table : (t : SignedTable) (value : Rational) (tree : Lines) (first : Option ℕ) (w : Symmetric) → first ≡ None
    → w ≡ record { size = t.size; lower = lower_of (w_entries t) } → unless_unlike (table_rows_of t) value tree first ≡ Ok (Separator w value tree)
separated-table t value tree first w alike is =
    rw (alike, is)
    (ap₂ (λ (size : ℕ) (lower : List ℤ). separator_with value tree size lower) (length-table t)
    (ap (λ (rows : List (List ℤ)). lower_of rows) (entries-table t)))

pub lower-table : (t : SignedTable) (lower : List ℤ) → AreNarrow t → lower ≡ lower_of (w_entries t) → IsLower t.size lower
lower-table t lower narrow is = rw is (record {
  entries = length-lower t.size (w_entries t) (square-entries t);
  fits = λ k lt. All-from_recursion FitsInt (lower_of (w_entries t)) (lower-each FitsInt 1 (w_entries t) narrow) k (pos 0) lt;
})
