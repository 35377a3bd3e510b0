-- What is read can be written again and can be checked.
use Rattle.std.proofs.Common.{◌≡◌, ℕ, ◌<◌, ◌≤◌, Bool, true, false, cond, refl, not, ◌&&◌, ltb, leb, List, [], ◌∷◌, length, Option, Some, None, Result, Ok, Err}
use Rattle.std.proofs.Common.{codes, ℤ, pos, nat_abs, sym, ap, subst, arith, inl, inr}
use Rattle.std.specs.List.{All, AllByRecursion}
use Rattle.std.specs.Str.{bytes_eq}
use Rattle.std.specs.Ordering.{int_eq}
use Rattle.std.proofs.lemmas.Bool.{and_parts, ltb-true, leb-true}
use Rattle.std.proofs.lemmas.List.Elements.{All-from_recursion}
use Rattle.exact_forms.specs.Rational.{Rational}
use Rattle.exact_forms.specs.Factors.{WeightedVector}
use Rattle.text_lines.specs.Lines.{words, TextLine, content_lines, end_line}
use Rattle.text_lines.specs.Numbers.{is_whole, whole_value}
use Rattle.text_lines.specs.Readings.{◌>>=◌, ended, first_word, first_line, many, Many}
use Rattle.symmetric_matrix.specs.Lists.{IsVector}
use Rattle.symmetric_matrix.specs.Symmetric.{FitsInt}
use Rattle.text_lines.specs.Fractions.{whole_up_to, signed_up_to, kinded}
use Rattle.text_lines.specs.declared.fractions.NumberFault.{NumberFault}
use Rattle.text_lines.specs.Square.{lower_of, first_unlike}
use Rattle.text_lines.proofs.ReadValues.{bind_ok, guard_ok, ok_is, line-ok, first-ok, whole-within, signed-within, numbers-each, many-each}
use Rattle.cone_tree_certificate.specs.declared.fault.VerdictKind.{VerdictKind}
use Rattle.cone_tree_certificate.specs.declared.fault.VerdictKind.TheVariants.{NotAscii, NoHeader, BadWord, BadDimension, ShortLine, LongLine, BadSplit}
use Rattle.cone_tree_certificate.specs.declared.fault.VerdictKind.TheVariants.{ExtraLine}
use Rattle.cone_tree_certificate.specs.declared.fault.VerdictFault.{VerdictFault}
use Rattle.cone_tree_certificate.specs.declared.header.Header.{Header}
use Rattle.cone_tree_certificate.specs.declared.header.Header.TheVariants.{OfFactors, OfSeparator}
use Rattle.cone_tree_certificate.specs.declared.tree.TreeLine.{TreeLine}
use Rattle.cone_tree_certificate.specs.declared.tree.TreeLine.TheVariants.{Leaf, Split}
use Rattle.cone_tree_certificate.specs.declared.verdict.Verdict.{Verdict}
use Rattle.cone_tree_certificate.specs.declared.verdict.Verdict.TheVariants.{Factors, Separator}
use Rattle.cone_tree_certificate.specs.Trees.{Lines, IsSplitLine}
use Rattle.cone_tree_certificate.specs.Sizes.{IsSize, IsSized}
use Rattle.cone_tree_certificate.specs.Words.{word_kind, widest, largest_count, largest_coordinate, largest_generator, whole_word, ratio_word, last_of_words}
use Rattle.cone_tree_certificate.specs.Words.{dimension_of, verdict_header, coordinates_of, term_of, signed_word, signed_row, value_of, count_of, split_at_pair}
use Rattle.cone_tree_certificate.specs.Words.{split_of, tree_line_of}
use Rattle.cone_tree_certificate.specs.ProofText.{verdict_fault, missing_line, verdict_line, no_more_lines, factors_of, NumberedRow, numbered_row, row_entries}
use Rattle.cone_tree_certificate.specs.ProofText.{unless_unlike, separator_of, verdict_after, verdict_of_lines, verdict_of, ProofText}
use Rattle.cone_tree_certificate.specs.VerdictText.{HasSplit, IsCheckable, IsWritable}

-- ---- the header
dimension-size : (word : List ℕ) (n : ℕ) → dimension_of word ≡ Ok n → IsSize n
unfolding dimension_of
dimension-size word n e =
    let a = when_ok (is_whole word && ltb 0 (whole_value word) && ltb (whole_value word) 7) BadDimension (whole_value word) n e in
    let b = and_parts (is_whole word && ltb 0 (whole_value word)) (ltb (whole_value word) 7) a.0 in
    let c = and_parts (is_whole word) (ltb 0 (whole_value word)) b.0 in
    let low : 0 < whole_value word = ltb-true 0 (whole_value word) c.1 in
    let high : whole_value word < 7 = ltb-true (whole_value word) 7 b.1 in
    record { some = rw (← a.1) (omega (arith, low)); few = rw (← a.1) (omega (arith, high)) }
  where
    when_ok : (b : Bool) (d : VerdictKind) (x y : ℕ) → cond b (Ok x) (Err d) ≡ Ok y → (b ≡ true) × (x ≡ y)
    when_ok true d x y e = (refl, cc)
    when_ok false d x y e = absurd cc

kinded-ok : {A : Type 0} (r : Result A NumberFault) (x : A) → kinded word_kind r ≡ Ok x → r ≡ Ok x
kinded-ok (Ok y) x e = ap (λ v. Ok v) (ok_is {E = VerdictKind} y x e)
kinded-ok (Err f) x e = absurd cc

pub header-sized : (ws : List (List ℕ)) (h : Header) → verdict_header ws ≡ Ok h → IsSized h
unfolding verdict_header
header-sized [] h e = absurd cc
header-sized (a ∷ []) h e = absurd cc
header-sized (a ∷ b ∷ []) h e =
    let g = guard_ok (not (bytes_eq a (codes "separated"))) NoHeader _ h e in
    let n = bind_ok (dimension_of b) (λ n. Ok (OfSeparator n)) h g.1 in
    subst IsSized (ok_is {E = VerdictKind} (OfSeparator n.0) h n.2) (dimension-size b n.0 n.1)
header-sized (a ∷ b ∷ c ∷ []) h e =
    let g = guard_ok (not (bytes_eq a (codes "factored"))) NoHeader _ h e in
    let n = bind_ok (dimension_of b) (λ n. whole_word largest_count c >>= λ k. Ok (OfFactors n k)) h g.1 in
    let k = bind_ok (whole_word largest_count c) (λ k. Ok (OfFactors n.0 k)) h n.2 in
    subst IsSized (ok_is {E = VerdictKind} (OfFactors n.0 k.0) h k.2) (dimension-size b n.0 n.1)
header-sized (a ∷ b ∷ c ∷ d ∷ ws) h e = absurd cc

pub header-line-sized : (missing : VerdictFault) (ls : List TextLine) (first : Header × List TextLine)
    → first_line (verdict_line verdict_header) missing ls ≡ Ok first → IsSized first.0
header-line-sized missing ls first e =
    first-ok IsSized (verdict_line verdict_header) missing
    (λ line h f. header-sized (words line.bytes) h (line-ok verdict_fault NotAscii verdict_header line h f)) ls first e

-- ---- the lines
term-length : (n : ℕ) (ws : List (List ℕ)) (t : WeightedVector) → term_of n ws ≡ Ok t → length t.vector ≡ n
unfolding term_of
term-length n ws t e =
    let a = bind_ok (first_word (ratio_word widest) ShortLine ws) (λ weight. coordinates_of n weight.1
    >>= λ vector. Ok (record { weight = weight.0; vector = vector })) t e in
    let b = bind_ok (coordinates_of n a.0.1) (λ vector. Ok (record { weight = a.0.0; vector = vector })) t a.2 in
    let each = numbers-each (λ (x : ℕ). Unit {0}) (whole_word largest_coordinate) ShortLine LongLine (λ word x f. tt) n a.0.1 b.0 b.1 in
    subst (λ (t : WeightedVector). length t.vector ≡ n) (ok_is {E = VerdictKind} (record { weight = a.0.0; vector = b.0 }) t b.2) each.len

-- the coordinates of a term are those of a vector
pub coordinates-vector : (n m : ℕ) (ws : List (List ℕ)) (xs : List ℕ) → IsSize n → m ≡ n → coordinates_of m ws ≡ Ok xs → IsVector xs
unfolding whole_word
coordinates-vector n m ws xs s same e =
    let some = s.some in
    let few = s.few in
    let each = numbers-each (λ x. x ≤ largest_coordinate) (whole_word largest_coordinate) ShortLine LongLine coordinate-small m ws xs e in
    let len = each.len in
    let small = All-from_recursion (λ x. x ≤ largest_coordinate) xs each.each in
    record { nonempty = omega (arith, len, same, some); short = omega (arith, len, same, few); small = λ p lt. small p 0 lt }
  where
    coordinate-small : (word : List ℕ) (x : ℕ) → whole_word largest_coordinate word ≡ Ok x → x ≤ largest_coordinate
    coordinate-small word x e = whole-within largest_coordinate word x (kinded-ok (whole_up_to largest_coordinate word) x e)

split-has : (n i j : ℕ) (line : TreeLine) → split_at_pair n i j ≡ Ok line → HasSplit n line
unfolding split_at_pair
split-has n i j line e =
    let a = when_ok (leb 1 i && ltb i j && leb j n) BadSplit (Split i j) line e in
    let b = and_parts (leb 1 i && ltb i j) (leb j n) a.0 in
    let c = and_parts (leb 1 i) (ltb i j) b.0 in
    subst (HasSplit n) a.1 (record { first = leb-true 1 i c.0; order = ltb-true i j c.1; last = leb-true j n b.1 })
  where
    when_ok : (b : Bool) (d : VerdictKind) (x y : TreeLine) → cond b (Ok x) (Err d) ≡ Ok y → (b ≡ true) × (x ≡ y)
    when_ok true d x y e = (refl, cc)
    when_ok false d x y e = absurd cc

leaf-has : (n : ℕ) (more : List (List ℕ)) (line : TreeLine) → ended LongLine more Leaf ≡ Ok line → HasSplit n line
leaf-has n [] line e = subst (HasSplit n) (ok_is {E = VerdictKind} Leaf line e) tt
leaf-has n (w ∷ more) line e = absurd cc

two_splits : (n : ℕ) (ws : List (List ℕ)) (line : TreeLine) → split_of n ws ≡ Ok line → HasSplit n line
unfolding split_of
two_splits n ws line e =
    let a = bind_ok (first_word (whole_word largest_generator) ShortLine ws) (λ i. last_of_words (whole_word largest_generator) i.1
    >>= λ j. split_at_pair n i.0 j) line e in
    let b = bind_ok (last_of_words (whole_word largest_generator) a.0.1) (λ j. split_at_pair n a.0.0 j) line a.2 in
    split-has n a.0.0 b.0 line b.2

line-has : (n : ℕ) (ws : List (List ℕ)) (line : TreeLine) → tree_line_of n ws ≡ Ok line → HasSplit n line
unfolding tree_line_of
line-has n [] line e = absurd cc
line-has n (w ∷ more) line e = by (bytes_eq w (codes "leaf")) (bytes_eq w (codes "split")) e
  where
    by : (leaf split : Bool) → cond leaf (ended LongLine more Leaf) (cond split (split_of n more) (Err BadWord)) ≡ Ok line → HasSplit n line
    by true split f = leaf-has n more line f
    by false true f = two_splits n more line f
    by false false f = absurd cc

-- ---- the text
rest-none : (ls : List TextLine) (read : Result Verdict VerdictFault) (v : Verdict) → no_more_lines ls read ≡ Ok v → read ≡ Ok v
rest-none [] read v e = e
rest-none (l ∷ ls) read v e = (let h = line-ok verdict_fault NotAscii (λ others. Err ExtraLine) l v e in absurd cc)

factors-writable : (n k end : ℕ) (ls : List TextLine) (v : Verdict) → IsSize n → factors_of n k end ls ≡ Ok v → IsWritable v
unfolding factors_of
factors-writable n k end ls v s e =
    let a = bind_ok (many (verdict_line (term_of n)) (missing_line end) k ls) (λ terms. no_more_lines terms.rest (Ok (Factors n terms.items))) v e in
    let each = many-each (λ (t : WeightedVector). length t.vector ≡ n) (verdict_line (term_of n)) (missing_line end)
    (λ line t f. term-length n (words line.bytes) t (line-ok verdict_fault NotAscii (term_of n) line t f)) k ls a.0 a.1 in
    subst IsWritable (ok_is {E = VerdictFault} (Factors n a.0.items) v (rest-none a.0.rest (Ok (Factors n a.0.items)) v a.2))
    (s.some, s.few, All-from_recursion (λ (t : WeightedVector). length t.vector ≡ n) a.0.items each.each)

separator-writable : (n end : ℕ) (ls : List TextLine) (v : Verdict) → IsSize n → separator_of n end ls ≡ Ok v → IsWritable v
unfolding separator_of
separator-writable n end ls v s e =
    let a = bind_ok (many (numbered_row n) (missing_line end) n ls) (λ rows. first_line (verdict_line value_of) (missing_line end) rows.rest
    >>= λ value. first_line (verdict_line count_of) (missing_line end) value.1
    >>= λ count. many (verdict_line (tree_line_of n)) (missing_line end) count.0 count.1
    >>= λ tree. no_more_lines tree.rest (unless_unlike rows.items value.0 tree.items (first_unlike int_eq (pos 0) (row_entries rows.items)))) v e in
    let b = bind_ok (first_line (verdict_line value_of) (missing_line end) a.0.rest) (λ value. first_line (verdict_line count_of) (missing_line end) value.1
    >>= λ count. many (verdict_line (tree_line_of n)) (missing_line end) count.0 count.1
    >>= λ tree. no_more_lines tree.rest (unless_unlike a.0.items value.0 tree.items (first_unlike int_eq (pos 0) (row_entries a.0.items)))) v a.2 in
    let c = bind_ok (first_line (verdict_line count_of) (missing_line end) b.0.1)
    (λ count. many (verdict_line (tree_line_of n)) (missing_line end) count.0 count.1
    >>= λ tree. no_more_lines tree.rest (unless_unlike a.0.items b.0.0 tree.items (first_unlike int_eq (pos 0) (row_entries a.0.items)))) v b.2 in
    let d = bind_ok (many (verdict_line (tree_line_of n)) (missing_line end) c.0.0 c.0.1)
    (λ tree. no_more_lines tree.rest (unless_unlike a.0.items b.0.0 tree.items (first_unlike int_eq (pos 0) (row_entries a.0.items)))) v c.2 in
    let rows = many-each (λ (row : NumberedRow). Unit {0}) (numbered_row n) (missing_line end) (λ line row f. tt) n ls a.0 a.1 in
    let tree = many-each (HasSplit n) (verdict_line (tree_line_of n)) (missing_line end)
    (λ line node f. line-has n (words line.bytes) node (line-ok verdict_fault NotAscii (tree_line_of n) line node f)) c.0.0 c.0.1 d.0 d.1 in
    made a.0.items b.0.0 d.0.items (first_unlike int_eq (pos 0) (row_entries a.0.items)) rows.len (All-from_recursion (HasSplit n) d.0.items tree.each)
    (rest-none d.0.rest _ v d.2)
  where
    made : (rows : List NumberedRow) (value : Rational) (tree : Lines) (first : Option ℕ) → length rows ≡ n → All (HasSplit n) tree
        → unless_unlike rows value tree first ≡ Ok v → IsWritable v
    made rows value tree (Some i) len each f = absurd cc
    made rows value tree None len each f =
        subst IsWritable (ok_is {E = VerdictFault} (Separator (record { size = length rows; lower = lower_of (row_entries rows) }) value tree) v f)
        (rw len s.few, rw len each)

after-writable : (end : ℕ) (ls : List TextLine) (h : Header) (v : Verdict) → IsSized h → verdict_after end ls h ≡ Ok v → IsWritable v
after-writable end ls (OfFactors n k) v s e = factors-writable n k end ls v s e
after-writable end ls (OfSeparator n) v s e = separator-writable n end ls v s e

pub text-writable : (bytes : List ℕ) (v : Verdict) → ProofText bytes v → IsWritable v
unfolding ProofText verdict_of verdict_of_lines
text-writable bytes v e =
    let a = bind_ok (first_line (verdict_line verdict_header) (verdict_fault NoHeader (end_line bytes)) (content_lines bytes))
    (λ header. verdict_after (end_line bytes) header.1 header.0) v e in
    let sized = header-line-sized (verdict_fault NoHeader (end_line bytes)) (content_lines bytes) a.0 a.1 in
    after-writable (end_line bytes) a.0.1 a.0.0 v sized a.2

pub writable-checkable : (v : Verdict) → IsWritable v → IsCheckable v
writable-checkable (Factors n terms) h = h.2
writable-checkable (Separator w value tree) h = h.1

-- ---- the rows of W are narrow
row-narrow : (n : ℕ) (ws : List (List ℕ)) (row : List ℤ) → signed_row n ws ≡ Ok row → AllByRecursion FitsInt row
unfolding signed_word
row-narrow n ws row e = (numbers-each FitsInt (signed_word widest) ShortLine LongLine entry-narrow n ws row e).each
  where
    entry-narrow : (word : List ℕ) (z : ℤ) → signed_word widest word ≡ Ok z → FitsInt z
    entry-narrow word z e = signed-within widest word z (kinded-ok (signed_up_to widest word) z e)

abbrev HasNarrowEntries : NumberedRow → Type 0
HasNarrowEntries row = AllByRecursion FitsInt row.entries

pub rows-narrow : (n k : ℕ) (missing : VerdictFault) (ls : List TextLine) (m : Many NumberedRow) → many (numbered_row n) missing k ls ≡ Ok m
    → AllByRecursion (AllByRecursion FitsInt) (row_entries m.items)
rows-narrow n k missing ls m e = entries m.items (many-each HasNarrowEntries (numbered_row n) missing line-narrow k ls m e).each
  where
    line-narrow : (line : TextLine) (row : NumberedRow) → numbered_row n line ≡ Ok row → HasNarrowEntries row
    line-narrow line row f =
        let a = bind_ok (verdict_line (signed_row n) line) (λ entries. Ok (record { line = line.number; entries = entries })) row f in
        subst HasNarrowEntries (ok_is {E = VerdictFault} (record { line = line.number; entries = a.0 }) row a.2)
        (row-narrow n (words line.bytes) a.0 (line-ok verdict_fault NotAscii (signed_row n) line a.0 a.1))

    entries : (rows : List NumberedRow) → AllByRecursion HasNarrowEntries rows → AllByRecursion (AllByRecursion FitsInt) (row_entries rows)
    entries [] h = tt
    entries (row ∷ rows) h = (h.0, entries rows h.1)
