-- The written form of a verdict is read as that verdict.
use Rattle.std.proofs.Common.{◌≡◌, ℕ, suc, ◌+◌, ◌-◌, ◌<◌, ◌≤◌, ◌^◌, true, false, cond, List, [], ◌∷◌, ◌++◌, length, get_or, map, Option, None, ℤ, pos, nat_abs}
use Rattle.std.proofs.Common.{Result, Ok, Err, codes, refl, sym, ap, ap₂, subst, ◌∙◌, append_assoc, arith, inl, inr, lit<, lit≤}
use Rattle.std.specs.List.{All, AllByRecursion, flat_map, range_with_len}
use Rattle.std.specs.Fmt.{decimal, signed_decimal}
use Rattle.std.specs.Ordering.{int_eq}
use Rattle.std.proofs.lemmas.Bool.{lt-ltb, le-ltb, le-leb, cases_lt}
use Rattle.std.proofs.lemmas.Bool.Decides.{Decides-int_eq}
use Rattle.std.proofs.lemmas.List.{append-nil, get_or_past}
use Rattle.std.proofs.lemmas.List.FromFn.{length-map-range_with_len}
use Rattle.exact_forms.specs.Rational.{Rational}
use Rattle.exact_forms.specs.Factors.{WeightedVector}
use Rattle.exact_forms.specs.Triangles.{triangle, entry_in}
use Rattle.exact_forms.proofs.Lists.{each_of_range}
use Rattle.symmetric_matrix.specs.Symmetric.{Symmetric, FitsInt, IsLower, IsSymmetricMatrix}
use Rattle.symmetric_matrix.specs.Lists.{IsVector}
use Rattle.text_lines.specs.Lines.{TextLine, content_lines, end_line}
use Rattle.text_lines.specs.Numbers.{is_whole}
use Rattle.text_lines.specs.Readings.{◌>>=◌, numbers_of, at_line, first_line, many, Many}
use Rattle.text_lines.specs.Square.{lower_of, full, first_unlike}
use Rattle.text_lines.specs.Spelling.{line_of_words, quotient_word}
use Rattle.text_lines.proofs.Numerals.{is_whole-decimal, whole_value-decimal}
use Rattle.text_lines.proofs.FractionTexts.{IsWithin, IsPlainWord, whole-read, signed-read, quotient-read, plain-decimal, plain-signed, plain-quotient}
use Rattle.text_lines.proofs.FractionTexts.{plain-codes}
use Rattle.text_lines.specs.Skipped.{IsSkippedLine, IsSkippedText, ended_lines}
use Rattle.text_lines.proofs.PlainLines.{joined, IsPlainLine, numbered, in_line-joined}
use Rattle.text_lines.proofs.SkippedLines.{content_lines-behind}
use Rattle.text_lines.proofs.Squares.{square-full, lower-full, full-mirrored, mirrored-alike}
use Rattle.cone_tree_certificate.specs.declared.fault.VerdictKind.{VerdictKind}
use Rattle.cone_tree_certificate.specs.declared.fault.VerdictKind.TheVariants.{NotAscii, NoHeader, ShortLine}
use Rattle.cone_tree_certificate.specs.declared.fault.VerdictFault.{VerdictFault}
use Rattle.cone_tree_certificate.specs.declared.header.Header.TheVariants.{OfFactors, OfSeparator}
use Rattle.cone_tree_certificate.specs.declared.tree.TreeLine.{TreeLine}
use Rattle.cone_tree_certificate.specs.declared.tree.TreeLine.TheVariants.{Leaf, Split}
use Rattle.cone_tree_certificate.specs.declared.verdict.Verdict.{Verdict}
use Rattle.cone_tree_certificate.specs.declared.verdict.Verdict.TheVariants.{Factors, Separator}
use Rattle.cone_tree_certificate.specs.Trees.{Lines, IsSplitLine}
use Rattle.cone_tree_certificate.specs.Words.{widest, largest_count, largest_coordinate, largest_generator, whole_word, signed_word, ratio_word, dimension_of}
use Rattle.cone_tree_certificate.specs.Words.{verdict_header, coordinates_of, term_of, signed_row, value_of, count_of, split_at_pair, split_of, tree_line_of}
use Rattle.cone_tree_certificate.specs.ProofText.{verdict_fault, missing_line, verdict_line, no_more_lines, factors_of, NumberedRow, numbered_row, row_entries}
use Rattle.cone_tree_certificate.specs.ProofText.{unless_unlike, separator_of, verdict_of_lines, verdict_of, ProofText}
use Rattle.cone_tree_certificate.specs.VerdictText.{term_words, tree_words, written_terms, written_rows, written_tree, verdict_text, HasSplit, IsNarrowTerm}
use Rattle.cone_tree_certificate.specs.VerdictText.{IsWholeSeparator, IsWritable, IsWhole}
use Rattle.cone_tree_certificate.proofs.Symmetries.{separator_with}

-- ---- words
wide : (n limit : ℕ) → limit < 2 ^ 127 → n ≤ limit → n < 2 ^ 128
wide n limit low le = omega arith

whole_word-read : (limit n : ℕ) → limit < 2 ^ 127 → n ≤ limit → whole_word limit (decimal n) ≡ Ok n
unfolding whole_word
whole_word-read limit n low le = rw (whole-read limit n low le) refl

signed_word-read : (z : ℤ) → FitsInt z → signed_word widest (signed_decimal z) ≡ Ok z
unfolding signed_word
signed_word-read z le = rw (signed-read widest z (lit< tt) le) refl

ratio_word-read : (q : Rational) → IsWithin widest q → ratio_word widest (quotient_word q) ≡ Ok q
unfolding ratio_word
ratio_word-read q h = rw (quotient-read widest q h) refl

dimension-read : (n : ℕ) → 1 ≤ n → n ≤ 6 → dimension_of (decimal n) ≡ Ok n
unfolding dimension_of
dimension-read n some few = rw (is_whole-decimal n (omega arith), whole_value-decimal n (omega arith), lt-ltb 0 n (omega arith), lt-ltb n 7 (omega arith)) refl

-- ---- lines
line-read : {A : Type 0} (read : List (List ℕ) → Result A VerdictKind) (k : ℕ) (ws : List (List ℕ)) (x : A) → AllByRecursion IsPlainWord ws → read ws ≡ Ok x
    → verdict_line read (record { number = k; bytes = joined ws }) ≡ Ok x
line-read {A} read k ws x plain e = in_line-joined verdict_fault NotAscii read k ws plain ∙ ap (λ (r : Result A VerdictKind). at_line verdict_fault k r) e

abbrev factors_words : ℕ → ℕ → List (List ℕ)
factors_words n k = codes "factored" ∷ decimal n ∷ decimal k ∷ []

abbrev separator_words : ℕ → List (List ℕ)
separator_words n = codes "separated" ∷ decimal n ∷ []

abbrev value_words : Rational → List (List ℕ)
value_words q = codes "value" ∷ quotient_word q ∷ []

abbrev count_words : ℕ → List (List ℕ)
count_words k = codes "tree" ∷ decimal k ∷ []

factors-header : (n k : ℕ) → 1 ≤ n → n ≤ 6 → k < 2 ^ 64 → verdict_header (factors_words n k) ≡ Ok (OfFactors n k)
unfolding verdict_header
factors-header n k some few small = rw (dimension-read n some few, whole_word-read largest_count k (lit< tt) (omega arith)) refl

separator-header : (n : ℕ) → 1 ≤ n → n ≤ 6 → verdict_header (separator_words n) ≡ Ok (OfSeparator n)
unfolding verdict_header
separator-header n some few = rw (dimension-read n some few) refl

value-read : (q : Rational) → IsWithin widest q → value_of (value_words q) ≡ Ok q
unfolding value_of
value-read q h = rw (ratio_word-read q h) refl

count-read : (k : ℕ) → k < 2 ^ 64 → count_of (count_words k) ≡ Ok k
unfolding count_of
count-read k small = rw (whole_word-read largest_count k (lit< tt) (omega arith)) refl

split-read : (n i j : ℕ) → n ≤ 6 → IsSplitLine n i j → tree_line_of n (tree_words (Split i j)) ≡ Ok (Split i j)
unfolding tree_line_of split_of split_at_pair
split-read n i j few s =
    let first = s.first in
    let order = s.order in
    let last = s.last in
    rw (
      whole_word-read largest_generator i (lit< tt) (omega (arith, order, last)),
      whole_word-read largest_generator j (lit< tt) (omega (arith, last)),
      le-leb 1 i first,
      lt-ltb i j order,
      le-leb j n last,
    ) refl

tree-read : (n : ℕ) (line : TreeLine) → n ≤ 6 → HasSplit n line → tree_line_of n (tree_words line) ≡ Ok line
unfolding tree_line_of
tree-read n Leaf few s = refl
tree-read n (Split i j) few s = split-read n i j few s

coordinates-read : (xs : List ℕ) → AllByRecursion (λ x. x ≤ largest_coordinate) xs → coordinates_of (length xs) (map decimal xs) ≡ Ok xs
unfolding numbers_of
coordinates-read [] h = refl
coordinates-read (x ∷ xs) h = rw (whole_word-read largest_coordinate x (lit< tt) h.0, coordinates-read xs h.1) refl

each-below : (xs : List ℕ) → ((p : ℕ) → p < length xs → get_or xs p 0 ≤ largest_coordinate) → AllByRecursion (λ x. x ≤ largest_coordinate) xs
each-below [] h = tt
each-below (x ∷ xs) h = (h 0 (omega arith), each-below xs (λ p lt. h (suc p) (omega arith)))

within : (q : Rational) → nat_abs q.num ≤ widest → q.den ≤ widest → IsWithin widest q
within q num den = record { low = lit< tt; num = num; den = den }

term-read : (n : ℕ) (term : WeightedVector) → length term.vector ≡ n → IsNarrowTerm term → term_of n (term_words term) ≡ Ok term
unfolding term_of
term-read n term len h =
    let vector : coordinates_of n (map decimal term.vector) ≡ Ok term.vector =
    rw (← len) (coordinates-read term.vector (each-below term.vector h.vector.small)) in
    rw (ratio_word-read term.weight (within term.weight h.num h.den), vector) refl

row-read : (row : List ℤ) → AllByRecursion FitsInt row → signed_row (length row) (map signed_decimal row) ≡ Ok row
unfolding numbers_of
row-read [] h = refl
row-read (z ∷ row) h = rw (signed_word-read z h.0, row-read row h.1) refl

-- ---- the words are plain
plain-decimals : (xs : List ℕ) → AllByRecursion (λ x. x ≤ largest_coordinate) xs → AllByRecursion IsPlainWord (map decimal xs)
plain-decimals [] h = tt
plain-decimals (x ∷ xs) h = (plain-decimal x (wide x largest_coordinate (lit< tt) h.0), plain-decimals xs h.1)

plain-signeds : (row : List ℤ) → AllByRecursion FitsInt row → AllByRecursion IsPlainWord (map signed_decimal row)
plain-signeds [] h = tt
plain-signeds (z ∷ row) h = (plain-signed z (wide (nat_abs z) widest (lit< tt) h.0), plain-signeds row h.1)

plain-term : (term : WeightedVector) → IsNarrowTerm term → IsPlainLine (term_words term)
plain-term term h =
    record {
      some = omega arith;
      plain = (plain-quotient widest term.weight (within term.weight h.num h.den), plain-decimals term.vector (each-below term.vector h.vector.small));
    }

plain-tree : (n : ℕ) (line : TreeLine) → n ≤ 6 → HasSplit n line → IsPlainLine (tree_words line)
plain-tree n Leaf few s = record { some = omega arith; plain = (plain-codes (codes "leaf") refl, tt) }
plain-tree n (Split i j) few s =
    let order = s.order in
    let last = s.last in
    record {
      some = omega arith;
      plain = (plain-codes (codes "split") refl, (plain-decimal i (omega (arith, order, last)), (plain-decimal j (omega (arith, last)), tt)));
    }

plain-row : (row : List ℤ) → 0 < length row → AllByRecursion FitsInt row → IsPlainLine (map signed_decimal row)
plain-row [] some h = absurd (omega arith)
plain-row (z ∷ row) some h = record { some = omega arith; plain = plain-signeds (z ∷ row) h }

-- ---- many lines
abbrev items_from : {A B : Type 0} → (ℕ → B → A) → ℕ → List B → List A
items_from item k [] = []
items_from item k (x ∷ xs) = item k x ∷ items_from item (k + 1) xs

many-written : {A B : Type 0} (read : TextLine → Result A VerdictFault) (missing : VerdictFault) (ws : B → List (List ℕ)) (item : ℕ → B → A) (P : B → Type 0)
    → ((k : ℕ) (x : B) → P x → read (record { number = k; bytes = joined (ws x) }) ≡ Ok (item k x))
    → (k : ℕ) (xs : List B) (rest : List (List (List ℕ))) → AllByRecursion P xs
    → many read missing (length xs) (numbered k (map ws xs ++ rest)) ≡ Ok (record { items = items_from item k xs; rest = numbered (k + length xs) rest })
unfolding many
many-written {A} read missing ws item P good k [] rest h = (let same : k + 0 ≡ k = omega arith in rw same refl)
many-written {A} read missing ws item P good k (x ∷ xs) rest h =
    let same : k + suc (length xs) ≡ k + 1 + length xs = omega arith in
    rw (good k x h.0, many-written read missing ws item P good (k + 1) xs rest h.1, same) refl

items-same : {A : Type 0} (k : ℕ) (xs : List A) → items_from (λ k x. x) k xs ≡ xs
items-same k [] = refl
items-same {A} k (x ∷ xs) = ap (λ (t : List A). x ∷ t) (items-same (k + 1) xs)

each-plain : {B : Type 0} (ws : B → List (List ℕ)) (P : B → Type 0) → ((x : B) → P x → IsPlainLine (ws x)) → (xs : List B) (rest : List (List (List ℕ)))
    → AllByRecursion P xs → AllByRecursion IsPlainLine rest → AllByRecursion IsPlainLine (map ws xs ++ rest)
each-plain ws P good [] rest h r = r
each-plain ws P good (x ∷ xs) rest h r = (good x h.0, each-plain ws P good xs rest h.1 r)

flat-words : {B : Type 0} (ws : B → List (List ℕ)) (xs : List B) (rest : List (List (List ℕ)))
    → flat_map line_of_words (map ws xs ++ rest) ≡ flat_map (λ x. line_of_words (ws x)) xs ++ flat_map line_of_words rest
flat-words ws [] rest = refl
flat-words ws (x ∷ xs) rest = ap (λ (t : List ℕ). line_of_words (ws x) ++ t) (flat-words ws xs rest)
    ∙ sym (append_assoc (line_of_words (ws x)) (flat_map (λ x. line_of_words (ws x)) xs) (flat_map line_of_words rest))

-- both facts of each element
both : {B : Type 0} (P Q : B → Type 0) (xs : List B) → All P xs → All Q xs → AllByRecursion (λ x. P x × Q x) xs
both P Q [] p q = tt
both P Q (x ∷ xs) p q = ((p 0 x (omega arith), q 0 x (omega arith)), both P Q xs (λ i d lt. p (suc i) d (omega arith)) (λ i d lt. q (suc i) d (omega arith)))

each : {B : Type 0} (P : B → Type 0) (xs : List B) → All P xs → AllByRecursion P xs
each P [] p = tt
each P (x ∷ xs) p = (p 0 x (omega arith), each P xs (λ i d lt. p (suc i) d (omega arith)))

-- ---- a factorization
abbrev factors_lines : ℕ → List WeightedVector → List (List (List ℕ))
factors_lines n terms = factors_words n (length terms) ∷ (map term_words terms ++ [])

factors-text : (n : ℕ) (terms : List WeightedVector) → verdict_text (Factors n terms) ≡ flat_map line_of_words (factors_lines n terms)
unfolding verdict_text written_terms
factors-text n terms =
    ap (λ (t : List ℕ). line_of_words (factors_words n (length terms)) ++ t)
    (sym (flat-words term_words terms [] ∙ append-nil (flat_map (λ (t : WeightedVector). line_of_words (term_words t)) terms)))

factors-plain : (n : ℕ) (terms : List WeightedVector) → IsWritable (Factors n terms) → IsWhole (Factors n terms)
    → AllByRecursion IsPlainLine (factors_lines n terms)
factors-plain n terms writable whole =
    let few = writable.1 in
    let small = whole.0 in (
      record {
        some = omega arith;
        plain =
            (plain-codes (codes "factored") refl, (plain-decimal n (omega (arith, few)), (plain-decimal (length terms) (omega (arith, small)), tt)));
      },
      each-plain term_words (λ t. (length t.vector ≡ n) × IsNarrowTerm t) (λ t h. plain-term t h.1) terms []
          (both (λ (t : WeightedVector). length t.vector ≡ n) IsNarrowTerm terms writable.2 whole.1) tt,
    )

-- whatever the number of the first line
factors-read : (text : List ℕ) (k n : ℕ) (terms : List WeightedVector) → content_lines text ≡ numbered k (factors_lines n terms)
    → IsWritable (Factors n terms) → IsWhole (Factors n terms) → ProofText text (Factors n terms)
unfolding ProofText verdict_of verdict_of_lines factors_of
factors-read text k n terms content writable whole =
    let P : WeightedVector → Type 0 = λ t. (length t.vector ≡ n) × IsNarrowTerm t in
    let good = both (λ (t : WeightedVector). length t.vector ≡ n) IsNarrowTerm terms writable.2 whole.1 in
    let plain = factors-plain n terms writable whole in
    let first = line-read verdict_header k (factors_words n (length terms)) (OfFactors n (length terms)) plain.0.plain
    (factors-header n (length terms) writable.0 writable.1 whole.0) in
    let read = many-written (verdict_line (term_of n)) (missing_line (end_line text)) term_words (λ k t. t) P
    (λ k t h. line-read (term_of n) k (term_words t) t (plain-term t h.1).plain (term-read n t h.0 h.1)) (k + 1) terms [] good in
    rw (content, first, read, items-same (k + 1) terms) refl

-- ---- a separation
entry-narrow : (n : ℕ) (lower : List ℤ) (k : ℕ) → IsLower n lower → FitsInt (get_or lower k (pos 0))
entry-narrow n lower k h = elim (cases_lt k (length lower)) [ inl lt ↦ h.fits k lt | inr le ↦ rw (get_or_past lower k (pos 0) le) (lit≤ tt) ]

entry_in-narrow : (n : ℕ) (lower : List ℤ) (i j : ℕ) → IsLower n lower → FitsInt (entry_in (pos 0) lower i j)
unfolding entry_in
entry_in-narrow n lower i j h = elim (cases_lt i j) [
  | inl lt ↦ rw (lt-ltb i j lt) (entry-narrow n lower (triangle j + i) h)
  | inr le ↦ rw (le-ltb i j le) (entry-narrow n lower (triangle i + j) h)
]

-- n narrow entries
record IsRow (n : ℕ) (row : List ℤ) : Type 0 where
  len : length row ≡ n
  narrow : AllByRecursion FitsInt row

full-rows : (w : Symmetric) → IsSymmetricMatrix w → AllByRecursion (IsRow w.size) (full (pos 0) w.size w.lower)
unfolding full
full-rows w h = each_of_range (IsRow w.size) (λ i. map (λ j. entry_in (pos 0) w.lower i j) (range_with_len 0 w.size)) 0 w.size (λ i. record {
  len = length-map-range_with_len (λ j. entry_in (pos 0) w.lower i j) 0 w.size;
  narrow = each_of_range FitsInt (λ j. entry_in (pos 0) w.lower i j) 0 w.size (λ j. entry_in-narrow w.size w.lower i j h.triangle);
})

abbrev seen : ℕ → List ℤ → NumberedRow
seen k row = record { line = k; entries = row }

row_line-read : (n k : ℕ) (row : List ℤ) → IsRow n row → numbered_row n (record { number = k; bytes = joined (map signed_decimal row) }) ≡ Ok (seen k row)
row_line-read n k row h =
    let read : signed_row n (map signed_decimal row) ≡ Ok row = rw (← h.len) (row-read row h.narrow) in
    rw (line-read (signed_row n) k (map signed_decimal row) row (plain-signeds row h.narrow) read) refl

entries-seen : (k : ℕ) (rows : List (List ℤ)) → row_entries (items_from seen k rows) ≡ rows
entries-seen k [] = refl
entries-seen k (row ∷ rows) = ap (λ (others : List (List ℤ)). row ∷ others) (entries-seen (k + 1) rows)

length-seen : (k : ℕ) (rows : List (List ℤ)) → length (items_from seen k rows) ≡ length rows
length-seen k [] = refl
length-seen k (row ∷ rows) = ap suc (length-seen (k + 1) rows)

-- rows that are those of a lower triangle
rows-separator : (k : ℕ) (w : Symmetric) (value : Rational) (tree : Lines) → IsSymmetricMatrix w
    → unless_unlike (items_from seen k (full (pos 0) w.size w.lower)) value tree
    (first_unlike int_eq (pos 0) (row_entries (items_from seen k (full (pos 0) w.size w.lower)))) ≡ Ok (Separator w value tree)
rows-separator k w value tree h =
    let square = square-full (pos 0) w.size w.lower in
    let alike = mirrored-alike int_eq (pos 0) w.size (full (pos 0) w.size w.lower) Decides-int_eq square.len (full-mirrored (pos 0) w.size w.lower) in
    rw (entries-seen k (full (pos 0) w.size w.lower), alike)
    (ap₂ (λ (size : ℕ) (lower : List ℤ). separator_with value tree size lower) (length-seen k (full (pos 0) w.size w.lower) ∙ square.len)
    (ap (λ (rows : List (List ℤ)). lower_of rows) (entries-seen k (full (pos 0) w.size w.lower)) ∙ lower-full (pos 0) w.size w.lower h.triangle.entries))

abbrev row_words : List ℤ → List (List ℕ)
row_words row = map signed_decimal row

abbrev below_rows : Rational → Lines → List (List (List ℕ))
below_rows value tree = value_words value ∷ count_words (length tree) ∷ (map tree_words tree ++ [])

abbrev separator_lines : Symmetric → Rational → Lines → List (List (List ℕ))
separator_lines w value tree = separator_words w.size ∷ (map row_words (full (pos 0) w.size w.lower) ++ below_rows value tree)

separator-text : (w : Symmetric) (value : Rational) (tree : Lines)
    → verdict_text (Separator w value tree) ≡ flat_map line_of_words (separator_lines w value tree)
unfolding verdict_text written_rows written_tree
separator-text w value tree = rw (flat-words row_words (full (pos 0) w.size w.lower) (below_rows value tree), flat-words tree_words tree [])
    (join (line_of_words (separator_words w.size)) (flat_map (λ (row : List ℤ). line_of_words (map signed_decimal row)) (full (pos 0) w.size w.lower))
    (line_of_words (value_words value)) (line_of_words (count_words (length tree))) (flat_map (λ (line : TreeLine). line_of_words (tree_words line)) tree))
  where
    join : (a b c d e : List ℕ) → (((a ++ b) ++ c) ++ d) ++ e ≡ a ++ (b ++ (c ++ (d ++ (e ++ []))))
    join a b c d e = simp (append_assoc, append-nil)

-- that the lines are plain
module _ (w : Symmetric) (value : Rational) (tree : Lines) (writable : IsWritable (Separator w value tree)) (whole : IsWhole (Separator w value tree))
  where
    header_plain : IsPlainLine (separator_words w.size)
    header_plain =
        let few = writable.0 in
        record { some = omega arith; plain = (plain-codes (codes "separated") refl, (plain-decimal w.size (omega (arith, few)), tt)) }

    value_plain : IsPlainLine (value_words value)
    value_plain = record {
      some = omega arith;
      plain =
          (plain-codes (codes "value") refl, (plain-quotient widest value (within value whole.num whole.den), tt));
    }

    count_plain : IsPlainLine (count_words (length tree))
    count_plain = record {
      some = omega arith;
      plain =
          (plain-codes (codes "tree") refl, (plain-decimal (length tree) (let small = whole.tree_length in omega (arith, small)), tt));
    }

    lines_plain : AllByRecursion IsPlainLine (separator_lines w value tree)
    lines_plain =
        let some : 1 ≤ w.size = whole.matrix.positive in
        let few : w.size ≤ 6 = writable.0 in (
          header_plain,
          each-plain row_words (IsRow w.size) (λ row h. plain-row row (let len = h.len in omega (arith, len, some)) h.narrow) (full (pos 0) w.size w.lower)
              (below_rows value tree) (full-rows w whole.matrix) (
                value_plain,
                (
                  count_plain,
                  each-plain tree_words (HasSplit w.size) (λ line h. plain-tree w.size line few h) tree []
                      (each (HasSplit w.size) tree writable.1) tt,
                ),
              ),
        )

-- whatever the number of the first line
separator-read : (text : List ℕ) (k : ℕ) (w : Symmetric) (value : Rational) (tree : Lines)
    → content_lines text ≡ numbered k (separator_lines w value tree) → IsWritable (Separator w value tree) → IsWhole (Separator w value tree)
    → ProofText text (Separator w value tree)
unfolding ProofText verdict_of verdict_of_lines separator_of
separator-read text k w value tree content writable whole =
    let few = writable.0 in
    let missing : VerdictFault = missing_line (end_line text) in
    let square = square-full (pos 0) w.size w.lower in
    let first = line-read verdict_header k (separator_words w.size) (OfSeparator w.size) (header_plain w value tree writable whole).plain
    (separator-header w.size whole.matrix.positive few) in
    let read_rows : many (numbered_row w.size) (missing_line (end_line text)) w.size
    (numbered (k + 1) (map row_words (full (pos 0) w.size w.lower) ++ below_rows value tree))
    ≡ Ok (record { items = items_from seen (k + 1) (full (pos 0) w.size w.lower); rest = numbered (k + 1 + w.size) (below_rows value tree) }) =
    subst (λ (m : ℕ). many (numbered_row w.size) (missing_line (end_line text)) m
    (numbered (k + 1) (map row_words (full (pos 0) w.size w.lower) ++ below_rows value tree))
    ≡ Ok (record { items = items_from seen (k + 1) (full (pos 0) w.size w.lower); rest = numbered (k + 1 + m) (below_rows value tree) })) square.len
    (many-written (numbered_row w.size) (missing_line (end_line text)) row_words seen (IsRow w.size) (λ k row h. row_line-read w.size k row h) (k + 1)
    (full (pos 0) w.size w.lower) (below_rows value tree) (full-rows w whole.matrix)) in
    let read_value = line-read value_of (k + 1 + w.size) (value_words value) value (value_plain w value tree writable whole).plain
    (value-read value (within value whole.num whole.den)) in
    let read_count = line-read count_of (k + 1 + w.size + 1) (count_words (length tree)) (length tree) (count_plain w value tree writable whole).plain
    (count-read (length tree) whole.tree_length) in
    let read_tree = many-written (verdict_line (tree_line_of w.size)) (missing_line (end_line text)) tree_words (λ k line. line) (HasSplit w.size)
    (λ k line h. line-read (tree_line_of w.size) k (tree_words line) line (plain-tree w.size line few h).plain (tree-read w.size line few h))
    (k + 1 + w.size + 1 + 1) tree [] (each (HasSplit w.size) tree writable.1) in
    rw (content, first, read_rows, read_value, read_count, read_tree, items-same (k + 1 + w.size + 1 + 1) tree)
    (rows-separator (k + 1) w value tree whole.matrix)

-- ---- a verdict, and lines before it that are skipped
verdict-behind : (skipped : List (List ℕ)) (v : Verdict) → AllByRecursion IsSkippedLine skipped → IsWritable v → IsWhole v
    → ProofText (ended_lines skipped ++ verdict_text v) v
verdict-behind skipped (Factors n terms) h writable whole =
    factors-read _ (1 + length skipped) n terms
    (ap (λ (t : List ℕ). content_lines (ended_lines skipped ++ t)) (factors-text n terms)
    ∙ content_lines-behind skipped (factors_lines n terms) h (factors-plain n terms writable whole)) writable whole
verdict-behind skipped (Separator w value tree) h writable whole =
    separator-read _ (1 + length skipped) w value tree
    (ap (λ (t : List ℕ). content_lines (ended_lines skipped ++ t)) (separator-text w value tree)
    ∙ content_lines-behind skipped (separator_lines w value tree) h (lines_plain w value tree writable whole)) writable whole

pub read-behind : (before : List ℕ) (v : Verdict) → IsSkippedText before → IsWritable v → IsWhole v → ProofText (before ++ verdict_text v) v
read-behind before v h writable whole =
    subst (λ (t : List ℕ). ProofText (t ++ verdict_text v) v) (sym h.text_is) (verdict-behind h.lines v h.skipped writable whole)
