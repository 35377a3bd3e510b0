-- What the words of a line of a verdict stand for: a value, or the kind of the first fault. Words are taken from the left.
--
--     word_kind fault           the kind of a number's fault
--     whole_word limit word     a whole word of a value up to the limit; BadNumber, NumberTooLarge
--     signed_word limit word    a signed word of a magnitude up to the limit; the same
--     ratio_word limit word     a fraction word, both numbers up to the limit; the same, then ZeroDenominator
--     widest, largest_count, largest_coordinate, largest_generator   the limits
--     keyed name words          the words after this first word; ShortLine, BadWord
--     last_of_words read words  one word, and no other; ShortLine, LongLine
--     dimension_of word         the number of a whole word, from 1 to 6; BadDimension
--     separation_header, factorization_header   the two headers by their words
--     verdict_header words      `factored n k`, or `separated n`; NoHeader, BadDimension, and of k as of a number
--     coordinates_of n words    n coordinates
--     term_of n words           a weight and n coordinates
--     signed_row n words        n signed words
--     value_of words            `value` and a fraction word
--     count_of words            `tree` and a count
--     split_at_pair n i j       the split; BadSplit where not 1 ≤ i < j ≤ n
--     split_of n words          the split of two whole words
--     tree_line_of n words      `leaf`, or `split i j`
use Rattle.std.specs.Prelude.{ℕ, ◌-◌, ◌^◌, not, ◌&&◌, List, [], ◌∷◌, Result, Ok, Err, ℤ, nat_lt, nat_le, if◌then◌else◌, codes}
use Rattle.std.specs.Str.{bytes_eq}
use Rattle.exact_forms.specs.Rational.{Rational}
use Rattle.exact_forms.specs.Factors.{WeightedVector}
use Rattle.text_lines.specs.Numbers.{is_whole, whole_value}
use Rattle.text_lines.specs.Readings.{◌>>=◌, ended, first_word, numbers_of}
use Rattle.text_lines.specs.Fractions.{whole_up_to, signed_up_to, fraction_up_to, kinded}
use Rattle.text_lines.specs.declared.fractions.NumberFault.{NumberFault}
use Rattle.text_lines.specs.declared.fractions.NumberFault.TheVariants.{NotNumber, TooLarge, ZeroDenominator as OverZero}
use Rattle.cone_tree_certificate.specs.declared.fault.VerdictKind.{VerdictKind}
use Rattle.cone_tree_certificate.specs.declared.fault.VerdictKind.TheVariants.{NoHeader, BadDimension, BadWord, BadNumber, NumberTooLarge, ZeroDenominator, ShortLine, LongLine, BadSplit}
use Rattle.cone_tree_certificate.specs.declared.header.Header.{Header}
use Rattle.cone_tree_certificate.specs.declared.header.Header.TheVariants.{OfFactors, OfSeparator}
use Rattle.cone_tree_certificate.specs.declared.tree.TreeLine.{TreeLine}
use Rattle.cone_tree_certificate.specs.declared.tree.TreeLine.TheVariants.{Leaf, Split}

-- ---- the limits
abbrev pub widest : ℕ
widest = 2 ^ 127 - 1

abbrev pub largest_count : ℕ
largest_count = 2 ^ 64 - 1

abbrev pub largest_coordinate : ℕ
largest_coordinate = 2 ^ 62

abbrev pub largest_generator : ℕ
largest_generator = 2 ^ 32 - 1

-- ---- a word
abbrev pub word_kind : NumberFault → VerdictKind
word_kind NotNumber = BadNumber
word_kind TooLarge = NumberTooLarge
word_kind OverZero = ZeroDenominator

unfoldable pub whole_word : ℕ → List ℕ → Result ℕ VerdictKind
whole_word limit word = kinded word_kind (whole_up_to limit word)

unfoldable pub signed_word : ℕ → List ℕ → Result ℤ VerdictKind
signed_word limit word = kinded word_kind (signed_up_to limit word)

unfoldable pub ratio_word : ℕ → List ℕ → Result Rational VerdictKind
ratio_word limit word = kinded word_kind (fraction_up_to limit word)

-- ---- the words of a line
abbrev pub keyed : List ℕ → List (List ℕ) → Result (List (List ℕ)) VerdictKind
keyed name [] = Err ShortLine
keyed name (word ∷ more) = if bytes_eq word name then Ok more else Err BadWord

abbrev pub last_of_words : {A : Type 0} → (List ℕ → Result A VerdictKind) → List (List ℕ) → Result A VerdictKind
last_of_words read words = first_word read ShortLine words >>= λ first. ended LongLine first.1 first.0

-- ---- the header
unfoldable pub dimension_of : List ℕ → Result ℕ VerdictKind
dimension_of word =
    if is_whole word && nat_lt 0 (whole_value word) && nat_lt (whole_value word) 7 then Ok (whole_value word) else Err
    BadDimension

abbrev pub separation_header : List ℕ → List ℕ → Result Header VerdictKind
separation_header name size =
    if not (bytes_eq name (codes "separated")) then Err NoHeader
    else (dimension_of size >>= λ n. Ok (OfSeparator n))

abbrev pub factorization_header : List ℕ → List ℕ → List ℕ → Result Header VerdictKind
factorization_header name size count =
    if not (bytes_eq name (codes "factored")) then Err NoHeader
    else (do
      n ← dimension_of size
      k ← whole_word largest_count count
      Ok (OfFactors n k))

unfoldable pub verdict_header : List (List ℕ) → Result Header VerdictKind
verdict_header (name ∷ size ∷ []) = separation_header name size
verdict_header (name ∷ size ∷ count ∷ []) = factorization_header name size count
verdict_header others = Err NoHeader

-- ---- the other lines
abbrev pub coordinates_of : ℕ → List (List ℕ) → Result (List ℕ) VerdictKind
coordinates_of n words = numbers_of (whole_word largest_coordinate) ShortLine LongLine n words

unfoldable pub term_of : ℕ → List (List ℕ) → Result WeightedVector VerdictKind
term_of n words = do
  weight ← first_word (ratio_word widest) ShortLine words
  vector ← coordinates_of n weight.1
  Ok (record { weight = weight.0; vector = vector })

abbrev pub signed_row : ℕ → List (List ℕ) → Result (List ℤ) VerdictKind
signed_row n words = numbers_of (signed_word widest) ShortLine LongLine n words

unfoldable pub value_of : List (List ℕ) → Result Rational VerdictKind
value_of words = keyed (codes "value") words >>= last_of_words (ratio_word widest)

unfoldable pub count_of : List (List ℕ) → Result ℕ VerdictKind
count_of words = keyed (codes "tree") words >>= last_of_words (whole_word largest_count)

unfoldable pub split_at_pair : ℕ → ℕ → ℕ → Result TreeLine VerdictKind
split_at_pair n i j = if nat_le 1 i && nat_lt i j && nat_le j n then Ok (Split i j) else Err BadSplit

unfoldable pub split_of : ℕ → List (List ℕ) → Result TreeLine VerdictKind
split_of n words = do
  i ← first_word (whole_word largest_generator) ShortLine words
  j ← last_of_words (whole_word largest_generator) i.1
  split_at_pair n i.0 j

unfoldable pub tree_line_of : ℕ → List (List ℕ) → Result TreeLine VerdictKind
tree_line_of n [] = Err ShortLine
tree_line_of n (word ∷ more) =
    if bytes_eq word (codes "leaf") then ended LongLine more Leaf
    else (if bytes_eq word (codes "split") then split_of n more
    else Err BadWord)
