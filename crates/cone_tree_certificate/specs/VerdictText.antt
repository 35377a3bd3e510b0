-- The one written form of a verdict.
--
--     term_words term          the words of a term: its weight as `p/q` in lowest terms, also where q is 1, and the coordinates
--     tree_words line          the words of a line of the tree
--     written_rows w           the lines of the full symmetric W
--     written_tree lines       the lines of the tree
--     verdict_text v           the lines of the verdict, with one space between words and a line feed at the end of each
--     HasSplit n line          a split is of 1 ≤ i < j ≤ n
--     IsCheckable v            each vector has as many coordinates as the verdict says, and each split is of 1 ≤ i < j ≤ n
--     IsWritable v             1 to 6 rows, and as IsCheckable
--     IsNarrowTerm, IsWholeSeparator   the parts of IsWhole
--     IsWhole v                what the types of the program keep: weights and the value of at most 127 bits, vectors of
--                              coordinates up to 2^62, W a symmetric matrix of narrow entries, and lists of less than 2^64 items
use Rattle.std.specs.Prelude.{◌≡◌, ℕ, ◌<◌, ◌≤◌, ◌^◌, List, [], ◌∷◌, ◌++◌, length, map, ℤ, pos, nat_abs, codes}
use Rattle.std.specs.List.{All, flat_map}
use Rattle.std.specs.Fmt.{decimal, signed_decimal}
use Rattle.exact_forms.specs.Rational.{Rational}
use Rattle.exact_forms.specs.Factors.{WeightedVector}
use Rattle.symmetric_matrix.specs.Symmetric.{Symmetric, IsSymmetricMatrix}
use Rattle.symmetric_matrix.specs.Lists.{IsVector}
use Rattle.text_lines.specs.Square.{full}
use Rattle.text_lines.specs.Spelling.{line_of_words, quotient_word}
use Rattle.cone_tree_certificate.specs.declared.verdict.Verdict.{Verdict}
use Rattle.cone_tree_certificate.specs.declared.verdict.Verdict.TheVariants.{Factors, Separator}
use Rattle.cone_tree_certificate.specs.declared.tree.TreeLine.{TreeLine}
use Rattle.cone_tree_certificate.specs.declared.tree.TreeLine.TheVariants.{Leaf, Split}
use Rattle.cone_tree_certificate.specs.Trees.{Lines, IsSplitLine}
use Rattle.cone_tree_certificate.specs.Words.{widest}

abbrev pub term_words : WeightedVector → List (List ℕ)
term_words term = quotient_word term.weight ∷ map decimal term.vector

abbrev pub tree_words : TreeLine → List (List ℕ)
tree_words Leaf = codes "leaf" ∷ []
tree_words (Split i j) = codes "split" ∷ decimal i ∷ decimal j ∷ []

unfoldable pub written_terms : List WeightedVector → List ℕ
written_terms terms = flat_map (λ term. line_of_words (term_words term)) terms

unfoldable pub written_rows : Symmetric → List ℕ
written_rows w = flat_map (λ row. line_of_words (map signed_decimal row)) (full (pos 0) w.size w.lower)

unfoldable pub written_tree : Lines → List ℕ
written_tree lines = flat_map (λ line. line_of_words (tree_words line)) lines

unfoldable pub verdict_text : Verdict → List ℕ
verdict_text (Factors n terms) = line_of_words (codes "factored" ∷ decimal n ∷ decimal (length terms) ∷ [])
    ++ written_terms terms
verdict_text (Separator w value tree) =
    line_of_words (codes "separated" ∷ decimal w.size ∷ []) ++ written_rows w
    ++ line_of_words (codes "value" ∷ quotient_word value ∷ [])
    ++ line_of_words (codes "tree" ∷ decimal (length tree) ∷ []) ++ written_tree tree

abbrev pub HasSplit : ℕ → TreeLine → Type 0
HasSplit n Leaf = Unit {0}
HasSplit n (Split i j) = IsSplitLine n i j

abbrev pub IsCheckable : Verdict → Type 0
IsCheckable (Factors n terms) = All (λ term. length term.vector ≡ n) terms
IsCheckable (Separator w value tree) = All (HasSplit w.size) tree

abbrev pub IsWritable : Verdict → Type 0
IsWritable (Factors n terms) = (1 ≤ n) × (n ≤ 6) × All (λ term. length term.vector ≡ n) terms
IsWritable (Separator w value tree) = (w.size ≤ 6) × All (HasSplit w.size) tree

pub record IsNarrowTerm (term : WeightedVector) : Type 0 where
  pub num : nat_abs term.weight.num ≤ widest
  pub den : term.weight.den ≤ widest
  pub vector : IsVector term.vector

pub record IsWholeSeparator (w : Symmetric) (value : Rational) (tree : Lines) : Type 0 where
  pub matrix : IsSymmetricMatrix w
  pub num : nat_abs value.num ≤ widest
  pub den : value.den ≤ widest
  pub tree_length : length tree < 2 ^ 64

abbrev pub IsWhole : Verdict → Type 0
IsWhole (Factors n terms) = (length terms < 2 ^ 64) × All IsNarrowTerm terms
IsWhole (Separator w value tree) = IsWholeSeparator w value tree
