-- The text of a verdict: what it stands for, or its first fault.
--
--     verdict_fault kind line      the fault of this kind at this line
--     missing_line end             MissingLine at the end line
--     verdict_line read line       what is read of a line's words; NotAscii before every other fault of the line
--     NumberedRow                  a row of W, and the line where it stands
--     numbered_row n line          the row of n entries that a line writes
--     no_more_lines lines read     what was read, where no line is left; ExtraLine
--     factors_of n k end lines     the factorization of k terms that the lines write
--     row_entries rows             the rows without their lines
--     unless_unlike rows v t first the verdict of W's rows, the value and the tree; or NotSymmetric at the line of the row `first`
--     separator_of n end lines     the separation that the lines write
--     verdict_of bytes             the verdict, or the first fault; NotSymmetric where no other fault is, at the line of the first
--                                  row that is not as its column, left of the diagonal
--     ProofText bytes v            the bytes are a text of the verdict
--     ProofFault bytes k l         the first fault of the bytes is of this kind, at this line
--     IsProofOfOne bytes v         they are a text of this verdict, of no other, and have no fault
--     IsFaultyProof bytes f        this is their first fault, there is no other, and they are a text of no verdict
--     HasOneVerdict bytes          exactly one of the two holds, for exactly one value
--
-- Lines count from 1, rows and columns from 0.
use Rattle.std.specs.Prelude.{◌≡◌, ℕ, ◌⊎◌, List, [], ◌∷◌, Option, Some, None, Result, Ok, Err, ℤ, pos, length, map, slice_index_or}
use Rattle.std.specs.Ordering.{int_eq}
use Rattle.exact_forms.specs.Rational.{Rational}
use Rattle.text_lines.specs.Lines.{content_lines, end_line, TextLine}
use Rattle.text_lines.specs.Readings.{◌>>=◌, in_line, first_line, many}
use Rattle.text_lines.specs.Square.{lower_of, first_unlike}
use Rattle.cone_tree_certificate.specs.declared.fault.VerdictKind.{VerdictKind}
use Rattle.cone_tree_certificate.specs.declared.fault.VerdictKind.TheVariants.{NotAscii, NoHeader, MissingLine, ExtraLine, NotSymmetric}
use Rattle.cone_tree_certificate.specs.declared.fault.VerdictFault.{VerdictFault}
use Rattle.cone_tree_certificate.specs.declared.header.Header.{Header}
use Rattle.cone_tree_certificate.specs.declared.header.Header.TheVariants.{OfFactors, OfSeparator}
use Rattle.cone_tree_certificate.specs.declared.verdict.Verdict.{Verdict}
use Rattle.cone_tree_certificate.specs.declared.verdict.Verdict.TheVariants.{Factors, Separator}
use Rattle.cone_tree_certificate.specs.Trees.{Lines}
use Rattle.cone_tree_certificate.specs.Words.{verdict_header, term_of, signed_row, value_of, count_of, tree_line_of}

abbrev pub verdict_fault : VerdictKind → ℕ → VerdictFault
verdict_fault kind line = record { kind = kind; line = line }

abbrev pub missing_line : ℕ → VerdictFault
missing_line end = verdict_fault MissingLine end

abbrev pub verdict_line : {A : Type 0} → (List (List ℕ) → Result A VerdictKind) → TextLine → Result A VerdictFault
verdict_line read line = in_line verdict_fault NotAscii read line

abbrev pub no_more_lines : {A : Type 0} → List TextLine → Result A VerdictFault → Result A VerdictFault
no_more_lines [] read = read
no_more_lines (line ∷ more) read = verdict_line (λ others. Err ExtraLine) line

-- ---- a factorization

unfoldable pub factors_of : ℕ → ℕ → ℕ → List TextLine → Result Verdict VerdictFault
factors_of n k end lines = do
  terms ← many (verdict_line (term_of n)) (missing_line end) k lines
  no_more_lines terms.rest (Ok (Factors n terms.items))

-- ---- a separation

pub record NumberedRow : Type 0 where
  pub line : ℕ
  pub entries : List ℤ

abbrev pub numbered_row : ℕ → TextLine → Result NumberedRow VerdictFault
numbered_row n line =
    verdict_line (signed_row n) line >>= λ entries. Ok (record { line = line.number; entries = entries })

abbrev pub row_entries : List NumberedRow → List (List ℤ)
row_entries rows = map (λ row. row.entries) rows

abbrev pub unless_unlike : List NumberedRow → Rational → Lines → Option ℕ → Result Verdict VerdictFault
unless_unlike rows value tree None =
    Ok (Separator (record { size = length rows; lower = lower_of (row_entries rows) }) value tree)
unless_unlike rows value tree (Some i) =
    Err (verdict_fault NotSymmetric (slice_index_or rows i (record { line = 0; entries = [] })).line)

unfoldable pub separator_of : ℕ → ℕ → List TextLine → Result Verdict VerdictFault
separator_of n end lines = do
  rows ← many (numbered_row n) (missing_line end) n lines
  value ← first_line (verdict_line value_of) (missing_line end) rows.rest
  count ← first_line (verdict_line count_of) (missing_line end) value.1
  tree ← many (verdict_line (tree_line_of n)) (missing_line end) count.0 count.1
  no_more_lines tree.rest
      (unless_unlike rows.items value.0 tree.items (first_unlike int_eq (pos 0) (row_entries rows.items)))

-- ---- the text

abbrev pub verdict_after : ℕ → List TextLine → Header → Result Verdict VerdictFault
verdict_after end lines (OfFactors n k) = factors_of n k end lines
verdict_after end lines (OfSeparator n) = separator_of n end lines

unfoldable pub verdict_of_lines : ℕ → List TextLine → Result Verdict VerdictFault
verdict_of_lines end lines = first_line (verdict_line verdict_header) (verdict_fault NoHeader end) lines
    >>= λ header. verdict_after end header.1 header.0

unfoldable pub verdict_of : List ℕ → Result Verdict VerdictFault
verdict_of bytes = verdict_of_lines (end_line bytes) (content_lines bytes)

unfoldable pub ProofText : List ℕ → Verdict → Type 0
ProofText bytes v = verdict_of bytes ≡ Ok v

unfoldable pub ProofFault : List ℕ → VerdictKind → ℕ → Type 0
ProofFault bytes kind line = verdict_of bytes ≡ Err (record { kind = kind; line = line })

pub record IsProofOfOne (bytes : List ℕ) (v : Verdict) : Type 0 where
  pub text : ProofText bytes v
  pub alone : (w : Verdict) → ProofText bytes w → w ≡ v
  pub faultless : (kind : VerdictKind) (line : ℕ) → ProofFault bytes kind line → ⊥

pub record IsFaultyProof (bytes : List ℕ) (first : VerdictFault) : Type 0 where
  pub fault : ProofFault bytes first.kind first.line
  pub alone : (kind : VerdictKind) (line : ℕ) → ProofFault bytes kind line → (kind ≡ first.kind) × (line ≡ first.line)
  pub no_text : (v : Verdict) → ProofText bytes v → ⊥

abbrev pub HasOneVerdict : List ℕ → Type 0
HasOneVerdict bytes = ((v : Verdict) × IsProofOfOne bytes v) ⊎ ((fault : VerdictFault) × IsFaultyProof bytes fault)
