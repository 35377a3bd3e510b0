-- How a text's reading follows from the readings of its parts.
use Rattle.std.proofs.Common.{◌≡◌, ℕ, List, [], ◌∷◌, length, Option, None, Some, Result, Ok, Err, ℤ, pos, refl, sym, ap, ◌∙◌}
use Rattle.std.specs.Prelude.{IfOk}
use Rattle.std.specs.Ordering.{int_eq}
use Rattle.exact_forms.specs.Rational.{Rational}
use Rattle.exact_forms.specs.Factors.{WeightedVector}
use Rattle.text_lines.specs.Lines.{TextLine, Content, content_lines, end_line}
use Rattle.text_lines.specs.Readings.{◌>>=◌, Many, first_line, many}
use Rattle.text_lines.specs.Square.{first_unlike}
use Rattle.cone_tree_certificate.specs.declared.fault.VerdictKind.{VerdictKind}
use Rattle.cone_tree_certificate.specs.declared.fault.VerdictKind.TheVariants.{NoHeader}
use Rattle.cone_tree_certificate.specs.declared.fault.VerdictFault.{VerdictFault}
use Rattle.cone_tree_certificate.specs.declared.fault.VerdictFail.{VerdictFail}
use Rattle.cone_tree_certificate.specs.declared.fault.VerdictFail.TheVariants.{Fault, OutOfMemory}
use Rattle.cone_tree_certificate.specs.declared.header.Header.{Header}
use Rattle.cone_tree_certificate.specs.declared.header.Header.TheVariants.{OfFactors, OfSeparator}
use Rattle.cone_tree_certificate.specs.declared.tree.TreeLine.{TreeLine}
use Rattle.cone_tree_certificate.specs.declared.verdict.Verdict.{Verdict}
use Rattle.cone_tree_certificate.specs.declared.verdict.Verdict.TheVariants.{Factors}
use Rattle.cone_tree_certificate.specs.Trees.{Lines}
use Rattle.cone_tree_certificate.specs.Words.{verdict_header, term_of, value_of, count_of, tree_line_of}
use Rattle.cone_tree_certificate.specs.ProofText.{verdict_fault, missing_line, verdict_line, no_more_lines, factors_of, NumberedRow, numbered_row, row_entries}
use Rattle.cone_tree_certificate.specs.ProofText.{unless_unlike, separator_of, verdict_after, verdict_of_lines, verdict_of, ProofText, ProofFault}
use Rattle.cone_tree_certificate.specs.VerdictText.{IsWritable, IsCheckable}
use Rattle.cone_tree_certificate.specs.Reading.{RefusedWith, ReadsTo}
use Rattle.cone_tree_certificate.proofs.Steps.{refused_then, refused_same}
use Rattle.cone_tree_certificate.proofs.Writable.{text-writable, writable-checkable}

-- ---- a factorization
pub terms_refused : (n k end : ℕ) (ls : List TextLine) (fail : VerdictFail) → RefusedWith (many (verdict_line (term_of n)) (missing_line end) k ls) fail
    → RefusedWith (factors_of n k end ls) fail
unfolding factors_of
terms_refused n k end ls fail h =
    refused_then (many (verdict_line (term_of n)) (missing_line end) k ls) (λ terms. no_more_lines terms.rest (Ok (Factors n terms.items))) fail h

pub terms_read : (n k end : ℕ) (ls : List TextLine) (m : Many WeightedVector) → many (verdict_line (term_of n)) (missing_line end) k ls ≡ Ok m
    → factors_of n k end ls ≡ no_more_lines m.rest (Ok (Factors n m.items))
unfolding factors_of
terms_read n k end ls m e = rw e refl

pub factors_end : (n k end : ℕ) (ls : List TextLine) (m : Many WeightedVector) → many (verdict_line (term_of n)) (missing_line end) k ls ≡ Ok m → m.rest ≡ []
    → factors_of n k end ls ≡ Ok (Factors n m.items)
unfolding factors_of
factors_end n k end ls m e none = rw (e, none) refl

-- ---- a separation, step by step
abbrev pub after_tree : List NumberedRow → Rational → Lines → List TextLine → Result Verdict VerdictFault
after_tree rows value tree rest = no_more_lines rest (unless_unlike rows value tree (first_unlike int_eq (pos 0) (row_entries rows)))

abbrev pub after_count : ℕ → ℕ → List NumberedRow → Rational → ℕ → List TextLine → Result Verdict VerdictFault
after_count n end rows value count rest = many (verdict_line (tree_line_of n)) (missing_line end) count rest
    >>= λ tree. after_tree rows value tree.items tree.rest

abbrev pub after_value : ℕ → ℕ → List NumberedRow → Rational → List TextLine → Result Verdict VerdictFault
after_value n end rows value rest = first_line (verdict_line count_of) (missing_line end) rest >>= λ count. after_count n end rows value count.0 count.1

abbrev pub after_rows : ℕ → ℕ → List NumberedRow → List TextLine → Result Verdict VerdictFault
after_rows n end rows rest = first_line (verdict_line value_of) (missing_line end) rest >>= λ value. after_value n end rows value.0 value.1

pub rows_refused : (n end : ℕ) (ls : List TextLine) (fail : VerdictFail) → RefusedWith (many (numbered_row n) (missing_line end) n ls) fail
    → RefusedWith (separator_of n end ls) fail
unfolding separator_of
rows_refused n end ls fail h = refused_then (many (numbered_row n) (missing_line end) n ls) (λ m. after_rows n end m.items m.rest) fail h

pub rows_read : (n end : ℕ) (ls : List TextLine) (m : Many NumberedRow) → many (numbered_row n) (missing_line end) n ls ≡ Ok m
    → separator_of n end ls ≡ after_rows n end m.items m.rest
unfolding separator_of
rows_read n end ls m e = rw e refl

pub value_refused : (n end : ℕ) (rows : List NumberedRow) (rest : List TextLine) (fail : VerdictFail)
    → RefusedWith (first_line (verdict_line value_of) (missing_line end) rest) fail → RefusedWith (after_rows n end rows rest) fail
value_refused n end rows rest fail h =
    refused_then (first_line (verdict_line value_of) (missing_line end) rest) (λ value. after_value n end rows value.0 value.1) fail h

pub value_read : (n end : ℕ) (rows : List NumberedRow) (rest : List TextLine) (value : Rational) (more : List TextLine)
    → first_line (verdict_line value_of) (missing_line end) rest ≡ Ok (value, more) → after_rows n end rows rest ≡ after_value n end rows value more
value_read n end rows rest value more e = rw e refl

pub count_refused : (n end : ℕ) (rows : List NumberedRow) (value : Rational) (rest : List TextLine) (fail : VerdictFail)
    → RefusedWith (first_line (verdict_line count_of) (missing_line end) rest) fail → RefusedWith (after_value n end rows value rest) fail
count_refused n end rows value rest fail h =
    refused_then (first_line (verdict_line count_of) (missing_line end) rest) (λ count. after_count n end rows value count.0 count.1) fail h

pub count_read : (n end : ℕ) (rows : List NumberedRow) (value : Rational) (rest : List TextLine) (count : ℕ) (more : List TextLine)
    → first_line (verdict_line count_of) (missing_line end) rest ≡ Ok (count, more)
    → after_value n end rows value rest ≡ after_count n end rows value count more
count_read n end rows value rest count more e = rw e refl

pub tree_refused : (n end : ℕ) (rows : List NumberedRow) (value : Rational) (count : ℕ) (rest : List TextLine) (fail : VerdictFail)
    → RefusedWith (many (verdict_line (tree_line_of n)) (missing_line end) count rest) fail → RefusedWith (after_count n end rows value count rest) fail
tree_refused n end rows value count rest fail h =
    refused_then (many (verdict_line (tree_line_of n)) (missing_line end) count rest) (λ tree. after_tree rows value tree.items tree.rest) fail h

pub tree_read : (n end : ℕ) (rows : List NumberedRow) (value : Rational) (count : ℕ) (rest : List TextLine) (m : Many TreeLine)
    → many (verdict_line (tree_line_of n)) (missing_line end) count rest ≡ Ok m → after_count n end rows value count rest ≡ after_tree rows value m.items m.rest
tree_read n end rows value count rest m e = rw e refl

pub nothing_left : (rows : List NumberedRow) (value : Rational) (tree : Lines) (rest : List TextLine) → rest ≡ []
    → after_tree rows value tree rest ≡ unless_unlike rows value tree (first_unlike int_eq (pos 0) (row_entries rows))
nothing_left rows value tree rest e = rw e refl

-- what the lines of a separation are, once some of its parts are read
pub up_to_value : (n end : ℕ) (ls : List TextLine) (m : Many NumberedRow) → many (numbered_row n) (missing_line end) n ls ≡ Ok m
    → (value : Rational) (more : List TextLine) → first_line (verdict_line value_of) (missing_line end) m.rest ≡ Ok (value, more)
    → separator_of n end ls ≡ after_value n end m.items value more
up_to_value n end ls m rows value more e = rows_read n end ls m rows ∙ value_read n end m.items m.rest value more e

pub up_to_count : (n end : ℕ) (ls : List TextLine) (m : Many NumberedRow) → many (numbered_row n) (missing_line end) n ls ≡ Ok m
    → (value : Rational) (more : List TextLine) → first_line (verdict_line value_of) (missing_line end) m.rest ≡ Ok (value, more)
    → (count : ℕ) (rest : List TextLine) → first_line (verdict_line count_of) (missing_line end) more ≡ Ok (count, rest)
    → separator_of n end ls ≡ after_count n end m.items value count rest
up_to_count n end ls m rows value more e count rest f = up_to_value n end ls m rows value more e ∙ count_read n end m.items value more count rest f

-- ---- the text
pub header_refused : (bytes : List ℕ) (fail : VerdictFail)
    → RefusedWith (first_line (verdict_line verdict_header) (verdict_fault NoHeader (end_line bytes)) (content_lines bytes)) fail
    → RefusedWith (verdict_of bytes) fail
unfolding verdict_of verdict_of_lines
header_refused bytes fail h =
    refused_then (first_line (verdict_line verdict_header) (verdict_fault NoHeader (end_line bytes)) (content_lines bytes))
    (λ header. verdict_after (end_line bytes) header.1 header.0) fail h

pub header_read : (bytes : List ℕ) (header : Header) (more : List TextLine)
    → first_line (verdict_line verdict_header) (verdict_fault NoHeader (end_line bytes)) (content_lines bytes) ≡ Ok (header, more)
    → verdict_of bytes ≡ verdict_after (end_line bytes) more header
unfolding verdict_of verdict_of_lines
header_read bytes header more e = rw e refl

pub factors_text : (bytes : List ℕ) (header : Header) (more : List TextLine) (end n k : ℕ)
    → first_line (verdict_line verdict_header) (verdict_fault NoHeader (end_line bytes)) (content_lines bytes) ≡ Ok (header, more) → header ≡ OfFactors n k
    → end ≡ end_line bytes → verdict_of bytes ≡ factors_of n k end more
factors_text bytes header more end n k e is at = header_read bytes header more e ∙ rw (is, at) refl

pub separator_text : (bytes : List ℕ) (header : Header) (more : List TextLine) (end n : ℕ)
    → first_line (verdict_line verdict_header) (verdict_fault NoHeader (end_line bytes)) (content_lines bytes) ≡ Ok (header, more) → header ≡ OfSeparator n
    → end ≡ end_line bytes → verdict_of bytes ≡ separator_of n end more
separator_text bytes header more end n e is at = header_read bytes header more e ∙ rw (is, at) refl

pub text_reads : (bytes : List ℕ) (result : Result Verdict VerdictFail) → ReadsTo (λ (v : Verdict). v) result (verdict_of bytes)
    → IfOk result (λ v. ProofText bytes v)
unfolding ProofText
text_reads bytes (Ok v) h = h
text_reads bytes (Err fail) h = tt

pub writable_reads : (bytes : List ℕ) (result : Result Verdict VerdictFail) → ReadsTo (λ (v : Verdict). v) result (verdict_of bytes)
    → IfOk result (λ v. IsWritable v)
unfolding ProofText
writable_reads bytes (Ok v) h = text-writable bytes v h
writable_reads bytes (Err fail) h = tt

pub checkable_reads : (bytes : List ℕ) (result : Result Verdict VerdictFail) → ReadsTo (λ (v : Verdict). v) result (verdict_of bytes)
    → IfOk result (λ v. IsCheckable v)
unfolding ProofText
checkable_reads bytes (Ok v) h = writable-checkable v (text-writable bytes v h)
checkable_reads bytes (Err fail) h = tt

pub fault_reads : (bytes : List ℕ) (result : Result Verdict VerdictFail) → ReadsTo (λ (v : Verdict). v) result (verdict_of bytes)
    → (kind : VerdictKind) (line : ℕ) → result ≡ Err (Fault (record { kind = kind; line = line })) → ProofFault bytes kind line
unfolding ProofFault
fault_reads bytes (Ok v) h kind line e = absurd cc
fault_reads bytes (Err (Fault f)) h kind line e = h ∙ ap (λ g. Err g) (same f (record { kind = kind; line = line }) e)
  where
    same : (f g : VerdictFault) → ◌≡◌ {A = Result Verdict VerdictFail} (Err (Fault f)) (Err (Fault g)) → f ≡ g
    same f g e = cc
fault_reads bytes (Err OutOfMemory) h kind line e = absurd cc
