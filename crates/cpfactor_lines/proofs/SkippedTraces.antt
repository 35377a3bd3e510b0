-- A trace is lines that a reader skips.
use Rattle.std.proofs.Common.{ℕ, ◌+◌, Bool, true, false, List, [], ◌∷◌, ◌++◌, length, map, codes, ℤ, pos, refl}
use Rattle.std.specs.List.{AllByRecursion}
use Rattle.std.specs.Fmt.{decimal, signed_decimal}
use Rattle.symmetric_matrix.specs.Symmetric.{Symmetric}
use Rattle.text_lines.specs.Skipped.{IsSkippedText}
use Rattle.text_lines.specs.Square.{full}
use Rattle.text_lines.proofs.Digits.{decimal_plain, signed_plain}
use Rattle.text_lines.proofs.FractionTexts.{IsPlainWord, plain-codes}
use Rattle.text_lines.proofs.SkippedLines.{commented, comment-skipped, skipped-none, skipped-line, skipped-append, skipped-each}
use Rattle.cone_tree_certificate.specs.VerdictText.{verdict_text, IsWritable, IsWhole}
use Rattle.cone_tree_certificate.specs.declared.verdict.Verdict.{Verdict}
use Rattle.cone_tree_certificate.proofs.ProofReadings.{proof-of-one}
use Rattle.cone_tree_certificate.proofs.RoundTrip.{read-behind}
use Rattle.certificate_checker.proofs.NotRefused.{right_not_refused}
use Rattle.certificate_checker.specs.Theorems.{IsOrdered}
use Rattle.certificate_checker.specs.Verdicts.{IsRight}
use Rattle.matrix_text.specs.RationalMatrix.{RationalMatrix}
use Rattle.perfect_walk.specs.declared.journal.Visit.{Visit}
use Rattle.cpfactor_lines.specs.Acceptable.{IsAcceptable}
use Rattle.cpfactor_lines.specs.Lines.{line}
use Rattle.cpfactor_lines.specs.Traces.{comment, matrix_comments, vector_comments, visit_text, visits_text, trace_text}

comment-text : (words : List (List ℕ)) → AllByRecursion IsPlainWord words → IsSkippedText (comment words)
unfolding line
comment-text words h = skipped-line (commented words) (comment-skipped words h)

decimals : (xs : List ℕ) → AllByRecursion IsPlainWord (map decimal xs)
decimals [] = tt
decimals (x ∷ xs) = (decimal_plain x, decimals xs)

signeds : (row : List ℤ) → AllByRecursion IsPlainWord (map signed_decimal row)
signeds [] = tt
signeds (z ∷ row) = (signed_plain z, signeds row)

matrix-skipped : (m : Symmetric) → IsSkippedText (matrix_comments m)
unfolding matrix_comments
matrix-skipped m = skipped-each (λ (row : List ℤ). comment (map signed_decimal row)) (full (pos 0) m.size m.lower)
    (λ row. comment-text (map signed_decimal row) (signeds row))

vectors-skipped : (vectors : List (List ℕ)) → IsSkippedText (vector_comments vectors)
unfolding vector_comments
vectors-skipped vectors = skipped-each (λ (x : List ℕ). comment (map decimal x)) vectors (λ x. comment-text (map decimal x) (decimals x))

-- the comment of a name and a number
named-skipped : (name number : List ℕ) → IsPlainWord name → IsPlainWord number → IsSkippedText (comment (name ∷ number ∷ []))
named-skipped name number n k = comment-text (name ∷ number ∷ []) (n, (k, tt))

visit-skipped : (k : ℕ) (v : Visit) → IsSkippedText (visit_text k v)
unfolding visit_text
visit-skipped k v =
    skipped-append _ _ (
    skipped-append _ _
    (skipped-append _ _ (skipped-append _ _ (named-skipped (codes "visit") (decimal k) (plain-codes (codes "visit") refl) (decimal_plain k))
    (matrix-skipped v.matrix)) (named-skipped (codes "minimum") (signed_decimal v.mu) (plain-codes (codes "minimum") refl) (signed_plain v.mu)))
    (named-skipped (codes "vectors") (decimal (length v.vectors)) (plain-codes (codes "vectors") refl) (decimal_plain (length v.vectors)))
    ) (vectors-skipped v.vectors)

visits-skipped : (k : ℕ) (visits : List Visit) → IsSkippedText (visits_text k visits)
unfolding visits_text
visits-skipped k [] = skipped-none
visits-skipped k (v ∷ visits) = skipped-append (visit_text k v) (visits_text (k + 1) visits) (visit-skipped k v) (visits-skipped (k + 1) visits)

pub trace-skipped : (traced : Bool) (visits : List Visit) → IsSkippedText (trace_text traced visits)
trace-skipped true visits = visits-skipped 0 visits
trace-skipped false visits = skipped-none

pub right-acceptable : (a : RationalMatrix) (traced : Bool) (visits : List Visit) (v : Verdict) → IsRight a v → IsOrdered v → IsWritable v → IsWhole v
    → IsAcceptable a (trace_text traced visits ++ verdict_text v)
right-acceptable a traced visits v right ordered writable whole = record {
  verdict = v;
  text = proof-of-one (trace_text traced visits ++ verdict_text v) v (read-behind (trace_text traced visits) v (trace-skipped traced visits) writable whole);
  passes = right_not_refused a v right ordered;
}
