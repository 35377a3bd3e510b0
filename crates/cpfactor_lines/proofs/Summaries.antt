-- The lines of a sample's summary, as they are written.
use Rattle.std.proofs.Common.{◌≡◌, ℕ, Bool, true, false, List, [], ◌∷◌, ◌++◌, length, map, take, Option, Some, None, refl, sym, ap, ◌∙◌, append_assoc, arith}
use Rattle.std.specs.Prelude.{codes, nat_lt}
use Rattle.std.proofs.Common.{cond}
use Rattle.std.specs.List.{before_first, position, position_or_len, range_with_len}
use Rattle.std.proofs.lemmas.Bool.{cases_lt}
use Rattle.std.proofs.lemmas.List.{take_all}
use Rattle.text_lines.specs.Spelling.{fraction_word}
use Rattle.text_lines.proofs.Written.{spaced, join_spaced}
use Rattle.matrix_text.specs.RationalMatrix.{RationalMatrix, rational_entry}
use Rattle.cpfactor_lines.specs.Lines.{line}
use Rattle.cpfactor_lines.specs.SampleTexts.{numbers_text, diagonal_text, visits_count_text, verdict_line_text, sample_text}

-- ---- what stands before the first byte that passes
pub before_found : (p : ℕ → Bool) (xs : List ℕ) (i : ℕ) → Some i ≡ position p xs → take i xs ≡ before_first p xs
before_found p xs i found = by (nat_lt (position_or_len p xs) (length xs)) found
  where
    by : (b : Bool) → Some i ≡ (cond b (Some (position_or_len p xs)) None) → take i xs ≡ before_first p xs
    by true e = (let same : i ≡ position_or_len p xs = cc in ap (λ (k : ℕ). take k xs) same)
    by false e = absurd (cc)

pub before_all : (p : ℕ → Bool) (xs : List ℕ) → None ≡ position p xs → xs ≡ before_first p xs
before_all p xs none = by (nat_lt (position_or_len p xs) (length xs)) refl none
  where
    by : (b : Bool) → nat_lt (position_or_len p xs) (length xs) ≡ b → None ≡ (cond b (Some (position_or_len p xs)) None) → xs ≡ before_first p xs
    by true is e = absurd (cc)
    by false is e = sym (take_all (position_or_len p xs) xs (grind (arith, is)))

-- ---- the diagonal
abbrev pub diagonal_word : RationalMatrix → ℕ → List ℕ
diagonal_word a i = fraction_word (rational_entry a i i)

pub diagonal_end : (a : RationalMatrix) (old first mid new : List ℕ) → first ≡ old ++ codes "diagonal"
    → mid ≡ first ++ spaced (map (diagonal_word a) (range_with_len 0 a.size)) → new ≡ mid ++ 10 ∷ [] → new ≡ old ++ diagonal_text a
unfolding line diagonal_text
diagonal_end a old first mid new e f g =
    let words : List (List ℕ) = map (diagonal_word a) (range_with_len 0 a.size) in
    rw (g, f, e, join_spaced (codes "diagonal") words)
    (append_assoc (old ++ codes "diagonal") (spaced words) (10 ∷ []) ∙ append_assoc old (codes "diagonal") (spaced words ++ 10 ∷ []))

-- ---- the four lines
pub summary_made : (n k first : ℕ) (a : RationalMatrix) (count : ℕ) (answer none numbers diagonal visits new : List ℕ) → none ≡ []
    → numbers ≡ none ++ numbers_text n k first → diagonal ≡ numbers ++ diagonal_text a → visits ≡ diagonal ++ visits_count_text count
    → new ≡ visits ++ verdict_line_text answer → new ≡ sample_text n k first a count answer
unfolding sample_text
summary_made n k first a count answer none numbers diagonal visits new e f g h i = rw (i, h, g, f, e) refl
