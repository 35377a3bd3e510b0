-- A word's digits, and the number that they write.
use Rattle.std.proofs.Common.{◌≡◌, ℕ, ◌≤◌, ◌<◌, ◌^◌, Bool, true, false, not, eqb, ◌&&◌, ◌||◌, List, [], ◌∷◌, length, get_or, Result, Ok, Err, MatchOption, refl}
use Rattle.std.proofs.Common.{sym, ap, arith, inl, inr}
use Rattle.std.proofs.lemmas.Bool.{false≢true, and_parts, ne_eqb, or_right, cases_lt}
use Rattle.std.proofs.lemmas.Str.Parse.{IsNumeralModel, numerals_by_value, tells_all_ascii_digits, parse_digits}
use Rattle.std.specs.Prelude.{slice_index, ◌==◌}
use Rattle.std.specs.Char.{is_ascii_digit}
use Rattle.std.specs.List.{list_all}
use Rattle.std.specs.Result.{OkIff, result_ok}
use Rattle.std.specs.Str.{all_ascii_digits}
use Rattle.std.specs.Str.Parse.{digits_value, ParsesUnsigned}
use Rattle.cpfactor_lines.specs.Arguments.{is_numeral}

digits_all : (word : List ℕ) → all_ascii_digits word ≡ list_all is_ascii_digit word
digits_all [] = refl
digits_all (c ∷ word) = ap (λ b. is_ascii_digit c && b) (digits_all word)

numerals : IsNumeralModel (λ ds. all_ascii_digits ds ≡ true) (digits_value 10)
numerals = numerals_by_value _ tells_all_ascii_digits

and_one : (b : Bool) → (b && true) ≡ b
and_one true = refl
and_one false = refl

-- where the first digit is no zero, only the digits count
pub numeral_other : (word : List ℕ) → 1 ≤ length word → (get_or word 0 0 ≡ 48 → ⊥) → list_all is_ascii_digit word ≡ is_numeral word
numeral_other [] some other = absurd (omega arith)
numeral_other (c ∷ word) some other =
    let differs : eqb c 48 ≡ false = ne_eqb c 48 other in
    let first : (length (c ∷ word) == 1 || not (slice_index (c ∷ word) 0 == 48)) ≡ true = rw differs (or_right _ _ refl) in
    let filled : eqb (length (c ∷ word)) 0 ≡ false = ne_eqb (length (c ∷ word)) 0 (λ z. omega arith) in
    let digits : all_ascii_digits (c ∷ word) ≡ list_all is_ascii_digit (c ∷ word) = digits_all (c ∷ word) in
    rw (← digits, filled, first) (sym (and_one _))

parsed_by : {E : Type 0} → (word : List ℕ) (r : Result ℕ E) → is_numeral word ≡ true → 0 < length word
    → OkIff r ((0 < length word) × (digits_value 10 word < 2 ^ 64)) (digits_value 10 word)
    → MatchOption (result_ok r) (is_numeral word ≡ true → 2 ^ 64 ≤ digits_value 10 word) (λ n. (is_numeral word ≡ true) × (n ≡ digits_value 10 word))
parsed_by word (Ok n) numeral some h = (numeral, h.1)
parsed_by word (Err e) numeral some h = λ _. elim (cases_lt (digits_value 10 word) (2 ^ 64)) [ inl lt ↦ absurd (h (some, lt)) | inr le ↦ le ]

numeral_parts : (word : List ℕ) → is_numeral word ≡ true → (0 < length word) × (all_ascii_digits word ≡ true)
numeral_parts [] numeral = absurd (false≢true numeral)
numeral_parts (c ∷ word) numeral =
    let filled = and_parts (not (length (c ∷ word) == 0) && all_ascii_digits (c ∷ word)) (length (c ∷ word) == 1 || not (slice_index (c ∷ word) 0 == 48))
    numeral in
    (omega arith, (and_parts (not (length (c ∷ word) == 0)) (all_ascii_digits (c ∷ word)) filled.0).1)

-- what parsing a numeral gives
pub parsed_numeral : {E : Type 0} → (word : List ℕ) (r : Result ℕ E) → ParsesUnsigned 64 10 word r → is_numeral word ≡ true
    → MatchOption (result_ok r) (is_numeral word ≡ true → 2 ^ 64 ≤ digits_value 10 word) (λ n. (is_numeral word ≡ true) × (n ≡ digits_value 10 word))
parsed_numeral word r parses numeral =
    let parts = numeral_parts word numeral in
    parsed_by word r numeral parts.0 (parse_digits numerals 64 word r parses parts.1)
