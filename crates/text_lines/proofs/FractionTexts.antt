-- A fraction that is written is read as that fraction.
use Rattle.std.proofs.Common.{◌≡◌, ℕ, ◌+◌, ◌-◌, ◌<◌, ◌≤◌, ◌^◌, Bool, true, false, not, ◌&&◌, ltb, eqb, List, [], ◌∷◌, ◌++◌, length, drop, position, Some, None}
use Rattle.std.proofs.Common.{ℤ, Result, Ok, refl, sym, ap, subst, ◌∙◌, inl, inr, arith, eq-eqb}
use Rattle.std.specs.Prelude.{nat_abs}
use Rattle.std.specs.List.{All, list_all, position_or_len}
use Rattle.std.specs.Fmt.{decimal, signed_decimal}
use Rattle.std.proofs.lemmas.Bool.{ne_eqb, le-ltb, lt-ltb, cases_eq, and_parts, false≢true}
use Rattle.std.proofs.lemmas.List.{get_or_append_left, length-append}
use Rattle.std.proofs.Math.Seq.{take-append_seam, drop-append-add, get_or-append_seam}
use Rattle.std.proofs.lemmas.List.Sums.{position_or_len_is, AllPass-from_list_all}
use Rattle.std.proofs.lemmas.List.Elements.{All-append, All-cons, All-weaker}
use Rattle.std.proofs.lemmas.Fmt.{decimal_digit}
use Rattle.commutative_ring.proofs.SmallCases.{not_true}
use Rattle.exact_forms.specs.Rational.{Rational}
use Rattle.exact_forms.proofs.Rational.{ratio_parts, den_positive}
use Rattle.text_lines.specs.Lines.{is_blank, is_line_feed}
use Rattle.text_lines.specs.Numbers.{whole_value, magnitude}
use Rattle.text_lines.specs.Fractions.{is_slash, whole_up_to, signed_up_to, ratio_up_to, fraction_up_to}
use Rattle.text_lines.specs.Spelling.{quotient_word, fraction_word}
use Rattle.text_lines.specs.declared.fractions.NumberFault.{NumberFault}
use Rattle.text_lines.proofs.Numerals.{is_whole-decimal, whole_value-decimal, is_signed-decimal, magnitude-decimal, signed_value-decimal, All-decimal}
use Rattle.text_lines.proofs.Numerals.{All-signed, some-decimal, some-signed}

-- the limit has at most 127 bits, and both numbers are at most as large
pub record IsWithin (limit : ℕ) (q : Rational) : Type 0 where
  pub low : limit < 2 ^ 127
  pub num : nat_abs q.num ≤ limit
  pub den : q.den ≤ limit

pub whole-read : (limit n : ℕ) → limit < 2 ^ 127 → n ≤ limit → whole_up_to limit (decimal n) ≡ Ok n
unfolding whole_up_to
whole-read limit n low small =
    let wide : n < 2 ^ 128 = omega arith in
    rw (is_whole-decimal n wide, whole_value-decimal n wide, le-ltb limit n small) refl

pub signed-read : (limit : ℕ) (z : ℤ) → limit < 2 ^ 127 → nat_abs z ≤ limit → signed_up_to limit (signed_decimal z) ≡ Ok z
unfolding signed_up_to
signed-read limit z low small =
    let wide : nat_abs z < 2 ^ 128 = omega arith in
    rw (is_signed-decimal z wide, magnitude-decimal z wide, le-ltb limit (nat_abs z) small, signed_value-decimal z wide) refl

-- ---- a slash

position-none : (p : ℕ → Bool) (xs : List ℕ) → All (λ b. p b ≡ false) xs → position p xs ≡ None
position-none p xs h =
    let n : position_or_len p xs ≡ length xs = position_or_len_is p xs (length xs) 0 (omega arith) (λ k lt. h k 0 lt) (λ lt. absurd (omega arith)) in
    rw (n, le-ltb (length xs) (length xs) (omega arith)) refl

position-at : (p : ℕ → Bool) (xs : List ℕ) (y : ℕ) (ys : List ℕ) → All (λ b. p b ≡ false) xs → p y ≡ true → position p (xs ++ y ∷ ys) ≡ Some (length xs)
position-at p xs y ys h e =
    let len = length-append xs (y ∷ ys) in
    let n : position_or_len p (xs ++ y ∷ ys) ≡ length xs = position_or_len_is p (xs ++ y ∷ ys) (length xs) 0 (omega (arith, len))
    (λ k lt. rw (get_or_append_left xs (y ∷ ys) 0 k lt) (h k 0 lt)) (λ lt. rw (get_or-append_seam xs y ys 0) e) in
    rw (n, lt-ltb (length xs) (length (xs ++ y ∷ ys)) (omega (arith, len))) refl

wide-numbers : (limit : ℕ) (q : Rational) → IsWithin limit q → (nat_abs q.num < 2 ^ 128) × (q.den < 2 ^ 128)
wide-numbers limit q h = (let low = h.low in let num = h.num in omega (arith, low, num), let low = h.low in let den = h.den in omega (arith, low, den))

ratio-read : (limit : ℕ) (q : Rational) → IsWithin limit q → ratio_up_to limit (signed_decimal q.num) (decimal q.den) ≡ Ok q
unfolding ratio_up_to
ratio-read limit q h =
    let s = wide-numbers limit q h in
    let positive = den_positive q in
    let large : ltb limit (magnitude (signed_decimal q.num)) ≡ false = rw (magnitude-decimal q.num s.0) (le-ltb limit (nat_abs q.num) h.num) in
    let long : ltb limit (whole_value (decimal q.den)) ≡ false = rw (whole_value-decimal q.den s.1) (le-ltb limit q.den h.den) in
    rw (
      is_signed-decimal q.num s.0,
      is_whole-decimal q.den s.1,
      large,
      long,
      whole_value-decimal q.den s.1,
      ne_eqb q.den 0 (λ e. omega (arith, positive)),
      signed_value-decimal q.num s.0,
    )
    (ap made (ratio_parts q))
  where
    made : Rational → Result Rational NumberFault
    made x = Ok x

-- no slash stands in a number
no_slash : (b : ℕ) → 48 ≤ b → b ≤ 57 → is_slash b ≡ false
no_slash b low high = ne_eqb b 47 (λ e. omega arith)

pub quotient-read : (limit : ℕ) (q : Rational) → IsWithin limit q → fraction_up_to limit (quotient_word q) ≡ Ok q
unfolding fraction_up_to
quotient-read limit q h =
    let s = wide-numbers limit q h in
    let at : position is_slash (signed_decimal q.num ++ 47 ∷ decimal q.den) ≡ Some (length (signed_decimal q.num)) =
    position-at is_slash (signed_decimal q.num) 47 (decimal q.den) (All-signed (λ b. is_slash b ≡ false) refl no_slash q.num s.0) refl in
    let below : drop (length (signed_decimal q.num) + 1) (signed_decimal q.num ++ 47 ∷ decimal q.den) ≡ decimal q.den =
    drop-append-add (signed_decimal q.num) (47 ∷ decimal q.den) 1 in
    rw (at, take-append_seam (signed_decimal q.num) (47 ∷ decimal q.den), below) (ratio-read limit q h)

pub fraction-read : (limit : ℕ) (q : Rational) → IsWithin limit q → fraction_up_to limit (fraction_word q) ≡ Ok q
unfolding fraction_up_to fraction_word
fraction-read limit q h =
    let s = wide-numbers limit q h in
    elim (cases_eq q.den 1) [
      | inl whole ↦ (
          let one : decimal 1 ≡ 49 ∷ [] = decimal_digit 1 (omega arith) in
          let plain = position-none is_slash (signed_decimal q.num) (All-signed (λ b. is_slash b ≡ false) refl no_slash q.num s.0) in
          rw (eq-eqb q.den 1 whole, plain) (ap (ratio_up_to limit (signed_decimal q.num)) (sym one)
          ∙ subst (λ (d : ℕ). ratio_up_to limit (signed_decimal q.num) (decimal d) ≡ Ok q) whole (ratio-read limit q h)))
      | inr other ↦ rw (ne_eqb q.den 1 other) (quotient-read limit q h)
    ]

-- ---- what the bytes of words are

-- what holds of the minus sign, the slash and digits holds of each byte of a fraction
pub All-quotient : (P : ℕ → Type 0) → P 45 → P 47 → ((b : ℕ) → 48 ≤ b → b ≤ 57 → P b) → (limit : ℕ) (q : Rational) → IsWithin limit q → All P (quotient_word q)
All-quotient P minus slash digit limit q h =
    let s = wide-numbers limit q h in
    All-append P (signed_decimal q.num) (47 ∷ decimal q.den) (All-signed P minus digit q.num s.0)
    (All-cons P 47 (decimal q.den) slash (All-decimal P digit q.den s.1))

pub All-fraction : (P : ℕ → Type 0) → P 45 → P 47 → ((b : ℕ) → 48 ≤ b → b ≤ 57 → P b) → (limit : ℕ) (q : Rational) → IsWithin limit q → All P (fraction_word q)
unfolding fraction_word
All-fraction P minus slash digit limit q h =
    elim (cases_eq q.den 1) [
      | inl whole ↦ rw (eq-eqb q.den 1 whole) (All-signed P minus digit q.num (wide-numbers limit q h).0)
      | inr other ↦ rw (ne_eqb q.den 1 other) (All-quotient P minus slash digit limit q h)
    ]

pub some-quotient : (limit : ℕ) (q : Rational) → IsWithin limit q → 0 < length (quotient_word q)
some-quotient limit q h = let some = some-signed q.num (wide-numbers limit q h).0 in
    rw (length-append (signed_decimal q.num) (47 ∷ decimal q.den)) (omega (arith, some))

pub some-fraction : (limit : ℕ) (q : Rational) → IsWithin limit q → 0 < length (fraction_word q)
unfolding fraction_word
some-fraction limit q h =
    elim (cases_eq q.den 1) [
      | inl whole ↦ rw (eq-eqb q.den 1 whole) (some-signed q.num (wide-numbers limit q h).0)
      | inr other ↦ rw (ne_eqb q.den 1 other) (some-quotient limit q h)
    ]

-- ---- words that are written

-- a byte that may stand in a word of a written line: a letter, a digit, the minus sign or the slash
pub record IsPlain (b : ℕ) : Type 0 where
  pub blank : is_blank b ≡ false
  pub line_feed : is_line_feed b ≡ false
  pub ascii : ltb b 128 ≡ true
  pub comment : eqb b 35 ≡ false

pub plain-digit : (b : ℕ) → 48 ≤ b → b ≤ 57 → IsPlain b
plain-digit b low high = record {
  blank = rw (ne_eqb b 32 (λ e. omega arith), ne_eqb b 9 (λ e. omega arith), ne_eqb b 13 (λ e. omega arith)) refl;
  line_feed = ne_eqb b 10 (λ e. omega arith);
  ascii = lt-ltb b 128 (omega arith);
  comment = ne_eqb b 35 (λ e. omega arith);
}

pub plain-minus : IsPlain 45
plain-minus = record { blank = refl; line_feed = refl; ascii = refl; comment = refl }

pub plain-slash : IsPlain 47
plain-slash = record { blank = refl; line_feed = refl; ascii = refl; comment = refl }

-- a word of such bytes
pub record IsPlainWord (word : List ℕ) : Type 0 where
  pub some : 0 < length word
  pub plain : All IsPlain word

pub plain-decimal : (n : ℕ) → n < 2 ^ 128 → IsPlainWord (decimal n)
plain-decimal n h = record { some = some-decimal n h; plain = All-decimal IsPlain plain-digit n h }

pub plain-signed : (z : ℤ) → nat_abs z < 2 ^ 128 → IsPlainWord (signed_decimal z)
plain-signed z h = record { some = some-signed z h; plain = All-signed IsPlain plain-minus plain-digit z h }

pub plain-quotient : (limit : ℕ) (q : Rational) → IsWithin limit q → IsPlainWord (quotient_word q)
plain-quotient limit q h = record { some = some-quotient limit q h; plain = All-quotient IsPlain plain-minus plain-slash plain-digit limit q h }

pub plain-fraction : (limit : ℕ) (q : Rational) → IsWithin limit q → IsPlainWord (fraction_word q)
plain-fraction limit q h = record { some = some-fraction limit q h; plain = All-fraction IsPlain plain-minus plain-slash plain-digit limit q h }

-- letters and digits
abbrev is_plain_byte : ℕ → Bool
is_plain_byte b = not (is_blank b) && not (is_line_feed b) && ltb b 128 && not (eqb b 35)

pub plain-codes : (word : List ℕ) → (not (eqb (length word) 0) && list_all is_plain_byte word) ≡ true → IsPlainWord word
plain-codes word h =
    let parts = and_parts (not (eqb (length word) 0)) (list_all is_plain_byte word) h in
    let some : eqb (length word) 0 ≡ false = not_true (eqb (length word) 0) parts.0 in
    record {
      some = (let no : length word ≡ 0 → ⊥ = λ e. false≢true (sym some ∙ eq-eqb (length word) 0 e) in omega (arith, no));
      plain = All-weaker (λ b. is_plain_byte b ≡ true) IsPlain each word (AllPass-from_list_all is_plain_byte word parts.1);
    }
  where
    each : (b : ℕ) → is_plain_byte b ≡ true → IsPlain b
    each b e =
        let one = and_parts _ _ e in
        let two = and_parts _ _ one.0 in
        let three = and_parts _ _ two.0 in
        record { blank = not_true (is_blank b) three.0; line_feed = not_true (is_line_feed b) three.1; ascii = two.1; comment = not_true (eqb b 35) one.1 }
