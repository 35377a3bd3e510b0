-- Where the words of a command have their first fault, and what words without one say.
use Rattle.std.proofs.Common.{◌≡◌, ℕ, zero, suc, ◌+◌, ◌≤◌, ◌<◌, ◌^◌, Bool, true, false, not, ◌&&◌, List, [], ◌∷◌, length, get_or, take, drop, ◌-◌, Option, Some}
use Rattle.std.proofs.Common.{None, Ok, Err, MatchOption, refl, sym, ap, ◌∙◌, arith, inl, inr}
use Rattle.std.proofs.lemmas.Bool.{false≢true, not-false, and_parts, cases_Bool, cases_eq, cases_lt, leb-true, false_from_ne_true}
use Rattle.std.proofs.lemmas.List.{length-map, take_rest}
use Rattle.std.proofs.lemmas.List.Quantifiers.{position-Some}
use Rattle.std.specs.Prelude.{find, option_map, is_none, nat_le, String}
use Rattle.std.specs.Global.{Global}
use Rattle.std.specs.List.{AllByRecursion, position, position_or_len, range_with_len}
use Rattle.std.specs.Option.{option_and_then}
use Rattle.std.specs.Str.{bytes_eq}
use Rattle.std.specs.Str.Parse.{digits_value}
use Rattle.std.specs.String.{string_bytes}
use Rattle.text_lines.proofs.Squares.{find-none, none-find}
use Rattle.cpfactor_lines.specs.Arguments.{Form, Number, OptionRow, is_numeral, has_form, wanted, plain_argument, word_at, option_named, option_value}
use Rattle.cpfactor_lines.specs.Arguments.{can_be_read, first_unread, is_complete, place_or_missing, fault_place}
use Rattle.cpfactor_lines.specs.Commands.{CommandRow, commands, request_or_fault, read_as, request_in}
use Rattle.cpfactor_lines.specs.Requests.{texts}
use Rattle.cpfactor_lines.proofs.FaultPlaces.{same_bytes}
use Rattle.cpfactor_lines.proofs.Rows.{read_value, text_at}

-- ---- the first place that fails

found_at : (p : ℕ → Bool) (a n k : ℕ) → a ≤ k → k < a + n → ((j : ℕ) → a ≤ j → j < k → p j ≡ false) → p k ≡ true → find p (range_with_len a n) ≡ Some k
found_at p a zero k le lt before here = absurd (omega arith)
found_at p a (suc n) k le lt before here = elim (cases_eq a k) [
  | inl e ↦ let first : p a ≡ true = rw e here in rw first (ap Some e)
  | inr ne ↦
      let other : p a ≡ false = before a (omega arith) (omega arith) in
      rw other (found_at p (a + 1) n k (omega arith) (omega arith) (λ j up below. before j (omega arith) below) here)
]

pub fault_found_at : (plain : List Form) (options : List OptionRow) (words : List (List ℕ)) (k : ℕ) → k < length words
    → ((j : ℕ) → j < k → can_be_read plain options words j ≡ true) → can_be_read plain options words k ≡ false → fault_place plain options words ≡ Some k
unfolding fault_place first_unread
fault_found_at plain options words k lt fits fails =
    let first : find (λ i. not (can_be_read plain options words i)) (range_with_len 0 (length words)) ≡ Some k =
    found_at (λ i. not (can_be_read plain options words i)) 0 (length words) k (omega arith) (omega arith) (λ j up below. ap not (fits j below))
    (ap not fails) in
    rw first refl

pub fault_behind : (plain : List Form) (options : List OptionRow) (words : List (List ℕ))
    → ((j : ℕ) → j < length words → can_be_read plain options words j ≡ true)
    → fault_place plain options words ≡ place_or_missing None (is_complete plain options words) (length words)
unfolding fault_place first_unread
fault_behind plain options words fits =
    let none : find (λ i. not (can_be_read plain options words i)) (range_with_len 0 (length words)) ≡ None =
    none-find (λ i. not (can_be_read plain options words i)) 0 (length words) (λ j up below. ap not (fits j (omega (arith, below)))) in
    rw none refl

-- ---- words without a fault

read_through : (plain : List Form) (options : List OptionRow) (words : List (List ℕ)) → fault_place plain options words ≡ None
    → (first_unread plain options words ≡ None) × (is_complete plain options words ≡ true)
unfolding fault_place
read_through plain options words none = by (first_unread plain options words) (is_complete plain options words) none
  where
    by : (first : Option ℕ) (complete : Bool) → place_or_missing first complete (length words) ≡ None → (first ≡ None) × (complete ≡ true)
    by (Some k) complete e = absurd (cc)
    by None true e = (refl, refl)
    by None false e = absurd (cc)

pub read_at : (plain : List Form) (options : List OptionRow) (words : List (List ℕ)) (k : ℕ) → fault_place plain options words ≡ None → k < length words
    → can_be_read plain options words k ≡ true
unfolding first_unread
read_at plain options words k none lt =
    not-false _ (find-none (λ i. not (can_be_read plain options words i)) 0 (length words) (read_through plain options words none).0 k (omega arith)
    (omega arith))

nothing_wanted : (plain : List Form) (options : List OptionRow) (words : List (List ℕ)) → fault_place plain options words ≡ None
    → is_none (wanted options words (length words)) ≡ true
unfolding is_complete
nothing_wanted plain options words none = (and_parts _ (is_none (wanted options words (length words))) (read_through plain options words none).1).1

-- ---- the number after an option

-- the word after an option has the form that the option wants
value_read : (plain : List Form) (options : List OptionRow) (words : List (List ℕ)) (name : List ℕ) (form : Form) (k : ℕ)
    → fault_place plain options words ≡ None → option_and_then (λ o. o.value) (option_named options name) ≡ Some form
    → position (λ word. bytes_eq word name) words ≡ Some k → (k + 1 < length words) × (has_form form (word_at words (k + 1)) ≡ true)
unfolding wanted
value_read plain options words name form k none value found =
    let at = position-Some (λ word. bytes_eq word name) words k [] found in
    let same : word_at words k ≡ name = same_bytes (word_at words k) name at.1 in
    let next : k + 1 ≡ suc k = omega arith in
    let wants : wanted options words (k + 1) ≡ Some form = rw (next, same) value in
    let lt : k + 1 < length words = elim (cases_lt (k + 1) (length words)) [
      | inl lt ↦ lt
      | inr le ↦
          let last : length words ≡ k + 1 = omega (arith, at.0, le) in
          let over : is_none (wanted options words (k + 1)) ≡ true = rw (← last) (nothing_wanted plain options words none) in
          absurd (false≢true (rw wants at over))
    ] in
    (lt, sym (read_value plain options words (k + 1) form wants) ∙ read_at plain options words (k + 1) none lt)

number_parts : (low high : ℕ) (word : List ℕ) → has_form (Number low high) word ≡ true
    → (is_numeral word ≡ true) × (low ≤ digits_value 10 word) × (digits_value 10 word ≤ high)
unfolding has_form
number_parts low high word fits =
    let parts = and_parts (is_numeral word && nat_le low (digits_value 10 word)) (nat_le (digits_value 10 word) high) fits in
    let first = and_parts (is_numeral word) (nat_le low (digits_value 10 word)) parts.0 in
    (first.0, leb-true low (digits_value 10 word) first.1, leb-true (digits_value 10 word) high parts.1)

-- such a number is in its range
pub number_within : (low high : ℕ) (word : List ℕ) → has_form (Number low high) word ≡ true → (low ≤ digits_value 10 word) × (digits_value 10 word ≤ high)
number_within low high word fits = let parts = number_parts low high word fits in (parts.1, parts.2)

-- a word with the form of a number of 64 bits is read as that number
pub number_read : (low high : ℕ) (word : List ℕ) (n : Option ℕ) → high < 2 ^ 64 → has_form (Number low high) word ≡ true
    → MatchOption n (is_numeral word ≡ true → 2 ^ 64 ≤ digits_value 10 word) (λ v. (is_numeral word ≡ true) × (v ≡ digits_value 10 word))
    → n ≡ Some (digits_value 10 word)
number_read low high word None fits form large =
    let parts = number_parts low high word form in
    absurd (omega (arith, large parts.0, parts.2, fits))
number_read low high word (Some v) fits form is = ap Some is.1

option_value-given : (words : List (List ℕ)) (name : List ℕ) (default k : ℕ) → position (λ word. bytes_eq word name) words ≡ Some k
    → option_value words name default ≡ digits_value 10 (word_at words (k + 1))
unfolding option_value
option_value-given words name default k found = let next : k + 1 ≡ suc k = omega arith in rw (found, next) refl

pub option_value-none : (words : List (List ℕ)) (name : List ℕ) (default : ℕ) → position (λ word. bytes_eq word name) words ≡ None
    → option_value words name default ≡ default
unfolding option_value
option_value-none words name default found = rw found refl

-- the number that an option gives is in the range of the option's row, as the default is
pub option_value-within : (plain : List Form) (options : List OptionRow) (words : List (List ℕ)) (name : List ℕ) (default low high : ℕ)
    → fault_place plain options words ≡ None → option_and_then (λ o. o.value) (option_named options name) ≡ Some (Number low high)
    → low ≤ default → default ≤ high → (low ≤ option_value words name default) × (option_value words name default ≤ high)
option_value-within plain options words name default low high none value above below = by (position (λ word. bytes_eq word name) words) refl
  where
    by : (place : Option ℕ) → position (λ word. bytes_eq word name) words ≡ place
        → (low ≤ option_value words name default) × (option_value words name default ≤ high)
    by None found = rw (option_value-none words name default found) (above, below)
    by (Some k) found =
        let read = value_read plain options words name (Number low high) k none value found in
        rw (option_value-given words name default k found) (number_within low high (word_at words (k + 1)) read.1)

position_or_len-texts : (words : List (String Global)) (name : List ℕ)
    → position_or_len (λ word. bytes_eq word name) (texts words) ≡ position_or_len (λ w. bytes_eq (string_bytes w) name) words
position_or_len-texts [] name = refl
position_or_len-texts (w ∷ words) name = elim (cases_Bool (bytes_eq (string_bytes w) name)) [
  | inl same ↦ rw same refl
  | inr other ↦ rw other (ap (λ n. 1 + n) (position_or_len-texts words name))
]

pub position-texts : (words : List (String Global)) (name : List ℕ)
    → position (λ word. bytes_eq word name) (texts words) ≡ position (λ w. bytes_eq (string_bytes w) name) words
position-texts words name = rw (position_or_len-texts words name, length-map words string_bytes) refl

-- the word behind the place of the option's word writes its number
pub record HasNumberAt (words : List (String Global)) (name : List ℕ) (default low high k : ℕ) : Type 0 where
  pub within : k + 1 < length words
  pub form : (word : String Global) → word ≡ get_or words (k + 1) word → has_form (Number low high) (string_bytes word) ≡ true
  pub value : (word : String Global) → word ≡ get_or words (k + 1) word → option_value (texts words) name default ≡ digits_value 10 (string_bytes word)

pub number_at : (plain : List Form) (options : List OptionRow) (words : List (String Global)) (name : List ℕ) (default low high k : ℕ)
    → fault_place plain options (texts words) ≡ None → option_and_then (λ o. o.value) (option_named options name) ≡ Some (Number low high)
    → position (λ w. bytes_eq (string_bytes w) name) words ≡ Some k → HasNumberAt words name default low high k
number_at plain options words name default low high k none value found =
    let place = position-texts words name ∙ found in
    let read = value_read plain options (texts words) name (Number low high) k none value place in
    let lt : k + 1 < length words = omega (arith, read.0, length-map words string_bytes) in
    record {
      within = lt;
      form = λ word is. rw (text_at words (k + 1) word lt is) at read.1;
      value = λ word is. option_value-given (texts words) name default k place ∙ ap (digits_value 10) (text_at words (k + 1) word lt is);
    }

-- ---- a command's words

pub read_as-usage : (row : CommandRow) (arguments : List (List ℕ)) (position : ℕ)
    → option_map (λ place. place + 2) (fault_place row.plain row.options arguments) ≡ Some position → read_as (Some row) arguments ≡ Err position
unfolding read_as
read_as-usage row arguments position fault = by (fault_place row.plain row.options arguments) fault
  where
    by : (fault : Option ℕ) → option_map (λ place. place + 2) fault ≡ Some position
        → request_or_fault fault (row.request (plain_argument row.options arguments) arguments) ≡ Err position
    by None e = absurd (cc)
    by (Some k) e = let same : k + 2 ≡ position = cc in ap Err same

pub read_as-request : (row : CommandRow) (arguments : List (List ℕ)) → fault_place row.plain row.options arguments ≡ None
    → read_as (Some row) arguments ≡ Ok (row.request (plain_argument row.options arguments) arguments)
unfolding read_as
read_as-request row arguments none = rw none refl

pub reading_none : (words : List (String Global)) → length words < 1 → request_in (texts words) ≡ Err 1
unfolding request_in
reading_none [] none = refl
reading_none (w ∷ words) none = absurd (omega arith)

-- the first word names the command
pub reading_as : (words : List (String Global)) (name : String Global) (row : Option CommandRow) → name ≡ get_or words 0 name → 1 ≤ length words
    → find (λ r. bytes_eq (string_bytes name) r.name) commands ≡ row → request_in (texts words) ≡ read_as row (texts (take (length words - 1) (drop 1 words)))
unfolding request_in
reading_as [] name row is some found = absurd (omega arith)
reading_as (w ∷ words) name row is some found =
    let first : find (λ r. bytes_eq (string_bytes w) r.name) commands ≡ row = rw (← is) found in
    rw (take_rest, first) refl

bytes_differ : (xs ys : List ℕ) → (xs ≡ ys → ⊥) → bytes_eq xs ys ≡ false
bytes_differ xs ys differs = false_from_ne_true _ (λ e. differs (same_bytes xs ys e))

-- no command has this name
pub none_named : (rows : List CommandRow) (name : List ℕ) → AllByRecursion (λ r. name ≡ r.name → ⊥) rows → find (λ r. bytes_eq name r.name) rows ≡ None
none_named [] name differs = refl
none_named (r ∷ rows) name differs = rw (bytes_differ name r.name differs.0) (none_named rows name differs.1)

pub reading_other : (words : List (String Global)) (name : String Global) → name ≡ get_or words 0 name → 1 ≤ length words
    → find (λ r. bytes_eq (string_bytes name) r.name) commands ≡ None → request_in (texts words) ≡ Err 1
unfolding read_as
reading_other words name is some found = reading_as words name None is some found
