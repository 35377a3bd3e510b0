-- The first fault of a command's words is near: each word before it is a new option, its value, or one of the
-- plain arguments.
use Rattle.std.proofs.Common.{◌≡◌, ℕ, zero, suc, ◌+◌, ◌*◌, ◌≤◌, ◌<◌, Bool, true, false, not, cond, eqb, ◌&&◌, ◌||◌, List, [], ◌∷◌, length, take, Option, Some}
use Rattle.std.proofs.Common.{None, refl, sym, ap, subst, ◌∙◌, arith, inl, inr}
use Rattle.std.proofs.lemmas.Bool.{false≢true, not-true, not-false, and_parts, or_right, cases_Bool, cases_eq, ne_eqb}
use Rattle.std.proofs.lemmas.Bool.Decides.{nat_tests}
use Rattle.std.proofs.lemmas.List.Folds.{list_any_more, list_any_kept}
use Rattle.std.proofs.lemmas.Slice.Eq.{bytes_eq-Decides}
use Rattle.std.proofs.lemmas.List.Sums.{count_by-le-length, sum_by-cons, sum_by-append}
use Rattle.std.proofs.lemmas.Option.{slice_get_within}
use Rattle.std.specs.Prelude.{find, count_by, slice_get, is_some, nat_le, slice_index, ◌==◌}
use Rattle.std.specs.List.{list_any, list_all, range_with_len}
use Rattle.std.specs.Str.Parse.{digits_value}
use Rattle.std.specs.Str.{bytes_eq, all_ascii_digits}
use Rattle.std.specs.Char.{is_ascii_digit}
use Rattle.exact_forms.proofs.Lists.{range_more}
use Rattle.text_lines.proofs.Squares.{find-none}
use Rattle.cpfactor_lines.specs.Arguments.{Form, FileName, Number, OptionRow, is_option, is_numeral, has_form, has_wanted, is_new_option, word_at, option_named}
use Rattle.cpfactor_lines.specs.Arguments.{wanted, is_plain, plain_before, can_be_read, first_unread, is_complete, place_or_missing, fault_place}

-- ---- counting

abbrev pub one_if : Bool → ℕ
one_if b = cond b 1 0

pub count_by-cons : {X : Type 0} (p : X → Bool) (x : X) (xs : List X) → count_by p (x ∷ xs) ≡ one_if (p x) + count_by p xs
count_by-cons p x xs = sum_by-cons (λ y. cond (p y) 1 0) x xs

one_if-le : (b c : Bool) → (b ≡ true → c ≡ true) → one_if b ≤ one_if c
one_if-le true c h = rw (h refl) (omega arith)
one_if-le false c h = omega arith

count_by-le : {X : Type 0} (p q : X → Bool) (xs : List X) → ((x : X) → p x ≡ true → q x ≡ true) → count_by p xs ≤ count_by q xs
count_by-le p q [] keeps = omega arith
count_by-le p q (x ∷ xs) keeps = rw (count_by-cons p x xs, count_by-cons q x xs) (omega (arith, one_if-le (p x) (q x) (keeps x), count_by-le p q xs keeps))

count_by-lt : {X : Type 0} (r p q : X → Bool) (xs : List X) (x : X) → ((y : X) → p y ≡ true → q y ≡ true)
    → ((y : X) → r y ≡ true → (p y ≡ false) × (q y ≡ true)) → find r xs ≡ Some x → count_by p xs + 1 ≤ count_by q xs
count_by-lt r p q [] x keeps new found = absurd (cc)
count_by-lt r p q (y ∷ ys) x keeps new found = elim (cases_Bool (r y)) [
  | inl yes' ↦
      let n = new y yes' in
      rw (count_by-cons p y ys, count_by-cons q y ys, n.0, n.1) (omega (arith, count_by-le p q ys keeps))
  | inr no' ↦
      let later : find r ys ≡ Some x = rw no' at found in
      rw (count_by-cons p y ys, count_by-cons q y ys) (omega (arith, one_if-le (p y) (q y) (keeps y), count_by-lt r p q ys x keeps new later))
]

-- ---- words and forms

pub same_bytes : (xs ys : List ℕ) → bytes_eq xs ys ≡ true → xs ≡ ys
same_bytes xs ys e = (bytes_eq-Decides xs ys).0 e

-- no option's name is a word of another kind
no_option : (options : List OptionRow) (word : List ℕ) → list_all (λ o. is_option o.name) options ≡ true → is_option word ≡ false
    → option_named options word ≡ None
no_option [] word named other = refl
no_option (o ∷ options) word named other = elim (cases_Bool (bytes_eq word o.name)) [
  | inl same ↦ absurd (false≢true (sym other ∙ ap is_option (same_bytes word o.name same) ∙ (and_parts _ _ named).0))
  | inr differs ↦ rw differs (no_option options word (and_parts _ _ named).1 other)
]

digit_no_minus : (b : ℕ) (bs : List ℕ) → 48 ≤ b → is_option (b ∷ bs) ≡ false
unfolding is_option
digit_no_minus b bs h = let differs : eqb 45 b ≡ false = ne_eqb 45 b (λ e. omega arith) in rw differs refl

-- a word of a form is no option
pub form_no_option : (form : Form) (word : List ℕ) → has_form form word ≡ true → is_option word ≡ false
unfolding has_form
form_no_option FileName word fits = not-true (is_option word) fits
form_no_option (Number low high) [] fits = absurd (false≢true fits)
form_no_option (Number low high) (b ∷ bs) fits =
    let word = b ∷ bs in
    let at_least = nat_le low (digits_value 10 word) in
    let numeral = (and_parts (is_numeral word) at_least (and_parts (is_numeral word && at_least) (nat_le (digits_value 10 word) high) fits).0).0 in
    let some = not (length word == 0) in
    let short = length word == 1 || not (slice_index word 0 == 48) in
    let digits = (and_parts some (all_ascii_digits word) (and_parts (some && all_ascii_digits word) short numeral).0).1 in
    let first = (and_parts (is_ascii_digit b) (all_ascii_digits bs) digits).0 in
    digit_no_minus b bs (grind (arith, nat_tests, first))

-- ---- what stands before a place

-- how many of the options stand before place k
abbrev given : List OptionRow → List (List ℕ) → ℕ → ℕ
given options words k = count_by (λ o. list_any (λ word. bytes_eq word o.name) (take k words)) options

given-le : (options : List OptionRow) (words : List (List ℕ)) (k : ℕ) → given options words k ≤ given options words (k + 1)
given-le options words k = count_by-le _ _ options (λ o here. list_any_kept (λ word. bytes_eq word o.name) words k here)

-- a new option is one more
given-new : (options : List OptionRow) (words : List (List ℕ)) (k : ℕ) (o : OptionRow) → k < length words → option_named options (word_at words k) ≡ Some o
    → list_any (λ word. bytes_eq word (word_at words k)) (take k words) ≡ false → given options words k + 1 ≤ given options words (k + 1)
given-new options words k o lt named new =
    count_by-lt (λ p. bytes_eq (word_at words k) p.name) _ _ options o
    (λ p here. list_any_kept (λ word. bytes_eq word p.name) words k here)
    (λ p same.
    let e = same_bytes (word_at words k) p.name same in
    (rw (← e) new, list_any_more (λ word. bytes_eq word p.name) words k [] lt ∙ or_right _ _ same))
    named

pub plain_more : (options : List OptionRow) (words : List (List ℕ)) (k : ℕ)
    → plain_before options words (k + 1) ≡ plain_before options words k + one_if (is_plain options words k)
unfolding plain_before
plain_more options words k =
    rw (range_more 0 k, sum_by-append (λ j. one_if (is_plain options words j)) (range_with_len 0 k) ((0 + k) ∷ [])) (let zero_k : 0 + k ≡ k = omega arith in
    let zero_one : 0 + one_if (is_plain options words k) ≡ one_if (is_plain options words k) = omega arith in rw (zero_k, zero_one) refl)

-- one where an option wants a value at place k
abbrev owing : List OptionRow → List (List ℕ) → ℕ → ℕ
owing options words k = one_if (is_some (wanted options words k))

not_owing : (options : List OptionRow) (words : List (List ℕ)) (k : ℕ) → list_all (λ o. is_option o.name) options ≡ true → is_option (word_at words k) ≡ false
    → owing options words (k + 1) ≡ 0
unfolding wanted
not_owing options words k named other = let next : k + 1 ≡ suc k = omega arith in rw (next, no_option options (word_at words k) named other) refl

one_if-le-one : (b : Bool) → one_if b ≤ 1
one_if-le-one true = omega arith
one_if-le-one false = omega arith

-- the words before place k are few
record IsNear (plain : List Form) (options : List OptionRow) (words : List (List ℕ)) (k : ℕ) : Type 0 where
  pub far : k + owing options words k ≤ plain_before options words k + 2 * given options words k
  pub plains : plain_before options words k ≤ length plain

-- place k holds the value of an option
value_step : (plain : List Form) (options : List OptionRow) (words : List (List ℕ)) (k : ℕ) (form : Form) → list_all (λ o. is_option o.name) options ≡ true
    → wanted options words k ≡ Some form → can_be_read plain options words k ≡ true → IsNear plain options words k → IsNear plain options words (k + 1)
unfolding can_be_read is_plain
value_step plain options words k form named is fits near =
    let fit : has_form form (word_at words k) ≡ true = rw is at fits in
    let paid = not_owing options words k named (form_no_option form (word_at words k) fit) in
    let owed : owing options words k ≡ 1 = rw is refl in
    let other : is_plain options words k ≡ false = rw is refl in
    let same : plain_before options words (k + 1) ≡ plain_before options words k = rw (plain_more options words k, other) (omega arith) in
    record { far = omega (arith, near.far, given-le options words k, paid, owed, same); plains = omega (arith, near.plains, same) }

-- place k holds an option
option_step : (plain : List Form) (options : List OptionRow) (words : List (List ℕ)) (k : ℕ) → k < length words → wanted options words k ≡ None
    → is_option (word_at words k) ≡ true → can_be_read plain options words k ≡ true → IsNear plain options words k → IsNear plain options words (k + 1)
unfolding can_be_read is_plain
option_step plain options words k lt is here fits near =
    let new : is_new_option options words k ≡ true = rw (is, here) at fits in
    let parts = and_parts _ _ new in
    let found = some_of (option_named options (word_at words k)) parts.0 in
    let more = given-new options words k found.0 lt found.1 (not-true _ parts.1) in
    let other : is_plain options words k ≡ false = rw (is, here) refl in
    let same : plain_before options words (k + 1) ≡ plain_before options words k = rw (plain_more options words k, other) (omega arith) in
    record { far = omega (arith, near.far, more, same, one_if-le-one (is_some (wanted options words (k + 1)))); plains = omega (arith, near.plains, same) }
  where
    some_of : (o : Option OptionRow) → is_some o ≡ true → (row : OptionRow) × (o ≡ Some row)
    some_of None e = absurd (false≢true e)
    some_of (Some row) e = (row, refl)

-- a plain argument that can be read is one of those that are due
pub plain_within : (plain : List Form) (options : List OptionRow) (words : List (List ℕ)) (k : ℕ) → wanted options words k ≡ None
    → is_option (word_at words k) ≡ false → can_be_read plain options words k ≡ true → plain_before options words k < length plain
unfolding can_be_read
plain_within plain options words k is other fits = by_form (slice_get plain (plain_before options words k)) refl (rw (is, other) at fits)
  where
    by_form : (form : Option Form) → slice_get plain (plain_before options words k) ≡ form → has_wanted form (word_at words k) false ≡ true
        → plain_before options words k < length plain
    by_form None e fit = absurd (false≢true fit)
    by_form (Some form) e fit = slice_get_within plain (plain_before options words k) form e

-- place k holds a plain argument
plain_step : (plain : List Form) (options : List OptionRow) (words : List (List ℕ)) (k : ℕ) → list_all (λ o. is_option o.name) options ≡ true
    → wanted options words k ≡ None → is_option (word_at words k) ≡ false → can_be_read plain options words k ≡ true → IsNear plain options words k
    → IsNear plain options words (k + 1)
unfolding is_plain
plain_step plain options words k named is other fits near =
    let one : is_plain options words k ≡ true = rw (is, other) refl in
    let more : plain_before options words (k + 1) ≡ plain_before options words k + 1 = rw (plain_more options words k, one) refl in
    let paid = not_owing options words k named other in
    let within = plain_within plain options words k is other fits in
    record { far = omega (arith, near.far, given-le options words k, paid, more); plains = omega (arith, within, more) }

near_step : (plain : List Form) (options : List OptionRow) (words : List (List ℕ)) (k : ℕ) → list_all (λ o. is_option o.name) options ≡ true → k < length words
    → can_be_read plain options words k ≡ true → IsNear plain options words k → IsNear plain options words (k + 1)
near_step plain options words k named lt fits near = by_role (wanted options words k) refl
  where
    by_role : (form : Option Form) → wanted options words k ≡ form → IsNear plain options words (k + 1)
    by_role (Some form) is = value_step plain options words k form named is fits near
    by_role None is = elim (cases_Bool (is_option (word_at words k))) [
      | inl here ↦ option_step plain options words k lt is here fits near
      | inr other ↦ plain_step plain options words k named is other fits near
    ]

-- the words before place k can be read
abbrev AreReadBelow : List Form → List OptionRow → List (List ℕ) → ℕ → Type 0
AreReadBelow plain options words k = (j : ℕ) → j < k → can_be_read plain options words j ≡ true

near_from : (plain : List Form) (options : List OptionRow) (words : List (List ℕ)) (k : ℕ) → list_all (λ o. is_option o.name) options ≡ true → k ≤ length words
    → AreReadBelow plain options words k → IsNear plain options words k
unfolding wanted plain_before
near_from plain options words zero named le fits = record { far = omega arith; plains = omega arith }
near_from plain options words (suc k) named le fits =
    let next : k + 1 ≡ suc k = omega arith in
    let near = near_from plain options words k named (omega arith) (λ j lt. fits j (omega arith)) in
    subst (IsNear plain options words) next (near_step plain options words k named (omega arith) (fits k (omega arith)) near)

-- ---- the first place that fails

pub found_first : (p : ℕ → Bool) (a n k : ℕ) → find p (range_with_len a n) ≡ Some k → (a ≤ k) × (k < a + n) × ((j : ℕ) → a ≤ j → j < k → p j ≡ false)
found_first p a zero k found = absurd (cc)
found_first p a (suc n) k found = elim (cases_Bool (p a)) [
  | inl here ↦
      let e : Some a ≡ Some k = rw here at found in
      let same : a ≡ k = cc in
      (omega arith, omega arith, λ j le lt. absurd (omega arith))
  | inr no' ↦
      let later : find p (range_with_len (a + 1) n) ≡ Some k = rw no' at found in
      let first = found_first p (a + 1) n k later in (
        omega (arith, first.0),
        omega (arith, first.1),
        λ j le lt. elim (cases_eq j a) [
          | inl e ↦ rw e no'
          | inr ne ↦ first.2 j (omega arith) lt
        ],
      )
]

-- words that can be read are at most all plain arguments, all options and their values
pub read-le : (plain : List Form) (options : List OptionRow) (words : List (List ℕ)) (k : ℕ) → list_all (λ o. is_option o.name) options ≡ true
    → k ≤ length words → AreReadBelow plain options words k → k ≤ length plain + 2 * length options
read-le plain options words k named le fits =
    let near = near_from plain options words k named le fits in
    omega (arith, near.far, near.plains, count_by-le-length (λ o. list_any (λ word. bytes_eq word o.name) (take k words)) options)

-- the first fault comes after at most all plain arguments, all options and their values
pub fault_place-le : (plain : List Form) (options : List OptionRow) (words : List (List ℕ)) (k : ℕ) → list_all (λ o. is_option o.name) options ≡ true
    → fault_place plain options words ≡ Some k → k ≤ length plain + 2 * length options
unfolding fault_place first_unread
fault_place-le plain options words k named fault = by_first (first_unread plain options words) refl fault
  where
    at_end : (complete : Bool) → place_or_missing None complete (length words) ≡ Some k → length words ≤ length plain + 2 * length options
        → k ≤ length plain + 2 * length options
    at_end true e near = absurd (cc)
    at_end false e near = let same : length words ≡ k = cc in subst (λ i. i ≤ length plain + 2 * length options) same near

    by_first : (first : Option ℕ) → first_unread plain options words ≡ first → place_or_missing first (is_complete plain options words) (length words) ≡ Some k
        → k ≤ length plain + 2 * length options
    by_first (Some j) is e =
        let first = found_first (λ i. not (can_be_read plain options words i)) 0 (length words) j is in
        let near = read-le plain options words j named (omega (arith, first.1)) (λ i lt. not-false _ (first.2 i (omega arith) lt)) in
        let same : j ≡ k = cc in
        subst (λ i. i ≤ length plain + 2 * length options) same near
    by_first None is e =
        let near = read-le plain options words (length words) named (omega arith)
        (λ i lt. not-false _ (find-none (λ i. not (can_be_read plain options words i)) 0 (length words) is i (omega arith) (omega (arith, lt)))) in
        at_end (is_complete plain options words) e near
