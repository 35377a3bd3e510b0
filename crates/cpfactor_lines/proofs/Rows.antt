-- The rows of the program as the definitions see them, and how a word at a place is read.
use Rattle.std.proofs.Common.{◌≡◌, ℕ, zero, suc, ◌+◌, ◌<◌, ◌≤◌, true, false, not, ◌&&◌, ◌||◌, List, [], ◌∷◌, length, get_or, take, Option, Some, None, refl}
use Rattle.std.proofs.Common.{sym, ap, ◌∙◌, arith, inl, inr, Bor}
use Rattle.std.proofs.lemmas.Bool.{cases_Bool, false≢true, not-true, and_parts, and_right}
use Rattle.std.proofs.lemmas.Option.{slice_get-map, slice_get_past, slice_get-get_or}
use Rattle.std.specs.Prelude.{String, find, map, option_map, slice_get, is_some, is_none}
use Rattle.std.specs.Option.{option_and_then, option_map_or, MatchOption}
use Rattle.std.specs.Global.{Global}
use Rattle.std.specs.String.{string_bytes}
use Rattle.std.specs.List.{list_any, HoldsAt}
use Rattle.std.specs.Str.{bytes_eq}
use Rattle.cpfactor_lines.specs.Arguments.{Form, is_option, has_form, has_wanted, is_new_option, wanted, is_plain, plain_before, word_at, option_named}
use Rattle.cpfactor_lines.specs.Arguments.{can_be_read}
use Rattle.cpfactor_lines.specs.Arguments as of
use Rattle.cpfactor_lines.specs.Requests.{texts, form_of, option_of}
use Rattle.cpfactor_lines.specs.declared.row.OptionRow.{OptionRow}
use Rattle.cpfactor_lines.specs.declared.row.Form.{Form as RowForm}

pub option_named-of : (options : List OptionRow) (word : List ℕ)
    → option_map option_of (find (λ o. bytes_eq word o.name.now) options) ≡ option_named (map option_of options) word
option_named-of [] word = refl
option_named-of (o ∷ options) word = elim (cases_Bool (bytes_eq word o.name.now)) [
  | inl same ↦ rw same refl
  | inr differs ↦ rw differs (option_named-of options word)
]

pub text_at : (words : List (String Global)) (k : ℕ) (word : String Global) → k < length words → word ≡ get_or words k word
    → word_at (texts words) k ≡ string_bytes word
text_at [] k word lt is = absurd (omega arith)
text_at (w ∷ words) zero word lt is = ap string_bytes (sym is)
text_at (w ∷ words) (suc k) word lt is = text_at words k word (omega arith) is

pub texts-take : (words : List (String Global)) (k : ℕ) → take k (texts words) ≡ texts (take k words)
texts-take words zero = refl
texts-take [] (suc k) = refl
texts-take (w ∷ words) (suc k) = ap (λ ws. string_bytes w ∷ ws) (texts-take words k)

pub read_value : (plain : List Form) (options : List of.OptionRow) (words : List (List ℕ)) (k : ℕ) (form : Form) → wanted options words k ≡ Some form
    → can_be_read plain options words k ≡ has_form form (word_at words k)
unfolding can_be_read
read_value plain options words k form is = rw is refl

pub read_option : (plain : List Form) (options : List of.OptionRow) (words : List (List ℕ)) (k : ℕ) → wanted options words k ≡ None
    → is_option (word_at words k) ≡ true → can_be_read plain options words k ≡ is_new_option options words k
unfolding can_be_read
read_option plain options words k is here = rw (is, here) refl

pub read_plain : (plain : List Form) (options : List of.OptionRow) (words : List (List ℕ)) (k : ℕ) → wanted options words k ≡ None
    → is_option (word_at words k) ≡ false
    → can_be_read plain options words k ≡ has_wanted (slice_get plain (plain_before options words k)) (word_at words k) false
unfolding can_be_read
read_plain plain options words k is other = rw (is, other) refl

pub is_among-texts : (words : List (String Global)) (word : List ℕ)
    → list_any (λ other. bytes_eq other word) (texts words) ≡ list_any (λ w. bytes_eq (string_bytes w) word) words
is_among-texts [] word = refl
is_among-texts (w ∷ words) word = ap (λ b. bytes_eq (string_bytes w) word || b) (is_among-texts words word)

pub none_of : {X : Type 0} (o : Option X) → is_some o ≡ false → o ≡ None
none_of None none = refl
none_of (Some x) none = absurd (false≢true (sym none))

-- the next plain argument's form, as looking it up gives it
pub read_due : (plain : List RowForm) (k : ℕ) (word : List ℕ) (due : Option (Bor RowForm))
    → MatchOption due (length plain ≤ k) (λ x. (k < length plain) × HoldsAt (λ y. x.now ≡ y) plain k)
    → option_map_or (λ x. has_form (form_of x.now) word) due false ≡ has_wanted (slice_get (map form_of plain) k) word false
read_due plain k word None past = let e : slice_get (map form_of plain) k ≡ None = slice_get-map form_of plain k
    ∙ ap (option_map form_of) (slice_get_past plain k past) in rw e refl
read_due plain k word (Some x) (lt, is) =
    let e : slice_get (map form_of plain) k ≡ Some (form_of x.now) = slice_get-map form_of plain k
    ∙ ap (option_map form_of) (slice_get-get_or plain k x.now lt ∙ ap Some (sym (is x.now))) in
    rw e refl

-- the option that a word names, and whether it is new
pub read_new : (options : List of.OptionRow) (words : List (List ℕ)) (k : ℕ) (word : List ℕ) (row : Option OptionRow) → word_at words k ≡ word
    → option_map option_of row ≡ option_named options word
    → is_new_option options words k ≡ (is_some row && not (list_any (λ other. bytes_eq other word) (take k words)))
read_new options words k word None at named = rw (at, ← named) refl
read_new options words k word (Some o) at named = rw (at, ← named) refl

-- what the word after an option has to be
pub wanted-next : (options : List of.OptionRow) (words : List (List ℕ)) (k : ℕ) (row : Option OptionRow)
    → option_map option_of row ≡ option_named options (word_at words k) → option_map form_of (option_and_then (λ o. o.value) row) ≡ wanted options words (k + 1)
unfolding wanted
wanted-next options words k None named = let next : k + 1 ≡ suc k = omega arith in rw (next, ← named) refl
wanted-next options words k (Some o) named = let next : k + 1 ≡ suc k = omega arith in rw (next, ← named) refl

pub is_plain-argument : (options : List of.OptionRow) (words : List (List ℕ)) (k : ℕ) → wanted options words k ≡ None → is_option (word_at words k) ≡ false
    → is_plain options words k ≡ true
unfolding is_plain
is_plain-argument options words k is other = rw (is, other) refl

pub is_plain-option : (options : List of.OptionRow) (words : List (List ℕ)) (k : ℕ) → is_option (word_at words k) ≡ true → is_plain options words k ≡ false
unfolding is_plain
is_plain-option options words k here = rw here (and_right _ _ refl)

pub is_plain-value : (options : List of.OptionRow) (words : List (List ℕ)) (k : ℕ) (form : Option RowForm) → option_map form_of form ≡ wanted options words k
    → is_some form ≡ true → is_plain options words k ≡ false
unfolding is_plain
is_plain-value options words k None is some = absurd (false≢true some)
is_plain-value options words k (Some form) is some = rw (← is) refl

pub is_plain-parts : (options : List of.OptionRow) (words : List (List ℕ)) (k : ℕ) → is_plain options words k ≡ true
    → (wanted options words k ≡ None) × (is_option (word_at words k) ≡ false)
unfolding is_plain
is_plain-parts options words k plain =
    let parts = and_parts (is_none (wanted options words k)) (not (is_option (word_at words k))) plain in
    (by (wanted options words k) parts.0, not-true _ parts.1)
  where
    by : (form : Option Form) → is_none form ≡ true → form ≡ None
    by None none = refl
    by (Some form) none = absurd (false≢true none)
