use Rattle.std.proofs.Common.{◌≡◌, ◌∙◌, ℕ, true, false, List, take, sym, ap, refl, Some, None, rules, Bor}
use Rattle.std.specs.Prelude.{option_map, is_some, not, ◌&&◌}
use Rattle.std.specs.List.{list_any}
use Rattle.std.specs.Option.{option_map_or}
use Rattle.std.specs.Str.{bytes_eq}
use Rattle.cpfactor_lines.specs.Arguments.{wanted, word_at, has_form, is_option, can_be_read}
use Rattle.cpfactor_lines.specs.Requests.{texts, form_of, plain_of, options_of}
use Rattle.cpfactor_lines.specs.declared.row.Form.{Form}
use Rattle.cpfactor_lines.proofs.Rows.{text_at, texts-take, read_value, read_option, read_plain, read_new, read_due}
use Rattle.cpfactor_lines.proofs.arguments.ArgumentReader.can_read.Goals as goal
use Rattle.cpfactor_lines.proofs.arguments.ArgumentReader.can_read.Goals.{After-as_str-word, After-is_option, After-option_named}

-- the word at the place
word_here : (c : After-as_str-word) → word_at (texts c.args.words.now) c.args.place ≡ c.as_str-word.result.now
word_here c = text_at c.args.words.now c.args.place c.index-words-place.result c.requires.within c.index-words-place.is ∙ sym c.as_str-word.ensures.value

-- no option before it wants a value
none_wanted : (c : After-is_option) → wanted (options_of c.args.row.now) (texts c.args.words.now) c.args.place ≡ None
none_wanted c = sym c.requires.stands.waits ∙ ap (option_map form_of) c.in_default.is

-- an option can be read where it is new
option_read : (c : After-option_named) → word_at (texts c.args.words.now) c.args.place ≡ c.as_str-word.result.now
    → wanted (options_of c.args.row.now) (texts c.args.words.now) c.args.place ≡ None
    → can_be_read (plain_of c.args.row.now) (options_of c.args.row.now) (texts c.args.words.now) c.args.place
    ≡ (is_some c.option_named.result && not
    (list_any (λ (other : List ℕ). bytes_eq other c.as_str-word.result.now) (take c.args.place (texts c.args.words.now))))
option_read c at is =
    let here : is_option (word_at (texts c.args.words.now) c.args.place) ≡ true = ap is_option at ∙ sym c.is_option.ensures ∙ c.if-is_option.true in
    read_option (plain_of c.args.row.now) (options_of c.args.row.now) (texts c.args.words.now) c.args.place is here
    ∙ read_new (options_of c.args.row.now) (texts c.args.words.now) c.args.place c.as_str-word.result.now c.option_named.result at c.option_named.ensures

pub returns-in-Some : goal.returns-in-Some
returns-in-Some c =
    let words = texts c.args.words.now in
    let options = options_of c.args.row.now in
    let is : wanted options words c.args.place ≡ Some (form_of c.in-Some.form) = sym c.requires.stands.waits ∙ ap (option_map form_of) c.in-Some.is in
    c.fits.ensures ∙ ap (has_form (form_of c.in-Some.form)) (sym (word_here (goal.at.returns-in-Some c).After-as_str-word))
    ∙ sym (read_value (plain_of c.args.row.now) options words c.args.place _ is)

pub returns-then-is_some : goal.returns-then-is_some
returns-then-is_some c =
    let at = goal.at.returns-then-is_some c in
    let some : is_some c.option_named.result ≡ true = sym c.is_some.ensures ∙ c.if-is_some.true in
    let among : list_any (λ (other : List ℕ). bytes_eq other c.as_str-word.result.now) (take c.args.place (texts c.args.words.now)) ≡ c.is_among.result =
    ap (list_any (λ (other : List ℕ). bytes_eq other c.as_str-word.result.now)) (texts-take c.args.words.now c.args.place) ∙ sym c.is_among.ensures in
    sym (option_read at.After-option_named (word_here at.After-as_str-word) (none_wanted at.After-is_option) ∙ rw (some, among) refl)

pub returns-else-is_some : goal.returns-else-is_some
returns-else-is_some c =
    let at = goal.at.returns-else-is_some c in
    let none : is_some c.option_named.result ≡ false = sym c.is_some.ensures ∙ c.if-is_some.false in
    sym (option_read at.After-option_named (word_here at.After-as_str-word) (none_wanted at.After-is_option) ∙ rw (none, c.if-is_some.false) refl)

pub returns : goal.returns
returns c =
    let words = texts c.args.words.now in
    let options = options_of c.args.row.now in
    let at = word_here (goal.at.returns c).After-as_str-word in
    let other : is_option (word_at words c.args.place) ≡ false = ap is_option at ∙ sym c.is_option.ensures ∙ c.if-is_option.false in
    let due : c.is_some_and.result ≡ option_map_or (λ (x : Bor Form). has_form (form_of x.now) c.as_str-word.result.now) c.get.result false = search rules in
    due ∙ read_due c.args.row.now.plain.now c.args.self.now.count c.as_str-word.result.now c.get.result c.get.ensures.lookup.3
    ∙ sym (read_plain (plain_of c.args.row.now) options words c.args.place (none_wanted (goal.at.returns c).After-is_option) other
    ∙ rw (at, ← c.requires.stands.counts) refl)
