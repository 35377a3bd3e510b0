use Rattle.std.proofs.Common.{◌≡◌, ◌∙◌, true, refl, sym, rules, Some}
use Rattle.std.proofs.lemmas.Iterator.{YieldsList-from_slice}
use Rattle.std.proofs.lemmas.Iterator.Search.{position_from_yields_List}
use borrow.Author.Tests.{tests}
use Rattle.std.specs.Prelude.{String}
use Rattle.std.specs.Global.{Global}
use Rattle.std.specs.List.{position}
use Rattle.std.specs.Str.{bytes_eq}
use Rattle.std.specs.Str.Parse.{digits_value}
use Rattle.std.specs.String.{string_bytes}
use Rattle.cpfactor_lines.specs.Arguments.{Number, has_form}
use Rattle.cpfactor_lines.specs.Requests.{texts, plain_of, options_of}
use Rattle.cpfactor_lines.proofs.ArgumentLaws.{HasNumberAt, number_at, number_read, option_value-none, position-texts}
use Rattle.cpfactor_lines.proofs.arguments.option_value.Goals as goal
use Rattle.cpfactor_lines.proofs.arguments.option_value.Goals.{After-number, After-position, In-Some}

-- where the name stands
position_here : (c : After-position) → position (λ (w : String Global). bytes_eq (string_bytes w) c.args.name.now) c.args.words.now ≡ c.position.result
position_here c = sym (position_from_yields_List (λ (w : String Global). bytes_eq (string_bytes w) c.args.name.now) _ _ c.position.result c.position.ensures.ran
    (YieldsList-from_slice c.args.words.now cc) (λ x b q k. search (rules, tests)))

-- the word behind it has a number
number_here : (c : In-Some) → position (λ (w : String Global). bytes_eq (string_bytes w) c.args.name.now) c.args.words.now ≡ c.position.result
    → HasNumberAt c.args.words.now c.args.name.now c.args.default c.requires.numbers.0 c.requires.numbers.1 c.in-Some.place
number_here c found =
    number_at (plain_of c.args.row.now) (options_of c.args.row.now) c.args.words.now c.args.name.now c.args.default c.requires.numbers.0 c.requires.numbers.1
    c.in-Some.place c.requires.read c.requires.numbers.3 (found ∙ c.in-Some.is)

-- which is read
number_is : (c : After-number) → HasNumberAt c.args.words.now c.args.name.now c.args.default c.requires.numbers.0 c.requires.numbers.1 c.in-Some.place
    → c.number.result ≡ Some (digits_value 10 c.deref.result.now)
number_is c number =
    let form : has_form (Number c.requires.numbers.0 c.requires.numbers.1) c.deref.result.now ≡ true =
    rw c.deref.ensures (number.form c.index-words-place.result c.index-words-place.is) in
    number_read c.requires.numbers.0 c.requires.numbers.1 c.deref.result.now c.number.result c.requires.numbers.2 form c.number.ensures

pub returns-in_default : goal.returns-in_default
returns-in_default c =
    sym (option_value-none (texts c.args.words.now) c.args.name.now c.args.default
    (position-texts c.args.words.now c.args.name.now ∙ position_here (goal.at.returns-in_default c).After-position ∙ c.in_default.is))

pub bounds-words-place : goal.bounds-words-place
bounds-words-place c = let at = goal.at.bounds-words-place c in (number_here at.In-Some (position_here at.After-position)).within

pub unwrap-requires : goal.unwrap-requires
unwrap-requires c =
    let at = goal.at.unwrap-requires c in
    rw (number_is at.After-number (number_here at.In-Some (position_here at.After-position))) refl

pub returns : goal.returns
returns c =
    let at = goal.at.returns c in
    let number = number_here at.In-Some (position_here at.After-position) in
    let both : Some c.unwrap.result ≡ Some (digits_value 10 c.deref.result.now) = sym c.unwrap.ensures ∙ number_is at.After-number number in
    let same : c.unwrap.result ≡ digits_value 10 c.deref.result.now = cc in
    same ∙ sym (rw c.deref.ensures (number.value c.index-words-place.result c.index-words-place.is))
