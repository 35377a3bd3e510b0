use Rattle.std.proofs.Common.{◌≡◌, ◌∙◌, true, refl, sym, ap, Some, List, ℕ}
use Rattle.std.specs.Str.Parse.{digits_value}
use Rattle.cpfactor_lines.specs.Arguments.{Number, has_form, word_at}
use Rattle.cpfactor_lines.specs.Requests.{texts}
use Rattle.cpfactor_lines.proofs.ArgumentLaws.{number_read}
use Rattle.cpfactor_lines.proofs.Rows.{text_at}
use Rattle.cpfactor_lines.proofs.arguments.number_argument.Goals as goal
use Rattle.cpfactor_lines.proofs.arguments.number_argument.Goals.{After-number}

-- the number of the word
number_is : (c : After-number) → c.number.result ≡ Some (digits_value 10 (word_at (texts c.args.words.now) c.args.place))
number_is c =
    let (low, high, fits, form) = c.requires.number in
    let at = text_at c.args.words.now c.args.place c.index-words-place.result c.requires.within c.index-words-place.is in
    let word : word_at (texts c.args.words.now) c.args.place ≡ c.deref.result.now = at ∙ sym c.deref.ensures in
    let here : has_form (Number low high) c.deref.result.now ≡ true = rw word at form in
    number_read low high c.deref.result.now c.number.result fits here c.number.ensures ∙ ap (λ (t : List ℕ). Some (digits_value 10 t)) (sym word)

pub unwrap-requires : goal.unwrap-requires
unwrap-requires c = rw (number_is (goal.at.unwrap-requires c).After-number) refl

pub returns : goal.returns
returns c =
    let both : Some c.unwrap.result ≡ Some (digits_value 10 (word_at (texts c.args.words.now) c.args.place)) =
    sym c.unwrap.ensures ∙ number_is (goal.at.returns c).After-number in
    cc
