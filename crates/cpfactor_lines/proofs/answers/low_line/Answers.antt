use Rattle.std.proofs.Common.{◌≡◌, ◌∙◌, ap₂, subst, IfOk, ℕ, List}
use Rattle.std.proofs.lemmas.Int.{to_z-of_z}
use Rattle.std.specs.Int.{w128}
use Rattle.cpfactor_lines.specs.Lines.{word_text}
use Rattle.cpfactor_lines.specs.Texts.{value_text}
use Rattle.cpfactor_lines.proofs.Listings.{low_words}
use Rattle.cpfactor_lines.proofs.answers.low_line.Goals as goal

pub returns : goal.returns
returns c =
    let word : word_text c.value_word.result ≡ value_text c.args.value c.args.d =
    c.value_word.ensures ∙ ap₂ value_text (to_z-of_z w128 c.args.value c.ranges.value) (to_z-of_z w128 c.args.d c.ranges.d) in
    let words = low_words c.args.d c.args.value c.args.vector.now c.as_slice.result.now (word_text c.value_word.result) c.args.path.now word
    c.as_slice.ensures.value in
    subst (λ (t : List ℕ). IfOk c.words_line_of.result (λ text. text.items ≡ t)) words c.words_line_of.ensures
