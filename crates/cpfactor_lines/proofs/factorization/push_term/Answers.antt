use Rattle.std.proofs.Common.{◌≡◌, ◌∙◌, ◌++◌, OnOk, ap, pos, rules, subst, to_z, of_z}
use Rattle.std.proofs.lemmas.Int.{to_z-of_z}
use Rattle.std.specs.Int.{w128}
use Rattle.exact_forms.specs.Factors.{WeightedVector}
use Rattle.cpfactor_lines.proofs.Listings.{term_words_are}
use Rattle.cpfactor_lines.proofs.factorization.push_term.Goals as goal

pub returns-clause-line : goal.returns-clause-line
returns-clause-line c =
    let num : to_z w128 (of_z w128 c.num.result) ≡ c.num.result = search (rules, to_z-of_z) in
    let den : to_z w128 (of_z w128 c.den.result) ≡ c.den.result = search (rules, to_z-of_z) in
    subst (λ t. OnOk c.push_line_of.result (c.push_line_of.new.into.items ≡ c.args.into.now.items ++ t))
    (term_words_are c.args.term.now _ _ c.as_slice.result.now
    (num ∙ c.num.ensures.value ∙ ap (λ (t : WeightedVector). t.weight.num) c.term.view_is)
    (den ∙ c.den.ensures.value ∙ ap (λ (t : WeightedVector). pos t.weight.den) c.term.view_is)
    (c.as_slice.ensures.value ∙ ap (λ (t : WeightedVector). t.vector) c.term.view_is)) c.push_line_of.ensures
