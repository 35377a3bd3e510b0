use Rattle.std.proofs.Common.{◌≡◌, ◌≤◌, ◌<◌, ◌∙◌, ap, length, arith}
use Rattle.exact_forms.specs.Rational.{whole}
use Rattle.exact_forms.specs.Factors.{WeightedVector}
use Rattle.certificate_checker.specs.Terms.{outer_entry}
use Rattle.certificate_checker.proofs.TermSums.{square_fits}
use Rattle.certificate_checker.proofs.terms.square.Goals as goal
use Rattle.certificate_checker.proofs.terms.square.Goals.{After-len-n}

-- the vector is short
short_here : (c : After-len-n) → length c.args.term.now.vector ≤ 8
short_here c =
    let e : length c.term.inside.vector ≡ length c.args.term.now.vector = ap (λ (t : WeightedVector). length t.vector) c.term.view_is in
    let short : length c.term.inside.vector ≤ 8 = c.len-n.ensures.vector.short in
    omega arith

pub overflow_add-i : goal.overflow_add-i
overflow_add-i c =
    let short : length c.args.term.now.vector ≤ 8 = short_here (goal.at.overflow_add-i c).After-len-n in
    let first : c.args.i < length c.args.term.now.vector = c.requires.first in
    omega arith

pub overflow_add-j : goal.overflow_add-j
overflow_add-j c =
    let short : length c.args.term.now.vector ≤ 8 = short_here (goal.at.overflow_add-j c).After-len-n in
    let second : c.args.j < length c.args.term.now.vector = c.requires.second in
    omega arith

pub whole-requires : goal.whole-requires
whole-requires c = (square_fits c.term.inside.vector c.args.i c.args.j _ _ c.at-x.ensures.value c.at-y.ensures.value
    c.at-x.ensures.small c.at-y.ensures.small).1

pub returns : goal.returns
returns c =
    let product = (square_fits c.term.inside.vector c.args.i c.args.j _ _ c.at-x.ensures.value c.at-y.ensures.value
    c.at-x.ensures.small c.at-y.ensures.small).0 in
    c.whole.ensures ∙ ap whole product ∙ ap (λ (t : WeightedVector). outer_entry t c.args.i c.args.j) c.term.view_is
