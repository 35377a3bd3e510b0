use Rattle.std.proofs.Common.{◌≡◌, ◌∙◌, sym, ap, refl, inl, inr, arith, rules, ℤ, length, to_z, of_z}
use Rattle.std.proofs.lemmas.Int.{to_z-of_z}
use mir.Syntax.{w128}
use mir.Val.{SFits}
use Rattle.exact_forms.specs.Rational.{whole}
use Rattle.exact_lp.specs.OfVectors.{IsPlaceable}
use Rattle.exact_lp.specs.Placement.{IsPlaceAnswer, problem_of}
use Rattle.exact_lp.proofs.OneAnswer.{one_answer}
use Rattle.exact_lp.proofs.Ruled.{ruled, sound, leaving_rows, leaving_rows_as}
use Rattle.exact_lp.proofs.simplex.place.Goals as goal
use Rattle.exact_lp.proofs.simplex.place.Goals.{After-n-n, In-Ok, After-place_on}
use Rattle.exact_lp.proofs.Starting.{IsStart, start_is, divisor, placed_as}

-- the vectors and S can be placed, and the table is the one that it begins with
placeable : (c : After-n-n) → IsPlaceable c.args.vectors.now c.args.s.now
placeable c = record { some = c.n-n.ensures.matrix.positive; sizes = c.requires.one_length; perfect = c.requires.spanning }

started : (c : In-Ok) → IsStart c.in-Ok.tableau (length c.args.vectors.now)
started c = start_is c.args.vectors.now c.args.s.now c.in-Ok.tableau c.n-n.ensures.matrix.positive c.in-Ok.ensures

pub place_on-requires-clause-width : goal.place_on-requires-clause-width
place_on-requires-clause-width c = let S = started (goal.at.place_on-requires-clause-width c).In-Ok in let w = S.width in let v =
    c.len-vectors_len.ensures.value in omega arith

pub place_on-requires-clause-row : goal.place_on-requires-clause-row
place_on-requires-clause-row c = (started (goal.at.place_on-requires-clause-row c).In-Ok).row

pub place_on-requires-clause-units : goal.place_on-requires-clause-units
place_on-requires-clause-units c = (started (goal.at.place_on-requires-clause-units c).In-Ok).units

whole_is : (d : ℤ) → SFits w128 d → whole (to_z w128 (of_z w128 d)) ≡ whole d
whole_is d h = ap whole (to_z-of_z w128 d h)

pub place_on-requires-clause-divisor : goal.place_on-requires-clause-divisor
place_on-requires-clause-divisor c = λ e. divisor c.args.d c.requires.positive (sym (c.whole.ensures ∙ whole_is c.args.d (search rules)) ∙ e)

-- the answer, of the program of the vectors
answer_is : (c : After-place_on) → IsPlaceAnswer (problem_of c.args.vectors.now c.args.s.now c.args.d) c.args.budget c.place_on.result
answer_is c =
    placed_as c.in-Ok.tableau _ c.len-vectors_len.result _ c.whole.result _ c.args.budget c.place_on.result c.in-Ok.ensures c.len-vectors_len.ensures.value
    (c.whole.ensures ∙ whole_is c.args.d (search rules)) c.place_on.ensures

pub returns-in-Ok-clause-answer : goal.returns-in-Ok-clause-answer
returns-in-Ok-clause-answer c = answer_is (goal.at.returns-in-Ok-clause-answer c).After-place_on

pub returns-in-Ok-clause-rule : goal.returns-in-Ok-clause-rule
returns-in-Ok-clause-rule c =
    ruled c.args.vectors.now c.args.s.now c.args.d (placeable (goal.at.returns-in-Ok-clause-rule c).After-n-n) c.args.budget c.place_on.result
    (answer_is (goal.at.returns-in-Ok-clause-rule c).After-place_on)

pub returns-in-Ok-clause-sound : goal.returns-in-Ok-clause-sound
returns-in-Ok-clause-sound c =
    sound c.args.vectors.now c.args.s.now c.args.d (placeable (goal.at.returns-in-Ok-clause-sound c).After-n-n) c.args.budget c.place_on.result
    c.requires.positive
    (answer_is (goal.at.returns-in-Ok-clause-sound c).After-place_on)

pub place_on-requires-clause-leaves : goal.place_on-requires-clause-leaves
place_on-requires-clause-leaves c =
    leaving_rows_as c.in-Ok.tableau _ c.len-vectors_len.result _ c.whole.result _ c.in-Ok.ensures c.len-vectors_len.ensures.value (c.whole.ensures
    ∙ whole_is c.args.d (search rules))
    (leaving_rows c.args.vectors.now c.args.s.now c.args.d (placeable (goal.at.place_on-requires-clause-leaves c).After-n-n))

pub returns-in-Ok-clause-due : goal.returns-in-Ok-clause-due
returns-in-Ok-clause-due c = λ a A.
    one_answer _ c.args.budget c.place_on.result a
    (answer_is (goal.at.returns-in-Ok-clause-due c).After-place_on) A

pub returns-in-Err-clause-due : goal.returns-in-Err-clause-due
returns-in-Err-clause-due c = λ a A. inr (inl refl)
