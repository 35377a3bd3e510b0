use Rattle.std.proofs.Common.{◌≡◌, ◌∙◌, sym, ap, List, ℕ, ◌+◌, ◌++◌, [], ◌∷◌, arith}
use Rattle.std.specs.List.{range_with_len}
use Rattle.exact_forms.proofs.Lists.{range_more}
use Rattle.exact_linear.proofs.tableau.numbers_below.Goals as goal

pub loop-number-preserved : goal.loop-number-preserved
loop-number-preserved c =
    let zero : c.loop-number.number ≡ 0 + c.loop-number.number = omega arith in
    c.in_ok-push.ensures.items
    ∙ ap (λ (xs : List ℕ). xs ++ c.loop-number.number ∷ []) c.loop-number.invariant
    ∙ ap (λ (n : ℕ). range_with_len 0 c.loop-number.number ++ n ∷ []) zero
    ∙ sym (range_more 0 c.loop-number.number)
