-- An inner product of which no operation is owed fits.
use Rattle.std.specs.Prelude.{◌≡◌, ℕ, ℤ, pos, Ok}
use Rattle.std.proofs.Common.{arith, ◌∙◌, ap}
use Rattle.exact_forms.specs.Forms.{inner}
use Rattle.symmetric_matrix.specs.Operations.{is_owed}
use Rattle.symmetric_matrix.specs.Owed.{answer}
use Rattle.symmetric_matrix.specs.Recipes.{inner_ops, sum_ops}
use Rattle.symmetric_matrix.specs.Symmetric.{Symmetric, FitsInt, entry}
use Rattle.symmetric_matrix.proofs.FormSteps.{symmetric_of, sum_fits}
use Rattle.symmetric_matrix.proofs.InnerSteps.{inner_products, inner_answer_is}
use Rattle.symmetric_matrix.proofs.Owed.{none_of_ok}
use Rattle.symmetric_matrix.proofs.Recipes.{sum_answer, sum_from}

pub inner_fits : (q s : Symmetric) (z : ℤ) → q.size ≡ s.size → answer is_owed (inner_ops q s) (inner q.size (entry q) (entry s)) ≡ Ok z → FitsInt z
unfolding sum_answer
inner_fits q s z same h =
    let e = ap (λ (n : ℕ). answer is_owed (inner_ops q (symmetric_of n s.lower)) (inner q.size (entry q) (entry (symmetric_of n s.lower)))) same ∙ h in
    let made = none_of_ok is_owed (sum_ops (inner_products q.size q.lower s.lower) (pos 0)) (sum_from (inner_products q.size q.lower s.lower) (pos 0)) z
    (inner_answer_is q.size q.lower s.lower ∙ e) in
    rw (← made.1) (sum_fits (inner_products q.size q.lower s.lower) (pos 0) (omega arith) made.0)
