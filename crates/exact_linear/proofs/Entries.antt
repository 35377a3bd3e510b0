-- The operations of one entry.
use Rattle.std.specs.Prelude.{◌≡◌, ℕ, Ok, Err}
use Rattle.std.proofs.Common.{◌∙◌, ap, refl}
use Rattle.exact_forms.specs.Rational.{Rational, ◌*ℚ◌, ◌-ℚ◌, ◌/ℚ◌}
use Rattle.symmetric_matrix.specs.Operations.{is_owed}
use Rattle.symmetric_matrix.specs.Owed.{answer, tagged}
use Rattle.fraction128.specs.Recipes.{div_ops, mul_ops, sub_ops}
use Rattle.symmetric_matrix.proofs.Owed.{answer_tagged, answer-append_err, answer-append_ok}
use Rattle.exact_linear.specs.declared.entry.EntryOp.{EntryOp}
use Rattle.exact_linear.specs.declared.entry.EntryPart.TheVariants.{Divide, Multiply, Subtract}
use Rattle.exact_linear.specs.Exchange.{entry_is_owed, placed, divide_entry, multiply_entry, subtract_entry, clear_entry}

pub divide_tagged : (i j : ℕ) (x y : Rational)
    → tagged (placed i j Divide x y) (answer is_owed (div_ops x y) ((x /ℚ y))) ≡ answer entry_is_owed (divide_entry i j x y) ((x /ℚ y))
unfolding divide_entry
divide_tagged i j x y = answer_tagged is_owed entry_is_owed (placed i j Divide x y) (div_ops x y) ((x /ℚ y)) (λ o. refl)

pub multiply_tagged : (i j : ℕ) (x y : Rational)
    → tagged (placed i j Multiply x y) (answer is_owed (mul_ops x y) (x *ℚ y)) ≡ answer entry_is_owed (multiply_entry i j x y) (x *ℚ y)
unfolding multiply_entry
multiply_tagged i j x y = answer_tagged is_owed entry_is_owed (placed i j Multiply x y) (mul_ops x y) (x *ℚ y) (λ o. refl)

pub subtract_tagged : (i j : ℕ) (x y : Rational)
    → tagged (placed i j Subtract x y) (answer is_owed (sub_ops x y) ((x -ℚ y))) ≡ answer entry_is_owed (subtract_entry i j x y) ((x -ℚ y))
unfolding subtract_entry
subtract_tagged i j x y = answer_tagged is_owed entry_is_owed (placed i j Subtract x y) (sub_ops x y) ((x -ℚ y)) (λ o. refl)

pub clear_refused : (i j : ℕ) (x f y : Rational) (err : EntryOp) → answer entry_is_owed (multiply_entry i j f y) (f *ℚ y) ≡ Err err
    → answer entry_is_owed (clear_entry i j x f y) ((x -ℚ f *ℚ y)) ≡ Err err
unfolding clear_entry
clear_refused i j x f y err h = answer-append_err entry_is_owed (multiply_entry i j f y) (subtract_entry i j x (f *ℚ y)) (f *ℚ y) ((x -ℚ f *ℚ y)) err h

pub clear_then : (i j : ℕ) (x f y m : Rational) → answer entry_is_owed (multiply_entry i j f y) (f *ℚ y) ≡ Ok m
    → answer entry_is_owed (clear_entry i j x f y) ((x -ℚ f *ℚ y)) ≡ answer entry_is_owed (subtract_entry i j x m) ((x -ℚ m))
unfolding clear_entry
clear_then i j x f y m h =
    let done = answer-append_ok entry_is_owed (multiply_entry i j f y) (subtract_entry i j x (f *ℚ y)) (f *ℚ y) m ((x -ℚ f *ℚ y)) h in
    done.0 ∙ ap (λ (m : Rational). answer entry_is_owed (subtract_entry i j x m) ((x -ℚ m))) done.1
