-- The checks of the value, and those of a whole verdict.
use Rattle.std.specs.Prelude.{◌≡◌, ◌≢◌, ℕ, nat_eq, true, false, List, [], ◌∷◌, Some, None}
use Rattle.std.proofs.Common.{arith, sym, ◌∙◌, ap, refl}
use Rattle.exact_forms.specs.Rational.{Rational}
use Rattle.exact_forms.specs.Factors.{WeightedVector, inner_ℚ}
use Rattle.symmetric_matrix.specs.declared.operation.IntOp.{IntOp}
use Rattle.symmetric_matrix.specs.Owed.{first_owed}
use Rattle.symmetric_matrix.specs.Operations.{is_owed}
use Rattle.symmetric_matrix.specs.Symmetric.{Symmetric, entry}
use Rattle.matrix_text.specs.RationalMatrix.{RationalMatrix, rational_entry}
use Rattle.matrix_text.specs.Matrix.{same_number}
use Rattle.cone_tree_certificate.specs.Trees.{Lines}
use Rattle.certificate_checker.specs.declared.checked.Checked.{Checked}
use Rattle.certificate_checker.specs.declared.checked.Checked.TheVariants.{Dimension, NotNegative, ValueDiffers, Wide}
use Rattle.certificate_checker.specs.Checks.{test, first_refusal}
use Rattle.certificate_checker.specs.Terms.{factor_checks}
use Rattle.certificate_checker.specs.Pairing.{pair_ops, is_below_zero, value_checks}
use Rattle.certificate_checker.specs.Tree.{tree_checks}
use Rattle.certificate_checker.specs.Verdicts.{factors_checks, separator_checks}
use Rattle.certificate_checker.proofs.Checks.{refusal-append_some, refusal-append_none, made_then, made_then_refused, test_passes, test_fails}

nothing_refused : first_refusal [] ≡ None
unfolding first_refusal
nothing_refused = refl

module _ (w : Symmetric) (value : Rational) (a : RationalMatrix) where
  pub value_wide : (op : IntOp) → first_owed is_owed (pair_ops w a) ≡ Some op → first_refusal (value_checks w value a) ≡ Some (Wide op)
  unfolding value_checks
  value_wide op h = made_then_refused (pair_ops w a) _ op h

  pub value_not_negative : (s : Rational) → first_owed is_owed (pair_ops w a) ≡ None → s ≡ inner_ℚ a.size (entry w) (rational_entry a) → is_below_zero s ≡ false
      → first_refusal (value_checks w value a) ≡ Some NotNegative
  unfolding value_checks
  value_not_negative s fits e h = made_then (pair_ops w a) _ fits ∙ test_fails NotNegative _ _ (ap is_below_zero (sym e) ∙ h)

  pub value_differs : (s : Rational) → first_owed is_owed (pair_ops w a) ≡ None → s ≡ inner_ℚ a.size (entry w) (rational_entry a) → is_below_zero s ≡ true
      → same_number s value ≡ false → first_refusal (value_checks w value a) ≡ Some ValueDiffers
  unfolding value_checks
  value_differs s fits e h d =
      made_then (pair_ops w a) _ fits ∙ test_passes NotNegative _ _ (ap is_below_zero (sym e) ∙ h)
      ∙ test_fails ValueDiffers _ [] (ap (λ (x : Rational). same_number x value) (sym e) ∙ d)

  pub value_passes : (s : Rational) → first_owed is_owed (pair_ops w a) ≡ None → s ≡ inner_ℚ a.size (entry w) (rational_entry a) → is_below_zero s ≡ true
      → same_number s value ≡ true → first_refusal (value_checks w value a) ≡ None
  unfolding value_checks
  value_passes s fits e h d =
      made_then (pair_ops w a) _ fits
      ∙ test_passes NotNegative (is_below_zero (inner_ℚ a.size (entry w) (rational_entry a)))
      (test ValueDiffers (same_number (inner_ℚ a.size (entry w) (rational_entry a)) value) ∷ []) (ap is_below_zero (sym e) ∙ h)
      ∙ test_passes ValueDiffers _ [] (ap (λ (x : Rational). same_number x value) (sym e) ∙ d) ∙ nothing_refused

pub factors_other_size : (a : RationalMatrix) (n : ℕ) (terms : List WeightedVector) → n ≢ a.size → first_refusal (factors_checks a n terms) ≡ Some Dimension
unfolding factors_checks
factors_other_size a n terms ne = let t : nat_eq n a.size ≡ false = grind arith in test_fails Dimension _ _ t

pub factors_of_size : (a : RationalMatrix) (n : ℕ) (terms : List WeightedVector) → n ≡ a.size
    → first_refusal (factors_checks a n terms) ≡ first_refusal (factor_checks a terms)
unfolding factors_checks
factors_of_size a n terms e = let t : nat_eq n a.size ≡ true = grind arith in test_passes Dimension _ _ t

pub separator_other_size : (a : RationalMatrix) (w : Symmetric) (value : Rational) (tree : Lines) → w.size ≢ a.size
    → first_refusal (separator_checks a w value tree) ≡ Some Dimension
unfolding separator_checks
separator_other_size a w value tree ne = let t : nat_eq w.size a.size ≡ false = grind arith in test_fails Dimension _ _ t

pub separator_value : (a : RationalMatrix) (w : Symmetric) (value : Rational) (tree : Lines) (r : Checked) → w.size ≡ a.size
    → first_refusal (value_checks w value a) ≡ Some r → first_refusal (separator_checks a w value tree) ≡ Some r
unfolding separator_checks
separator_value a w value tree r e h =
    let t : nat_eq w.size a.size ≡ true = grind arith in
    test_passes Dimension _ _ t ∙ refusal-append_some (value_checks w value a) (tree_checks w.size (entry w) tree) r h

pub separator_tree : (a : RationalMatrix) (w : Symmetric) (value : Rational) (tree : Lines) → w.size ≡ a.size → first_refusal (value_checks w value a) ≡ None
    → first_refusal (separator_checks a w value tree) ≡ first_refusal (tree_checks w.size (entry w) tree)
unfolding separator_checks
separator_tree a w value tree e h =
    let t : nat_eq w.size a.size ≡ true = grind arith in
    test_passes Dimension _ _ t ∙ refusal-append_none (value_checks w value a) (tree_checks w.size (entry w) tree) h
