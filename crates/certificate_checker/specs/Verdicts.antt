-- The checks of a verdict on A, in their order.
--
--     factors_checks, separator_checks   those of the two kinds of verdicts
--     checks a verdict            those of a verdict
--     IsSeparation a w value tree   W separates A, the value is ⟨W,A⟩, and the tree proves W copositive
--     IsRight a verdict           the terms factor A, or the separation is one
use Rattle.std.specs.Prelude.{◌≡◌, ℕ, nat_eq, List, ◌∷◌, ◌++◌}
use Rattle.exact_forms.specs.Factors.{WeightedVector, IsFactorization, Separates, inner_ℚ}
use Rattle.exact_forms.specs.Rational.{Rational}
use Rattle.symmetric_matrix.specs.Symmetric.{Symmetric, entry}
use Rattle.matrix_text.specs.RationalMatrix.{RationalMatrix, rational_entry}
use Rattle.cone_tree_certificate.specs.declared.verdict.Verdict.{Verdict}
use Rattle.cone_tree_certificate.specs.declared.verdict.Verdict.TheVariants.{Factors, Separator}
use Rattle.cone_tree_certificate.specs.Trees.{Lines, TreeProves}
pub use Rattle.cone_tree_certificate.specs.VerdictText.{HasSplit, IsCheckable}
use Rattle.certificate_checker.specs.declared.checked.Checked.TheVariants.{Dimension}
use Rattle.certificate_checker.specs.Checks.{Check, test}
use Rattle.certificate_checker.specs.Terms.{factor_checks}
use Rattle.certificate_checker.specs.Pairing.{value_checks}
use Rattle.certificate_checker.specs.Tree.{tree_checks}

unfoldable pub factors_checks : RationalMatrix → ℕ → List WeightedVector → List Check
factors_checks a n terms = test Dimension (nat_eq n a.size) ∷ factor_checks a terms

unfoldable pub separator_checks : RationalMatrix → Symmetric → Rational → Lines → List Check
separator_checks a w value tree =
    test Dimension (nat_eq w.size a.size) ∷ (value_checks w value a ++ tree_checks w.size (entry w) tree)

abbrev pub checks : RationalMatrix → Verdict → List Check
checks a (Factors n terms) = factors_checks a n terms
checks a (Separator w value tree) = separator_checks a w value tree

pub record IsSeparation (a : RationalMatrix) (w : Symmetric) (value : Rational) (tree : Lines) : Type 0 where
  pub size : w.size ≡ a.size
  pub separates : Separates a.size (entry w) (rational_entry a)
  pub value_is : value ≡ inner_ℚ a.size (entry w) (rational_entry a)
  pub proved : TreeProves a.size (entry w) tree

abbrev pub IsRight : RationalMatrix → Verdict → Type 0
IsRight a (Factors n terms) = (n ≡ a.size) × IsFactorization a.size (rational_entry a) terms
IsRight a (Separator w value tree) = IsSeparation a w value tree
