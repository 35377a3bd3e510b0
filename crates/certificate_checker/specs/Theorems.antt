-- What an accepted verdict proves, and which verdicts are accepted.
--
--     AcceptedIsRight      a verdict none of whose checks fails is right
--     SeparationsExclude   where a separation of A is right, W is copositive, and no terms factor A
--     IsOrdered verdict    the vectors of the terms increase; of a separation nothing is asked
--     IsNoneOrWide refusal no check fails, or the first that does is an operation whose result does not fit
--     RightIsNotRefused    that is so of the checks of a right verdict whose vectors increase
use Rattle.std.specs.Prelude.{◌≡◌, true, List, Option, Some, None}
use Rattle.exact_forms.specs.Copositive.{IsCopositive}
use Rattle.exact_forms.specs.Factors.{WeightedVector, IsFactorization}
use Rattle.exact_forms.specs.PositiveTerms.{IsInOrder}
use Rattle.exact_forms.specs.Rational.{Rational}
use Rattle.symmetric_matrix.specs.Operations.{is_owed}
use Rattle.symmetric_matrix.specs.Symmetric.{Symmetric, entry}
use Rattle.matrix_text.specs.RationalMatrix.{RationalMatrix, rational_entry}
use Rattle.cone_tree_certificate.specs.declared.verdict.Verdict.{Verdict}
use Rattle.cone_tree_certificate.specs.declared.verdict.Verdict.TheVariants.{Factors, Separator}
use Rattle.cone_tree_certificate.specs.Trees.{Lines}
use Rattle.certificate_checker.specs.declared.checked.Checked.{Checked}
use Rattle.certificate_checker.specs.declared.checked.Checked.TheVariants.{Wide}
use Rattle.certificate_checker.specs.Checks.{first_refusal}
use Rattle.certificate_checker.specs.Verdicts.{checks, IsSeparation, IsRight}
use Rattle.cone_tree_certificate.specs.VerdictText.{IsCheckable}

abbrev pub AcceptedIsRight : Type 0
AcceptedIsRight = (a : RationalMatrix) (verdict : Verdict) → IsCheckable verdict
    → first_refusal (checks a verdict) ≡ None → IsRight a verdict

abbrev pub SeparationsExclude : Type 0
SeparationsExclude = (a : RationalMatrix) (w : Symmetric) (value : Rational) (tree : Lines)
    → IsSeparation a w value tree
    → IsCopositive a.size (entry w)
    × ((terms : List WeightedVector) → ¬ IsFactorization a.size (rational_entry a) terms)

abbrev pub IsOrdered : Verdict → Type 0
IsOrdered (Factors n terms) = IsInOrder terms
IsOrdered (Separator w value tree) = Unit {0}

abbrev pub IsNoneOrWide : Option Checked → Type 0
IsNoneOrWide None = Unit {0}
IsNoneOrWide (Some (Wide op)) = is_owed op ≡ true
IsNoneOrWide (Some other) = ⊥

abbrev pub RightIsNotRefused : Type 0
RightIsNotRefused =
    (a : RationalMatrix) (verdict : Verdict) → IsRight a verdict → IsOrdered verdict
    → IsNoneOrWide (first_refusal (checks a verdict))
