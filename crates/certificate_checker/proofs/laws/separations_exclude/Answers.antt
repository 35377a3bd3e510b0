use Rattle.symmetric_matrix.specs.Symmetric.{entry}
use Rattle.matrix_text.specs.RationalMatrix.{rational_entry}
use Rattle.exact_forms.proofs.Factors.{separated_not_factored}
use Rattle.certificate_checker.proofs.laws.separations_exclude.Goals as goal

pub returns : goal.returns
returns c = λ a w value tree right.
    (right.separates.copositive, λ terms factored. separated_not_factored a.size (entry w) (rational_entry a) terms right.separates factored)
