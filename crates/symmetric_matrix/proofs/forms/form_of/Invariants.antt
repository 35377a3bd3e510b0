use Rattle.std.proofs.Common.{◌≡◌, ◌+◌, ◌≤◌, pos, drop}
use Rattle.exact_forms.specs.Triangles.{triangle}
use Rattle.symmetric_matrix.proofs.FormSteps.{form_products}
use Rattle.symmetric_matrix.proofs.Recipes.{sum_answer}
use Rattle.symmetric_matrix.proofs.forms.form_of.Given as goal

-- what is left answers the same
abbrev pub invariant-loop-entry : goal.invariant-loop-entry
invariant-loop-entry l = record {
  place : l.entry-index ≡ triangle l.row + l.column;
  column : l.column ≤ l.row;
  same : sum_answer (form_products l.x l.lower) (pos 0) ≡ sum_answer (drop l.entry-index (form_products l.x l.lower)) l.sum;
}
