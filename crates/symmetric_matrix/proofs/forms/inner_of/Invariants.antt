use Rattle.std.proofs.Common.{◌≡◌, ◌+◌, ◌≤◌, pos, drop}
use Rattle.exact_forms.specs.Triangles.{triangle}
use Rattle.symmetric_matrix.proofs.InnerSteps.{inner_products}
use Rattle.symmetric_matrix.proofs.Recipes.{sum_answer}
use Rattle.symmetric_matrix.proofs.forms.inner_of.Given as goal

-- what is left answers the same
abbrev pub invariant-loop-k : goal.invariant-loop-k
invariant-loop-k l = record {
  place : l.k ≡ triangle l.row + l.column;
  column : l.column ≤ l.row;
  same : sum_answer (inner_products l.n l.lower l.other) (pos 0) ≡ sum_answer (drop l.k (inner_products l.n l.lower l.other)) l.sum;
}
