use Rattle.std.proofs.Common.{◌≡◌, ◌≤◌}
use Rattle.exact_forms.specs.Triangles.{triangle}
use Rattle.exact_linear.proofs.tableau.lower_entry.Given as goal

abbrev pub invariant-loop-before : goal.invariant-loop-before
invariant-loop-before l = record {
  first : l.first ≡ triangle l.before;
  within : l.first ≤ l.k;
}
