use Rattle.std.proofs.Common.{◌∙◌, ap₂, ℕ, ◌*◌, ◌+◌, ◌/◌}
use Rattle.exact_forms.specs.Triangles.{triangle}
use Rattle.exact_forms.proofs.Triangles.{twice_triangle}
use Rattle.exact_linear.proofs.StartTable.{half}
use Rattle.exact_linear.proofs.tableau.units_of.Goals as goal

pub returns-clause-value : goal.returns-clause-value
returns-clause-value c = ap₂ (λ (a : ℕ) (b : ℕ). a * (b + 1) / 2) c.from.ensures c.from-2.ensures
    ∙ half (c.args.n * (c.args.n + 1)) (triangle c.args.n) (twice_triangle c.args.n)
