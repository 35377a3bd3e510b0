use Rattle.std.proofs.Common.{ap, sym, ◌∙◌, pos, ℕ}
use Rattle.symmetric_matrix.specs.Recipes.{multiplicity}
use Rattle.symmetric_matrix.proofs.TrianglePlaces.{multiplicity_on, multiplicity_beside}
use Rattle.symmetric_matrix.proofs.forms.times_at.Goals as goal

pub returns-then-row-column : goal.returns-then-row-column
returns-then-row-column c =
    ap pos (sym (ap (λ (j : ℕ). multiplicity (record { row = c.args.row; column = j })) (sym c.if-row-column.true) ∙ multiplicity_on c.args.row))

pub returns-else-row-column : goal.returns-else-row-column
returns-else-row-column c = ap pos (sym (multiplicity_beside c.args.row c.args.column c.if-row-column.false))
