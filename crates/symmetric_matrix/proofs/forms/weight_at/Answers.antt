use Rattle.std.proofs.Common.{eq-eqb, ne_eqb, ◌∙◌, sym, ap, Bool, if◌then◌else◌}
use Rattle.symmetric_matrix.proofs.FormSteps.{weight_fits}
use Rattle.symmetric_matrix.proofs.forms.weight_at.Goals as goal
use Rattle.symmetric_matrix.proofs.forms.weight_at.Goals.{then-row-column, else-row-column}

pub returns : goal.returns
returns c =
    weight_fits c.args.x.now c.args.row c.args.column c.if-row-column.times c.from.result c.from-2.result c.from.ensures c.from-2.ensures
    (c.requires.vector.small c.args.row c.requires.row) (c.requires.vector.small c.args.column c.requires.column)
    (elim c.if-row-column.branch [
      | then-row-column w ↦ w.times-is ∙ ap (λ (b : Bool). if b then 1 else 2) (sym (eq-eqb c.args.row c.args.column w.if-row-column.true))
      | else-row-column w ↦ w.times-is ∙ ap (λ (b : Bool). if b then 1 else 2) (sym (ne_eqb c.args.row c.args.column w.if-row-column.false))
    ])
