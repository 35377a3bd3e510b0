use Rattle.std.proofs.Common.{◌∙◌, ap, length}
use Rattle.exact_linear.proofs.Fill.{length-cells}
use Rattle.exact_linear.proofs.tableau.Tableau.fill_last.Goals as goal

pub invariant_of-self : goal.invariant_of-self
invariant_of-self c =
    let size = ap length c.fill_last.ensures ∙ length-cells c.self.inside.rows c.self.inside.width _ in
    record {
      cells = size;
      row = c.self.invariant.row;
      places = c.self.invariant.places;
      positive = c.self.invariant.positive;
      within = c.self.invariant.within;
    }
