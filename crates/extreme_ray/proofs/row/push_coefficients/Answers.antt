use Rattle.extreme_ray.proofs.Making.{row_step, coefficient_made}
use Rattle.extreme_ray.proofs.row.push_coefficients.Goals as goal

pub loop-j-preserved : goal.loop-j-preserved
loop-j-preserved c =
    row_step c.args.tableau.now c.args.row c.args.i c.loop-j.j c.args.coefficients.now.items c.loop-j.coefficients.items c.push.new.self.items _
    c.loop-j.invariant (coefficient_made c.args.tableau.now c.args.row c.args.i c.loop-j.j c.args.first c.entry.result c.requires.first c.entry.ensures)
    c.in_ok-push.ensures.items
