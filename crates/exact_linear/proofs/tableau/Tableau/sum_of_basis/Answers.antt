use Rattle.std.proofs.Common.{sym, subst}
use Rattle.exact_linear.specs.Tables.{Table}
use Rattle.exact_linear.specs.Columns.{HasCoordinates, with_sum_of}
use Rattle.exact_linear.proofs.Summed.{summed_coordinates}
use Rattle.exact_linear.proofs.tableau.Tableau.sum_of_basis.Goals as goal

pub returns-clause-coordinates : goal.returns-clause-coordinates
returns-clause-coordinates c =
    λ A h. subst (λ (t : Table). HasCoordinates (with_sum_of A c.args.self.now) t) (sym c.fill_last.ensures.sum)
    (summed_coordinates A c.args.self.now h c.requires)
