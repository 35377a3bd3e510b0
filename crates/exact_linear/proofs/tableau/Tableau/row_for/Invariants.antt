use Rattle.std.proofs.Common.{◌≡◌, ◌-◌}
use Rattle.exact_linear.specs.Tables.{first_place, rows_of}
use Rattle.exact_linear.specs.Exchange.{takes, first_row}
use Rattle.exact_linear.proofs.tableau.Tableau.row_for.Given as goal

abbrev pub invariant-loop-row : goal.invariant-loop-row
invariant-loop-row l = first_row l.self l.column ≡ first_place (takes l.self l.column) l.row (rows_of l.self - l.row)
