use Rattle.std.proofs.Common.{◌-◌, sym, arith, subst}
use Rattle.exact_linear.specs.Tables.{Table}
use Rattle.exact_linear.specs.Columns.{HasCoordinates}
use Rattle.exact_linear.proofs.Results.{if_ok_map}
use Rattle.exact_linear.proofs.Exchanges.{exchange_coordinates}
use Rattle.exact_linear.proofs.tableau.Tableau.exchange.Goals as goal

pub returns-clause-coordinates : goal.returns-clause-coordinates
returns-clause-coordinates c = λ A h.
    if_ok_map c.exchange_at.result (λ _ e. subst (λ (t : Table). HasCoordinates A t) (sym e)
    (exchange_coordinates A c.args.self.now h (c.args.row - 1) (c.args.column - 1) c.exchange_at.ensures.rectangle
    (let a = c.requires.first_row in let b = c.requires.last_row in omega arith) (let a = c.requires.first_column in let b = c.requires.last_column in
    omega arith) c.requires.pivot)) c.exchange_at.ensures.made
