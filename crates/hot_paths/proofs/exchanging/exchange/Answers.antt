use Rattle.hot_paths.proofs.Sizes.{sizes_after}
use Rattle.hot_paths.proofs.exchanging.exchange.Goals as goal

pub returns-in-Some-clause-rows : goal.returns-in-Some-clause-rows
returns-in-Some-clause-rows c =
    (sizes_after c.exchange.result _ _ _ _ c.args.tableau.now c.exchange.new.self (c.requires.rows, c.requires.width) c.exchange.ensures.made
    c.exchange.ensures.kept).0

pub returns-in-Some-clause-width : goal.returns-in-Some-clause-width
returns-in-Some-clause-width c =
    (sizes_after c.exchange.result _ _ _ _ c.args.tableau.now c.exchange.new.self (c.requires.rows, c.requires.width) c.exchange.ensures.made
    c.exchange.ensures.kept).1
