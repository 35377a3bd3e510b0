use Rattle.symmetric_matrix.specs.Symmetric.{entry}
use Rattle.search_core.proofs.Mirrors.{entry_symmetric}
use Rattle.serial_search.proofs.Minima.{value_holds}
use Rattle.serial_search.proofs.values.least_value_in.Goals as goal

pub returns-in-None-clause-holds : goal.returns-in-None-clause-holds
returns-in-None-clause-holds c =
    value_holds c.args.q.now.size (entry c.args.q.now) c.args.limit c.value_within.result
    (entry_symmetric c.args.q.now.size c.args.q.now) c.value_within.ensures.answer
