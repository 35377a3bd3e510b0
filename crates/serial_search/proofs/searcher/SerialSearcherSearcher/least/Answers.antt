use Rattle.symmetric_matrix.specs.Symmetric.{entry}
use Rattle.search_core.proofs.Mirrors.{entry_symmetric}
use Rattle.serial_search.proofs.Holds.{least_holds}
use Rattle.serial_search.proofs.searcher.SerialSearcherSearcher.least.Goals as goal

pub returns-in-None-clause-holds : goal.returns-in-None-clause-holds
returns-in-None-clause-holds c =
    least_holds c.args.q.now.size (entry c.args.q.now) c.args.limit c.least_within.result (entry_symmetric c.args.q.now.size c.args.q.now)
    c.least_within.ensures
