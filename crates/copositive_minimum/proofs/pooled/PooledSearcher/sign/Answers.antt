use Rattle.symmetric_matrix.specs.Symmetric.{entry}
use Rattle.search_core.proofs.Mirrors.{entry_symmetric}
use Rattle.serial_search.proofs.Holds.{sign_holds}
use Rattle.copositive_minimum.proofs.pooled.PooledSearcher.sign.Goals as goal

pub returns-clause-holds : goal.returns-clause-holds
returns-clause-holds g c =
    sign_holds c.args.q.now.size (entry c.args.q.now) c.args.limit c.sign_within.result (entry_symmetric c.args.q.now.size c.args.q.now) c.sign_within.ensures
