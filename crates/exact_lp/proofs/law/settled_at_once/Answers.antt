use Rattle.exact_lp.proofs.Settled.{settled_at_once}
use Rattle.exact_lp.proofs.Laws.{settled_where_nonnegative}
use Rattle.exact_lp.proofs.law.settled_at_once.Goals as goal

pub returns-clause-once : goal.returns-clause-once
returns-clause-once c = settled_at_once

pub returns-clause-table : goal.returns-clause-table
returns-clause-table c = settled_where_nonnegative
