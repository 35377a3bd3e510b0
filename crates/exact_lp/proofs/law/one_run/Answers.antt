use Rattle.exact_lp.proofs.Laws.{one_run, front_run}
use Rattle.exact_lp.proofs.law.one_run.Goals as goal

pub returns-clause-same : goal.returns-clause-same
returns-clause-same c = one_run

pub returns-clause-front : goal.returns-clause-front
returns-clause-front c = front_run
