use Rattle.search_core.proofs.Steps.{run_is_fair}
use Rattle.search_core.proofs.law.every_run_is_fair.Goals as goal

pub returns : goal.returns
returns c = run_is_fair
