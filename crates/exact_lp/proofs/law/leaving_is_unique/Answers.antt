use Rattle.exact_lp.proofs.Leaving.{leaving_is_unique, entering_has_leaving}
use Rattle.exact_lp.proofs.law.leaving_is_unique.Goals as goal

pub returns-clause-unique : goal.returns-clause-unique
returns-clause-unique c = leaving_is_unique

pub returns-clause-entering : goal.returns-clause-entering
returns-clause-entering c = entering_has_leaving
