use Rattle.serial_search.proofs.Minima.{value_of_least}
use Rattle.serial_search.proofs.law.value_is_of_least.Goals as goal

pub returns : goal.returns
returns c = value_of_least
