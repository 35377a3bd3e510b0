use Rattle.search_core.proofs.ShownFates.{fate_at}
use Rattle.search_core.proofs.law.fate_is_of_the_path.Goals as goal

pub returns : goal.returns
returns c = fate_at
