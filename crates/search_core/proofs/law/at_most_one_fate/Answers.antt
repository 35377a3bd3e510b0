use Rattle.search_core.proofs.Laws.{fate_unique}
use Rattle.search_core.proofs.ShownFates.{path_fate}
use Rattle.search_core.proofs.law.at_most_one_fate.Goals as goal

pub returns : goal.returns
returns c = λ m n q d path word f g h k. fate_unique m n q d path word f g (path_fate m n q d path word f h) (path_fate m n q d path word g k)
