use Rattle.search_core.proofs.Irrelevant.{whole_part}
use Rattle.search_core.proofs.settling.settle_least.Goals as goal

pub settle_least_part-requires-clause-part : goal.settle_least_part-requires-clause-part
settle_least_part-requires-clause-part c = whole_part _ _ _ _ _ _ c.requires.fair
