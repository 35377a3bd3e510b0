use Rattle.search_core.proofs.Parts.{sign_part}
use Rattle.serial_search.proofs.search.settled_sign.Goals as goal

pub settle_sign_part-requires-clause-part : goal.settle_sign_part-requires-clause-part
settle_sign_part-requires-clause-part c = rw c.deref.ensures.value (sign_part c.requires.fair.ends)
