use Rattle.search_core.proofs.Steps.{same_by_place}
use Rattle.search_core.proofs.machine.is_same.Goals as goal

pub returns : goal.returns
returns c = rw c.is_eq.ensures (rw c.by_place.ensures (same_by_place c.args.path.now c.args.other.now))
