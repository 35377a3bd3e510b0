use Rattle.search_core.proofs.ShownFates.{undecided_has_pair}
use Rattle.search_core.proofs.judging.undecided_fate.Goals as goal

pub unreachable-requires : goal.unreachable-requires
unreachable-requires g c = undecided_has_pair _ _ _ c.requires.fits.some c.requires.below_code c.requires.undecided c.in_default.ensures
