use Rattle.search_core.proofs.Parts.{ends_of}
use Rattle.search_core.proofs.settling.settle_least_part.Goals as goal

pub end_of-requires-clause-ends : goal.end_of-requires-clause-ends
end_of-requires-clause-ends c = ends_of c.requires.part
