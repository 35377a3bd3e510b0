use Rattle.std.proofs.Common.{length}
use Rattle.search_core.proofs.Keys.{IsListing}
use Rattle.search_core.proofs.attaining.listed.Given as goal

abbrev pub invariant-loop-key : goal.invariant-loop-key
invariant-loop-key l = IsListing l.n l.fn.keys.keys l.list l.rest.keys

abbrev pub decreases-loop-key : goal.decreases-loop-key
decreases-loop-key l = length l.rest.keys
