use Rattle.std.specs.Prelude.{◌≡◌, ◌≤◌, length, take}
use Rattle.search_core.specs.Machine.{in_hands}
use Rattle.search_core.proofs.machine.held_in.Given as goal

abbrev pub invariant-loop-hand : goal.invariant-loop-hand
invariant-loop-hand l = (l.held ≡ length (in_hands (take l.hand-index l.hands))) × (l.held ≤ l.hand-index)
