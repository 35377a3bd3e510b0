use Rattle.search_core.specs.Events.{IsSameSearch}
use Rattle.search_core.proofs.machine_tests.play.Given as goal

abbrev pub invariant-loop-event : goal.invariant-loop-event
invariant-loop-event l = IsSameSearch l.fn.machine l.machine
