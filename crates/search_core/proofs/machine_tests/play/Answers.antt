use Rattle.search_core.proofs.Steps.{same_search}
use Rattle.search_core.proofs.machine_tests.play.Goals as goal

pub returns-in-OutOfMemory : goal.returns-in-OutOfMemory
returns-in-OutOfMemory c = same_search _ _ _ c.loop-event.invariant c.step.ensures.search

pub loop-event-preserved : goal.loop-event-preserved
loop-event-preserved c = same_search _ _ _ c.loop-event.invariant c.step.ensures.search
