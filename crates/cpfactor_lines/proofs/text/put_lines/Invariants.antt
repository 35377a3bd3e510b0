use Rattle.std.proofs.Common.{length}
use Rattle.cpfactor_lines.proofs.Fronts.{IsPutSoFar}
use Rattle.cpfactor_lines.proofs.text.put_lines.Given as goal

abbrev pub invariant-loop-line : goal.invariant-loop-line
invariant-loop-line g l = IsPutSoFar l.text l.rest (g.K.Sink.told l.fn.sink) (g.K.Sink.told l.sink) (g.K.Sink.faults l.fn.sink) (g.K.Sink.faults l.sink)

abbrev pub decreases-loop-line : goal.decreases-loop-line
decreases-loop-line g l = length l.rest
