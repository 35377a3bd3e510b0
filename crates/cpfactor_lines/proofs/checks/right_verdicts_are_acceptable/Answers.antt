use Rattle.cpfactor_lines.proofs.SkippedTraces.{right-acceptable}
use Rattle.cpfactor_lines.proofs.checks.right_verdicts_are_acceptable.Goals as goal

pub returns : goal.returns
returns c = right-acceptable
