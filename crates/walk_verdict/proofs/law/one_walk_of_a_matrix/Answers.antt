use Rattle.perfect_walk.proofs.OneWalk.{one_walk}
use Rattle.walk_verdict.specs.Verdicts.{task_of}
use Rattle.walk_verdict.proofs.law.one_walk_of_a_matrix.Goals as goal

pub returns : goal.returns
returns c = λ a limits x y h k. one_walk (task_of a limits.depth) limits.pivots x h.walk y k.walk
