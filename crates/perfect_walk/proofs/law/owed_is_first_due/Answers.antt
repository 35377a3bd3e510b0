use Rattle.perfect_walk.proofs.FirstDue.{owed_is_first_due}
use Rattle.perfect_walk.proofs.DueOwes.{first_due_is_owed}
use Rattle.perfect_walk.proofs.law.owed_is_first_due.Goals as goal

pub returns : goal.returns
returns c = record { first = owed_is_first_due; owed = first_due_is_owed }
