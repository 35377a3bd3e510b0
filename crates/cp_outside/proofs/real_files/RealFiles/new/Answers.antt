-- No name stands in the empty list of names.
use Rattle.cp_outside.proofs.FailedNameLaws.{times_failed-[]}
use Rattle.cp_outside.proofs.real_files.RealFiles.new.Goals as goal

pub returns : goal.returns
returns g c = λ name. rw c.new.ensures.items (times_failed-[] name)
