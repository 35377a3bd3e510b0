-- No name stands in the empty list of names.
use Rattle.cp_outside.specs.MemFiles.{faults_by}
use Rattle.cp_outside.proofs.FailedNameLaws.{times_failed-[]}
use Rattle.cp_outside.proofs.mem_files.MemFiles.new.Goals as goal

pub returns-clause-faultless : goal.returns-clause-faultless
unfolding faults_by
returns-clause-faultless c = λ name. rw c.new-2.ensures.items (times_failed-[] name)
