-- What files in memory tell, and how often each name was asked for and not there.
--
--     told_by files name      the bytes that were added last under this name
--     faults_by files name    how many reads of this name failed
use Rattle.std.specs.Prelude.{ℕ, List, Option, option_map}
use Rattle.std.specs.BTreeMap.{get_by_text}
use Rattle.cp_outside.specs.FailedNames.{times_failed}
use Rattle.cp_outside.specs.declared.mem_files.MemFiles.{MemFiles}

unfoldable pub told_by : MemFiles → List ℕ → Option (List ℕ)
told_by files name = option_map (λ bytes. bytes.items) (get_by_text files.files name)

unfoldable pub faults_by : MemFiles → List ℕ → ℕ
faults_by files name = times_failed files.failed.items name
