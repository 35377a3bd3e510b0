-- What a sink in memory is: the bytes that it took, how often it was asked and failed, and the failures that
-- are planned for it.
--
--     Recording                   these, with the bytes for which memory was taken beforehand
--     next_call recording         the number of the put that comes next, from 1; it stands at the last count
--     keep_of planned call        how many bytes the put of that number keeps, where it is planned to fail
--     next_keep recording         how many bytes the put that comes next keeps, where it is planned to fail
--     piece keep bytes            what a put appends of its bytes, if it keeps so many
--     end_of keep                 how such a put ends, if memory is there
--     faults_after keep faults    the count of faults after it
--     after_put recording bytes   the sink after the next put, if memory is there
--     IsWithinRoom recording      the bytes that were written fit into the room
use Rattle.std.specs.Prelude.{ℕ, ◌+◌, ◌==◌, List, Option, Some, None, option_map, find, take, min, ◌≤◌, ◌++◌, length}
use Rattle.cp_outside.specs.Faults.{last_count}
use Rattle.cp_outside.specs.declared.sink.PutEnd.{PutEnd}
use Rattle.cp_outside.specs.declared.sink.PutEnd.TheVariants.{Done, Failed}
use Rattle.cp_outside.specs.declared.mem_sink.PlannedFailure.{PlannedFailure}

pub record Recording : Type 0 where
  pub written : List ℕ
  pub faults : ℕ
  pub calls : ℕ
  pub room : ℕ
  pub planned : List PlannedFailure

abbrev pub next_call : Recording → ℕ
next_call recording = min (recording.calls + 1) last_count

-- the failure that was planned last for that number, which stands first
unfoldable pub keep_of : List PlannedFailure → ℕ → Option ℕ
keep_of planned call = option_map (λ plan. plan.keep) (find (λ plan. plan.call == call) planned)

abbrev pub next_keep : Recording → Option ℕ
next_keep recording = keep_of recording.planned (next_call recording)

abbrev pub piece : Option ℕ → List ℕ → List ℕ
piece None bytes = bytes
piece (Some keep) bytes = take keep bytes

abbrev pub end_of : Option ℕ → PutEnd
end_of None = Done
end_of (Some keep) = Failed

abbrev pub faults_after : Option ℕ → ℕ → ℕ
faults_after None old = old
faults_after (Some keep) old = min (old + 1) last_count

unfoldable pub after_put : Recording → List ℕ → Recording
after_put recording bytes = record recording {
  written = recording.written ++ piece (next_keep recording) bytes;
  faults = faults_after (next_keep recording) recording.faults;
  calls = next_call recording;
}

abbrev pub IsWithinRoom : Recording → Type 0
IsWithinRoom recording = length recording.written ≤ recording.room
