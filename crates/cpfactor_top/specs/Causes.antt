-- How a command ends, and the line that is written of a refusal.
--
--     status_number status   the exit status
--     proof_status checked   the status where the checker refuses a verdict: ProofRefused, or Overflow where an operation doesn't fit
--     checked_cause checked  the cause that goes with the checker's answer
--     status_of cause        the status that goes with a cause; with Fine it is Done, if nothing more is said
--     ending_with journal cause    the ending with this cause, that status and this journal
--     ending cause           the one without a journal
--     separated_with journal     the ending of a verdict that separates, or of a low value, with this journal
--     separated_ending       the one without a journal
--     EndsWith cause e       the cause of an ending is this one, with the status that goes with it
--     HasStatus e            the status goes with the cause: Done or Separated exactly with Fine
--     IsUndisturbed e        the cause is no fault of the outside, and no want of memory
--     cut_off cause e        the ending e, where writing its text was cut off by this cause; its journal stays
--     ended_after end e      the ending e, after its text was put up to this end
--     refusal_text cause     the line of the refusal by a cause; of Fine and of a failed sink there is none
use Rattle.std.specs.Prelude.{ℕ, ◌≡◌, ◌≢◌, ◌⊎◌, List, [], Option, None}
use Rattle.certificate_checker.specs.declared.checked.Checked.{Checked}
use Rattle.certificate_checker.specs.declared.checked.Checked.TheVariants.{Accepted, Wide}
use Rattle.cp_outside.specs.declared.sink.PutEnd.{PutEnd}
use Rattle.cp_outside.specs.declared.sink.PutEnd.TheVariants as put
use Rattle.perfect_walk.specs.declared.journal.Journal.{Journal}
use Rattle.cpfactor_lines.specs.Texts.{usage_text, too_long_text, fault_text, depth_text, pivots_text, owed_text, read_text, memory_text}
use Rattle.cpfactor_lines.specs.CheckTexts.{proof_fault_text, checked_text}
use Rattle.cpfactor_top.specs.declared.ended.Status.{Status}
use Rattle.cpfactor_top.specs.declared.ended.Status.TheVariants as status
use Rattle.cpfactor_top.specs.declared.ended.Cause.{Cause}
use Rattle.cpfactor_top.specs.declared.ended.Cause.TheVariants.{Fine, Usage, TooLong, MatrixFault, ProofFault, Proof, Depth, Pivots, Overflow, ReadFault, WriteFault, Memory}
use Rattle.cpfactor_top.specs.declared.ended.Ended.{Ended}

abbrev pub status_number : Status → ℕ
status_number status.Done = 0
status_number status.Separated = 10
status_number status.ProofRefused = 11
status_number status.Usage = 2
status_number status.Text = 3
status_number status.Depth = 4
status_number status.Pivots = 5
status_number status.Overflow = 6
status_number status.Read = 7
status_number status.Write = 8
status_number status.Memory = 9

abbrev pub proof_status : Checked → Status
proof_status (Wide op) = status.Overflow
proof_status other = status.ProofRefused

abbrev pub checked_cause : Checked → Cause
checked_cause Accepted = Fine
checked_cause other = Proof other

abbrev pub status_of : Cause → Status
status_of Fine = status.Done
status_of (Usage position) = status.Usage
status_of TooLong = status.Text
status_of (MatrixFault fault) = status.Text
status_of (ProofFault fault) = status.Text
status_of (Proof checked) = proof_status checked
status_of (Depth path) = status.Depth
status_of (Pivots used) = status.Pivots
status_of (Overflow owed) = status.Overflow
status_of ReadFault = status.Read
status_of WriteFault = status.Write
status_of Memory = status.Memory

abbrev pub ending_with : Option Journal → Cause → Ended
ending_with journal cause = record { status = status_of cause; cause = cause; journal = journal }

abbrev pub ending : Cause → Ended
ending cause = ending_with None cause

abbrev pub separated_with : Option Journal → Ended
separated_with journal = record { status = status.Separated; cause = Fine; journal = journal }

abbrev pub separated_ending : Ended
separated_ending = separated_with None

abbrev pub EndsWith : Cause → Ended → Type 0
EndsWith cause e = (e.status ≡ status_of cause) × (e.cause ≡ cause)

abbrev pub HasStatus : Ended → Type 0
HasStatus e = (e.status ≡ status_of e.cause) ⊎ ((e.status ≡ status.Separated) × (e.cause ≡ Fine))

abbrev pub IsUndisturbed : Ended → Type 0
IsUndisturbed e = (e.cause ≢ ReadFault) × (e.cause ≢ WriteFault) × (e.cause ≢ Memory)

abbrev pub cut_off : Cause → Ended → Ended
cut_off cause e = record e { status = status_of cause; cause = cause }

abbrev pub ended_after : PutEnd → Ended → Ended
ended_after put.Done e = e
ended_after put.Failed e = cut_off WriteFault e
ended_after put.OutOfMemory e = cut_off Memory e

abbrev pub refusal_text : Cause → List ℕ
refusal_text Fine = []
refusal_text (Usage position) = usage_text position
refusal_text TooLong = too_long_text
refusal_text (MatrixFault fault) = fault_text fault
refusal_text (ProofFault fault) = proof_fault_text fault
refusal_text (Proof checked) = checked_text checked
refusal_text (Depth path) = depth_text path
refusal_text (Pivots used) = pivots_text used
refusal_text (Overflow owed) = owed_text owed
refusal_text ReadFault = read_text
refusal_text WriteFault = []
refusal_text Memory = memory_text
