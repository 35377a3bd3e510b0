-- How a call ended that writes the text of an answer to a sink.
--
--     GivesAnswer answers shown e      e is the ending of an answer, and the answer's text is written
--     GivesFront answers shown due     a front of the text of the answer with the ending `due` is written
--     OrWantsMemory answers e text     an answer, or that memory was wanting, with the line `refused memory`
--     EndsByFault answers shown e      the sink failed: e is the ending of one of these, cut off, and a front of its text is written
--     IsStoppedByMemory answers shown e    memory was wanting within an answer: e is its ending, cut off, and a front of its
--                                      text is written
--     IsRefusedMemory shown e          memory was wanting before an answer: that line is written, or nothing
--     IsCutShort answers shown e       one of the last three, the count of the sink's faults as before in the last two
--     EndsBy answers shown e           the ending is that of an answer, whose text is written; or the answer was cut short
--     IsOnly e text, IsNone            there is one answer, with this ending and text; there is none
--     Refuses due e text               an ending that is due, with the line of the refusal by its cause
--
-- `answers e text` says which endings hold, and which text goes with each.
use Rattle.std.specs.Prelude.{◌≡◌, ◌⊎◌, ℕ, List}
use Rattle.cp_outside.specs.Faults.{RoseOrFull}
use Rattle.cpfactor_lines.specs.Sinks.{SinkShown, IsQuiet, IsWritten, IsFrontWritten}
use Rattle.cpfactor_lines.specs.Texts.{memory_text}
use Rattle.cpfactor_top.specs.declared.ended.Ended.{Ended}
use Rattle.cpfactor_top.specs.declared.ended.Cause.TheVariants.{WriteFault, Memory}
use Rattle.cpfactor_top.specs.Causes.{ending, cut_off, refusal_text}

pub record GivesAnswer (answers : Ended → List ℕ → Type 0) (shown : SinkShown) (e : Ended) : Type 0 where
  pub text : List ℕ
  pub answer : answers e text
  pub written : IsWritten shown text
  pub quiet : IsQuiet shown

pub record GivesFront (answers : Ended → List ℕ → Type 0) (shown : SinkShown) (due : Ended) : Type 0 where
  pub text : List ℕ
  pub answer : answers due text
  pub front : IsFrontWritten shown text

abbrev pub OrWantsMemory : (Ended → List ℕ → Type 0) → Ended → List ℕ → Type 0
OrWantsMemory answers e text = answers e text ⊎ ((e ≡ ending Memory) × (text ≡ memory_text))

pub record EndsByFault (answers : Ended → List ℕ → Type 0) (shown : SinkShown) (e : Ended) : Type 0 where
  pub due : Ended
  pub fault : e ≡ cut_off WriteFault due
  pub rose : RoseOrFull shown.faults_before shown.faults_after
  pub front : GivesFront (OrWantsMemory answers) shown due

pub record IsStoppedByMemory (answers : Ended → List ℕ → Type 0) (shown : SinkShown) (e : Ended) : Type 0 where
  pub due : Ended
  pub memory : e ≡ cut_off Memory due
  pub quiet : IsQuiet shown
  pub front : GivesFront answers shown due

pub record IsRefusedMemory (shown : SinkShown) (e : Ended) : Type 0 where
  pub memory : e ≡ ending Memory
  pub quiet : IsQuiet shown
  pub told : IsWritten shown memory_text ⊎ (shown.told_after ≡ shown.told_before)

abbrev pub IsCutShort : (Ended → List ℕ → Type 0) → SinkShown → Ended → Type 0
IsCutShort answers shown e =
    EndsByFault answers shown e ⊎ (IsStoppedByMemory answers shown e ⊎ IsRefusedMemory shown e)

abbrev pub EndsBy : (Ended → List ℕ → Type 0) → SinkShown → Ended → Type 0
EndsBy answers shown e = GivesAnswer answers shown e ⊎ IsCutShort answers shown e

-- ---- answers of one kind

-- the one answer with this ending and this text
abbrev pub IsOnly : Ended → List ℕ → Ended → List ℕ → Type 0
IsOnly e text given written = (given ≡ e) × (written ≡ text)

-- no answer
abbrev pub IsNone : Ended → List ℕ → Type 0
IsNone given written = ⊥

abbrev pub Refuses : (Ended → Type 0) → Ended → List ℕ → Type 0
Refuses due e text = due e × (text ≡ refusal_text e.cause)
