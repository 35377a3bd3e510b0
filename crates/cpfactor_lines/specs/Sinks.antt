-- What a sink shows before and after a call, and how a text was put into it.
--
--     SinkShown                     what a sink tells, and its count of faults, before and after a call
--     sink_shown K old new          this, of a sink with the meanings K
--     IsQuiet shown                 the count of faults is what it was
--     IsWritten shown text          the text stands behind what the sink told before
--     IsFrontWritten shown text     a front of the text does, maybe none or all of it
--     IsPut text shown end          a text was put in one or more pieces, up to this end
use Rattle.std.specs.Prelude.{◌≡◌, ℕ, List, Option}
use Rattle.cp_outside.specs.Faults.{RoseOrFull}
use Rattle.cp_outside.specs.Puts.{appended, AppendsFront}
use Rattle.cp_outside.specs.declared.sink.Sink.{Ghosts}
use Rattle.cp_outside.specs.declared.sink.PutEnd.{PutEnd}
use Rattle.cp_outside.specs.declared.sink.PutEnd.TheVariants.{Done, Failed, OutOfMemory}

pub record SinkShown : Type 0 where
  pub told_before : Option (List ℕ)
  pub told_after : Option (List ℕ)
  pub faults_before : ℕ
  pub faults_after : ℕ

abbrev pub sink_shown : {S : Type 0} → Ghosts S → S → S → SinkShown
sink_shown K old new = record {
  told_before = K.told old;
  told_after = K.told new;
  faults_before = K.faults old;
  faults_after = K.faults new;
}

abbrev pub IsQuiet : SinkShown → Type 0
IsQuiet shown = shown.faults_after ≡ shown.faults_before

abbrev pub IsWritten : SinkShown → List ℕ → Type 0
IsWritten shown text = shown.told_after ≡ appended shown.told_before text

abbrev pub IsFrontWritten : SinkShown → List ℕ → Type 0
IsFrontWritten shown text = AppendsFront shown.told_before shown.told_after text

-- the text was written, or a front of it, after which the sink failed or memory was wanting
abbrev pub IsPut : List ℕ → SinkShown → PutEnd → Type 0
IsPut text shown Done = IsQuiet shown × IsWritten shown text
IsPut text shown Failed = RoseOrFull shown.faults_before shown.faults_after × IsFrontWritten shown text
IsPut text shown OutOfMemory = IsQuiet shown × IsFrontWritten shown text
