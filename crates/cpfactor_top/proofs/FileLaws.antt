-- What reading a file says, and what is answered of it.
use Rattle.std.specs.Prelude.{◌≡◌, ◌⊎◌, ℕ, ◌<◌, ◌≤◌, List, length, Option, Some, IfSome}
use Rattle.std.proofs.Common.{refl, sym, ◌∙◌, subst, inl, inr, arith}
use Rattle.std.proofs.lemmas.Bool.{cases_Bool, false≢true}
use Rattle.std.proofs.lemmas.Slice.Eq.{bytes_eq-Decides}
use Rattle.std.specs.Str.{bytes_eq}
use Rattle.cp_outside.specs.Faults.{Rose}
use Rattle.cp_outside.specs.Reads.{OnWhole, OnTooLong, OnReadFailed, UnlessReadFailed}
use Rattle.cp_outside.specs.declared.files.ReadEnd.{ReadEnd}
use Rattle.cp_outside.specs.declared.files.ReadEnd.TheVariants.{Whole, TooLong, Failed, OutOfMemory}
use Rattle.cpfactor_top.specs.declared.ended.Ended.{Ended}
use Rattle.cpfactor_top.specs.declared.ended.Cause.TheVariants as cause
use Rattle.cpfactor_top.specs.declared.ended.Cause.TheVariants.{ReadFault}
use Rattle.cpfactor_top.specs.Causes.{ending, EndsWith, HasStatus}
use Rattle.cpfactor_top.specs.Files.{FileKind, FileShown, IsRead, IsFileAnswer, IsFileDue}

-- ---- reading
if_some : (P : List ℕ → Type 0) (o : Option (List ℕ)) (held : List ℕ) → o ≡ Some held → IfSome o P → P held
if_some P o held e h = subst (λ (o : Option (List ℕ)). IfSome o P) e h

pub is_read : (kind : FileKind) (file : FileShown) (end : ReadEnd) (bytes : List ℕ) → OnWhole end (IfSome file.told (λ held. bytes ≡ held))
    → OnWhole end (length bytes ≤ kind.limit)
    → OnTooLong end (IfSome file.told (λ held. kind.limit < length held)) → OnReadFailed end (Rose file.faults_before file.faults_after)
    → IsRead kind file end bytes
is_read kind file Whole bytes whole within long failed = record { within = within; told = λ held e. if_some (λ b. bytes ≡ b) file.told held e whole }
is_read kind file TooLong bytes whole within long failed = λ held e. if_some (λ b. kind.limit < length b) file.told held e long
is_read kind file Failed bytes whole within long failed = failed
is_read kind file OutOfMemory bytes whole within long failed = tt

pub unless_failed : (end : ReadEnd) (P : Type 0) → (end ≡ Failed → ⊥) → UnlessReadFailed end P → P
unless_failed Whole P other h = h
unless_failed TooLong P other h = h
unless_failed Failed P other h = absurd (other refl)
unless_failed OutOfMemory P other h = h

-- what stays at one name and at all others stays at each
pub stays_at_all : (before after : List ℕ → ℕ) (name : List ℕ) → after name ≡ before name → ((other : List ℕ) → (other ≡ name → ⊥) → after other ≡ before other)
    → (other : List ℕ) → after other ≡ before other
stays_at_all before after name here others other = elim (cases_Bool (bytes_eq other name)) [
  | inl same ↦ subst (λ (n : List ℕ). after n ≡ before n) (sym ((bytes_eq-Decides other name).0 same)) here
  | inr differs ↦ others other (λ e. false≢true (sym differs ∙ (bytes_eq-Decides other name).1 e))
]

-- what does not fall at one name and stays at all others falls at none
pub never_falls_at_all : (before after : List ℕ → ℕ) (name : List ℕ) → before name ≤ after name
    → ((other : List ℕ) → (other ≡ name → ⊥) → after other ≡ before other) → (other : List ℕ) → before other ≤ after other
never_falls_at_all before after name here others other = elim (cases_Bool (bytes_eq other name)) [
  | inl same ↦ subst (λ (n : List ℕ). before n ≤ after n) (sym ((bytes_eq-Decides other name).0 same)) here
  | inr differs ↦ (let e : after other ≡ before other = others other (λ e. false≢true (sym differs ∙ (bytes_eq-Decides other name).1 e)) in omega arith)
]

-- what was shown of a file over a stretch of calls that has the other as a part: the file is told alike, and its count of faults
-- before and after is that of a longer stretch
pub record Encloses (file part : FileShown) : Type 0 where
  pub told : part.told ≡ file.told
  pub before : file.faults_before ≤ part.faults_before
  pub after : part.faults_after ≤ file.faults_after

-- ---- what was shown of files over a longer stretch, and of other answers of the bytes
pub file_enclosed : (kind : FileKind) (answers : List ℕ → Ended → List ℕ → Type 0) (file part : FileShown) → Encloses file part → (e : Ended) (text : List ℕ)
    → IsFileAnswer kind answers part e text → IsFileAnswer kind answers file e text
file_enclosed kind answers file part all e text (inl (bytes, read, h)) =
    inl (bytes, record { within = read.within; told = λ held is. read.told held (all.told ∙ is) }, h)
file_enclosed kind answers file part all e text (inr (inl long)) =
    inr (inl (record { long = λ held is. long.long held (all.told ∙ is); ended = long.ended; written = long.written }))
file_enclosed kind answers file part all e text (inr (inr ((rose, ended), written))) =
    let before = all.before in let after = all.after in let more : part.faults_before < part.faults_after = rose in
    inr (inr ((omega arith, ended), written))

pub file_follows : (kind : FileKind) (old new : List ℕ → Ended → List ℕ → Type 0) (file : FileShown)
    → ((bytes : List ℕ) (e : Ended) (text : List ℕ) → old bytes e text → new bytes e text) → (e : Ended) (text : List ℕ) → IsFileAnswer kind old file e text
    → IsFileAnswer kind new file e text
file_follows kind old new file follows e text (inl (bytes, read, h)) = inl (bytes, read, follows bytes e text h)
file_follows kind old new file follows e text (inr other) = inr other

-- ---- answers of which one ending alone is due, but for a read fault; the status of each goes with its cause
pub record IsSettled (answers : Ended → List ℕ → Type 0) (due : Ended → Type 0) : Type 0 where
  pub given : (e g : Ended) (text : List ℕ) → due e → answers g text → EndsWith ReadFault g ⊎ (g ≡ e)
  pub status : (e : Ended) (text : List ℕ) → answers e text → HasStatus e

module _ (kind : FileKind) (answers : List ℕ → Ended → List ℕ → Type 0) (due : List ℕ → Ended → Type 0) (settled : (bytes : List ℕ)
    → IsSettled (answers bytes) (due bytes)) where
  file_status : (file : FileShown) (e : Ended) (text : List ℕ) → IsFileAnswer kind answers file e text → HasStatus e
  file_status file e text (inl (bytes, read, h)) = (settled bytes).status e text h
  file_status file e text (inr (inl long)) = subst HasStatus (sym long.ended) (inl refl)
  file_status file e text (inr (inr unread)) = subst HasStatus (sym unread.0.1) (inl refl)

  -- the bytes that were read are those that are told
  file_given : (file : FileShown) (told : Option (List ℕ)) → file.told ≡ told → (e g : Ended) (text : List ℕ) → IsFileDue kind due told e
      → IsFileAnswer kind answers file g text → EndsWith ReadFault g ⊎ (g ≡ e)
  file_given file told same e g text d h = by d.due_of_held h
    where
      by : (((length d.held ≤ kind.limit) × due d.held e) ⊎ ((kind.limit < length d.held) × (e ≡ ending cause.TooLong))) → IsFileAnswer kind answers file g text
          → EndsWith ReadFault g ⊎ (g ≡ e)
      by (inl (short, held)) (inl (bytes, read, is)) =
          (settled d.held).given e g text held (subst (λ (b : List ℕ). answers b g text) (read.told d.held (same ∙ d.is_told)) is)
      by (inr (long, is)) (inl (bytes, read, h)) =
          absurd (let short : length d.held ≤ kind.limit = subst (λ (b : List ℕ). length b ≤ kind.limit) (read.told d.held (same ∙ d.is_told)) read.within in
          omega (arith, long))
      by (inl (short, held)) (inr (inl t)) = absurd (let long = t.long d.held (same ∙ d.is_told) in omega (arith, short))
      by (inr (long, is)) (inr (inl t)) = inr (t.ended ∙ sym is)
      by _ (inr (inr unread)) = inl (subst (EndsWith ReadFault) (sym unread.0.1) (refl, refl))

  pub file_settled : (file : FileShown) (told : Option (List ℕ)) → file.told ≡ told → IsSettled (IsFileAnswer kind answers file) (IsFileDue kind due told)
  file_settled file told same = record { given = file_given file told same; status = file_status file }
