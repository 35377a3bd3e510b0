-- What the files tell and give of a name, and what is answered of a file.
--
--     FileKind                     a file of a command: the most bytes that it may have, and the line where it has more
--     matrix_file                  that of a matrix
--     FileShown, file_shown F old new name   what files with the meanings F tell of a name, and its count of faults, before and
--                                  after a call
--     AreRead kind file bytes      the bytes that were read of a file
--     IsLong kind file             the file has more bytes than it may
--     IsRead kind file end bytes   how reading it ended, and with which bytes
--     IsTooLong kind file e text   it has more bytes than it may: the ending, and its text
--     IsUnread file e              reading it failed, and the ending says so
--     IsFileAnswer kind answers file e text   one of these, or the answer of the bytes that were read
--     IsFileDue kind due told e    which ending is due for a file of which these bytes are told
use Rattle.std.specs.Prelude.{◌≡◌, ◌⊎◌, ℕ, ◌<◌, ◌≤◌, List, length, Option, Some}
use Rattle.cp_outside.specs.Faults.{Rose}
use Rattle.cp_outside.specs.declared.files.Files.{Ghosts}
use Rattle.cp_outside.specs.declared.files.ReadEnd.{ReadEnd}
use Rattle.cp_outside.specs.declared.files.ReadEnd.TheVariants as read
use Rattle.cpfactor_lines.specs.Texts.{too_long_text}
use Rattle.cpfactor_top.specs.declared.ended.Ended.{Ended}
use Rattle.cpfactor_top.specs.declared.ended.Cause.TheVariants.{TooLong, ReadFault}
use Rattle.cpfactor_top.specs.Causes.{ending}
use Rattle.cpfactor_top.specs.Outcomes.{Refuses}

pub record FileKind : Type 0 where
  pub limit : ℕ
  pub too_long : List ℕ

abbrev pub matrix_file : FileKind
matrix_file = record { limit = 1048576; too_long = too_long_text }

pub record FileShown : Type 0 where
  pub told : Option (List ℕ)
  pub faults_before : ℕ
  pub faults_after : ℕ

abbrev pub file_shown : {S : Type 0} → Ghosts S → S → S → List ℕ → FileShown
file_shown F old new name =
    record { told = F.told old name; faults_before = F.faults old name; faults_after = F.faults new name }

-- ---- reading

-- at most as many as the limit, and those that the files tell, where they tell them
pub record AreRead (kind : FileKind) (file : FileShown) (bytes : List ℕ) : Type 0 where
  pub within : length bytes ≤ kind.limit
  pub told : (held : List ℕ) → file.told ≡ Some held → bytes ≡ held

-- the length is known where the files tell the bytes
abbrev pub IsLong : FileKind → FileShown → Type 0
IsLong kind file = (held : List ℕ) → file.told ≡ Some held → kind.limit < length held

abbrev pub IsRead : FileKind → FileShown → ReadEnd → List ℕ → Type 0
IsRead kind file read.Whole bytes = AreRead kind file bytes
IsRead kind file read.TooLong bytes = IsLong kind file
IsRead kind file read.Failed bytes = Rose file.faults_before file.faults_after
IsRead kind file read.OutOfMemory bytes = Unit {0}

-- ---- answers
pub record IsTooLong (kind : FileKind) (file : FileShown) (e : Ended) (text : List ℕ) : Type 0 where
  pub long : IsLong kind file
  pub ended : e ≡ ending TooLong
  pub written : text ≡ kind.too_long

abbrev pub IsUnread : FileShown → Ended → Type 0
IsUnread file e = Rose file.faults_before file.faults_after × (e ≡ ending ReadFault)

abbrev pub IsFileAnswer : FileKind → (List ℕ → Ended → List ℕ → Type 0) → FileShown → Ended → List ℕ → Type 0
IsFileAnswer kind answers file e text =
    ((bytes : List ℕ) × AreRead kind file bytes × answers bytes e text)
    ⊎ (IsTooLong kind file e text ⊎ Refuses (IsUnread file) e text)

pub record IsFileDue (kind : FileKind) (due : List ℕ → Ended → Type 0) (told : Option (List ℕ)) (e : Ended)
    : Type 0 where
  pub held : List ℕ
  pub is_told : told ≡ Some held
  pub due_of_held : ((length held ≤ kind.limit) × due held e) ⊎ ((kind.limit < length held) × (e ≡ ending TooLong))
