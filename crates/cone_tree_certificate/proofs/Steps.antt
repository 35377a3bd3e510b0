-- How the readers' answers follow from those of their parts.
use Rattle.std.proofs.Common.{◌≡◌, ℕ, ◌-◌, ◌<◌, ◌≤◌, ◌+◌, Bool, true, false, cond, List, [], ◌∷◌, ◌++◌, length, take, set, ℤ, Result, Ok, Err, refl, sym, ap}
use Rattle.std.proofs.Common.{◌∙◌}
use Rattle.std.proofs.lemmas.List.{take_more_set, map_push}
use Rattle.text_lines.specs.Lines.{words, TextLine}
use Rattle.text_lines.specs.Readings.{◌>>=◌, Agrees, is_ascii, at_line, in_line, Many, first_line, many}
use Rattle.text_lines.proofs.Counted.{after_many, many_fault}
use Rattle.cone_tree_certificate.specs.declared.fault.VerdictKind.{VerdictKind}
use Rattle.cone_tree_certificate.specs.declared.fault.VerdictKind.TheVariants.{NotAscii}
use Rattle.cone_tree_certificate.specs.declared.fault.VerdictFault.{VerdictFault}
use Rattle.cone_tree_certificate.specs.declared.fault.VerdictFail.{VerdictFail}
use Rattle.cone_tree_certificate.specs.declared.fault.VerdictFail.TheVariants.{Fault, OutOfMemory}
use Rattle.cone_tree_certificate.specs.Words.{signed_row}
use Rattle.cone_tree_certificate.specs.ProofText.{verdict_fault, verdict_line, NumberedRow, numbered_row}
use Rattle.cone_tree_certificate.specs.declared.table.SignedRow.{SignedRow}
use Rattle.cone_tree_certificate.specs.Rows.{seen_row, seen_rows}
use Rattle.cone_tree_certificate.specs.Reading.{RefusedWith, ReadsTo}

-- a refusal of the first part is one of the whole
pub refused_then : {A B : Type 0} (read : Result A VerdictFault) (next : A → Result B VerdictFault) (fail : VerdictFail) → RefusedWith read fail
    → RefusedWith (read >>= next) fail
refused_then read next (Fault f) e = rw e refl
refused_then read next OutOfMemory e = tt

-- what is read along an equation
pub reads_same : {X Y : Type 0} (view : X → Y) (result : Result X VerdictFail) (read other : Result Y VerdictFault) → other ≡ read → ReadsTo view result read
    → ReadsTo view result other
reads_same view (Ok x) read other e h = e ∙ h
reads_same view (Err (Fault f)) read other e h = e ∙ h
reads_same view (Err OutOfMemory) read other e h = tt

same_fault : {A : Type 0} (a b : VerdictFault) → ◌≡◌ {A = Result A VerdictFault} (Err a) (Err b) → a ≡ b
same_fault a b e = cc

-- a line is read as its words are
placed_reads : {X Y : Type 0} (view : X → Y) (result : Result X VerdictFail) (given : Result X VerdictKind) (wanted : Result Y VerdictKind) (k : ℕ)
    (ascii : Bool)
    → Agrees view given wanted → ReadsTo (λ (x : X). x) result (at_line verdict_fault k (cond ascii given (Err NotAscii)))
    → ReadsTo view result (at_line verdict_fault k (cond ascii wanted (Err NotAscii)))
placed_reads view (Ok x) (Ok y) wanted k true g h = rw g (ap (λ z. Ok (view z)) (same y x h))
  where
    same : {A : Type 0} (a b : A) → ◌≡◌ {A = Result A VerdictFault} (Ok a) (Ok b) → a ≡ b
    same a b e = cc
placed_reads view (Ok x) (Err kind) wanted k true g h = absurd cc
placed_reads view (Ok x) given wanted k false g h = absurd cc
placed_reads view (Err (Fault f)) (Ok y) wanted k true g h = absurd cc
placed_reads view (Err (Fault f)) (Err kind) wanted k true g h = rw g (ap (λ e. Err e) (same_fault (verdict_fault kind k) f h))
placed_reads view (Err (Fault f)) given wanted k false g h = ap (λ e. Err e) (same_fault (verdict_fault NotAscii k) f h)
placed_reads view (Err OutOfMemory) given wanted k ascii g h = tt

with_rest : {X Y : Type 0} (view : X → Y) (more : List TextLine) (result : Result X VerdictFail) (read : Result Y VerdictFault)
    → ReadsTo view result read → ReadsTo {Y = Y × List TextLine} (λ (x : X). (view x, more)) result (read >>= λ y. Ok (y, more))
with_rest view more (Ok x) read h = rw h refl
with_rest view more (Err (Fault f)) read h = rw h refl
with_rest view more (Err OutOfMemory) read h = tt

-- the next line is read as its words are
pub next_reads : {X Y : Type 0} (view : X → Y) (read : List (List ℕ)
    → Result Y VerdictKind) (missing : VerdictFault) (result : Result X VerdictFail) (given : Result X VerdictKind) (line : TextLine)
    (left more : List TextLine)
    → left ≡ line ∷ more → Agrees view given (read (words line.bytes))
    → ReadsTo (λ (x : X). x) result (at_line verdict_fault line.number (cond (is_ascii line.bytes) given (Err NotAscii)))
    → ReadsTo {Y = Y × List TextLine} (λ (x : X). (view x, more)) result (first_line (verdict_line read) missing left)
unfolding in_line
next_reads view read missing result given line left more e g h =
    rw e (with_rest view more result (in_line verdict_fault NotAscii read line)
    (placed_reads view result given (read (words line.bytes)) line.number (is_ascii line.bytes) g h))

-- no line is left
pub none_reads : {Y : Type 0} (read : TextLine → Result Y VerdictFault) (missing : VerdictFault) (fail : VerdictFail) (left : List TextLine) → left ≡ []
    → fail ≡ Fault missing → RefusedWith (first_line read missing left) fail
none_reads {Y} read missing fail left e is = rw (e, is) refl

-- an answer that is given as it is
pub gives_same : {Y K : Type 0} (given wanted : Result Y K) → given ≡ wanted → Agrees (λ (y : Y). y) given wanted
gives_same (Ok y) wanted e = sym e
gives_same (Err k) wanted e = sym e

-- a line that cannot be read, among many
pub many_refused : {X : Type 0} (read : TextLine → Result X VerdictFault) (missing : VerdictFault) (front : List X) (k i : ℕ) (left : List TextLine)
    (fail : VerdictFail) → i < k → RefusedWith (first_line read missing left) fail
    → RefusedWith (after_many front (many read missing (k - i) left)) fail
many_refused read missing front k i left (Fault f) lt e = many_fault read missing front k i left f lt e
many_refused read missing front k i left OutOfMemory lt e = tt

pub refused_same : {Y : Type 0} (read other : Result Y VerdictFault) (fail : VerdictFail) → other ≡ read → RefusedWith read fail → RefusedWith other fail
refused_same read other (Fault f) e h = e ∙ h
refused_same read other OutOfMemory e h = tt

pub no_memory : {Y : Type 0} (read : Result Y VerdictFault) (fail : VerdictFail) → fail ≡ OutOfMemory → RefusedWith read fail
no_memory read (Fault f) e = absurd cc
no_memory read OutOfMemory e = tt

-- a row more
pub rows_more : (n : ℕ) (rows : List SignedRow) (i : ℕ) (row : SignedRow) → i < length rows
    → seen_rows n (take (i + 1) (set rows i row)) ≡ seen_rows n (take i rows) ++ seen_row n row ∷ []
rows_more n rows i row lt = rw (take_more_set rows i row lt) (map_push (seen_row n) (take i rows) row)

-- the next row is read as its words are
pub row_refused : (n : ℕ) (missing : VerdictFault) (fail : VerdictFail) (given : Result (List ℤ) VerdictKind) (line : TextLine) (left more : List TextLine)
    → left ≡ line ∷ more → Agrees (λ (row : List ℤ). take n row) given (signed_row n (words line.bytes))
    → RefusedWith (at_line verdict_fault line.number (cond (is_ascii line.bytes) given (Err NotAscii))) fail
    → RefusedWith (first_line (numbered_row n) missing left) fail
unfolding in_line
row_refused n missing fail given line left more e g h =
    let read = placed_reads (λ (row : List ℤ). take n row) (Err fail) given (signed_row n (words line.bytes)) line.number (is_ascii line.bytes) g h in
    rw e (refused_then (numbered_row n line) (λ row. Ok (row, more)) fail
    (refused_then (verdict_line (signed_row n) line) (λ entries. Ok (record { line = line.number; entries = entries })) fail read))

pub row_reads : (n : ℕ) (missing : VerdictFault) (entries : List ℤ) (given : Result (List ℤ) VerdictKind) (line : TextLine) (left more : List TextLine)
    → left ≡ line ∷ more → Agrees (λ (row : List ℤ). take n row) given (signed_row n (words line.bytes))
    → at_line verdict_fault line.number (cond (is_ascii line.bytes) given (Err NotAscii)) ≡ Ok entries
    → first_line (numbered_row n) missing left ≡ Ok (record { line = line.number; entries = take n entries }, more)
unfolding in_line
row_reads n missing entries given line left more e g h =
    let read = placed_reads (λ (row : List ℤ). take n row) (Ok entries) given (signed_row n (words line.bytes)) line.number (is_ascii line.bytes) g h in
    rw (e, read) refl
