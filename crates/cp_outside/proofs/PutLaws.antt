-- What several puts in turn leave of what a sink tells.
use Rattle.std.proofs.Common.{◌≡◌, ℕ, ◌+◌, min, List, [], ◌++◌, length, take, Option, Some, None, refl, sym, ap, append_assoc, arith}
use Rattle.std.proofs.lemmas.List.{append-nil, take-append-le, take_min, take_all}
use Rattle.std.proofs.Math.Seq.{take-append-add}
use Rattle.cp_outside.specs.Puts.{appended, AppendsFront}
use Rattle.cp_outside.specs.Recordings.{piece}

pub appended-Some : (written bytes : List ℕ) → appended (Some written) bytes ≡ Some (written ++ bytes)
unfolding appended
appended-Some written bytes = refl

pub appended-None : (bytes : List ℕ) → appended None bytes ≡ None
unfolding appended
appended-None bytes = refl

pub appended-[] : (told : Option (List ℕ)) → appended told [] ≡ told
unfolding appended
appended-[] None = refl
appended-[] (Some written) = ap Some (append-nil written)

-- one piece and then another are both joined
pub appended-append : (told : Option (List ℕ)) (front rest : List ℕ) → appended (appended told front) rest ≡ appended told (front ++ rest)
unfolding appended
appended-append None front rest = refl
appended-append (Some written) front rest = ap Some (append_assoc written front rest)

-- nothing was written yet
pub AppendsFront-none : (old : Option (List ℕ)) (bytes : List ℕ) → AppendsFront old old bytes
AppendsFront-none old bytes = record { kept = 0; appends = sym (appended-[] old) }

-- all was written
pub AppendsFront-all : (old new : Option (List ℕ)) (bytes : List ℕ) → new ≡ appended old bytes → AppendsFront old new bytes
AppendsFront-all old new bytes whole =
    record { kept = length bytes; appends = rw (take_all (length bytes) bytes (omega arith)) whole }

-- a front of what was to be written is a front of what was to follow it too
pub AppendsFront-more : (old new : Option (List ℕ)) (front rest : List ℕ) → AppendsFront old new front → AppendsFront old new (front ++ rest)
AppendsFront-more old new front rest part =
    record {
      kept = min part.kept (length front);
      appends =
          rw (take-append-le (min part.kept (length front)) front rest (omega arith), take_min part.kept front)
          part.appends;
    }

-- a front behind what was written is a front of both
pub AppendsFront-after : (old between new : Option (List ℕ)) (front rest : List ℕ) → between ≡ appended old front → AppendsFront between new rest
    → AppendsFront old new (front ++ rest)
AppendsFront-after old between new front rest written part =
    record {
      kept = length front + part.kept;
      appends =
          rw (take-append-add front rest part.kept, ← appended-append old front (take part.kept rest), ← written)
          part.appends;
    }

-- a put that is planned appends a front
pub AppendsFront-piece : (keep : Option ℕ) (written bytes : List ℕ) → AppendsFront (Some written) (Some (written ++ piece keep bytes)) bytes
AppendsFront-piece None written bytes = AppendsFront-all _ _ bytes (sym (appended-Some written bytes))
AppendsFront-piece (Some keep) written bytes =
    record { kept = keep; appends = sym (appended-Some written (take keep bytes)) }

-- where nothing is told, nothing is said
pub AppendsFront-untold : (bytes : List ℕ) → AppendsFront None None bytes
AppendsFront-untold bytes = AppendsFront-all _ _ bytes (sym (appended-None bytes))

pub ruleset puts = (appended-Some, appended-None, AppendsFront-piece, AppendsFront-untold)
