-- What holds of an answer.
use Rattle.std.specs.Prelude.{◌≡◌, ℕ, ◌<◌, List, map, length, get_or, Option, Some, None, Result, Ok, Err, IfSome, IfOk, IfErr}
use Rattle.std.proofs.Common.{subst, sym}
use Rattle.std.proofs.lemmas.List.{get_or-map}

pub if_ok_map : {V E : Type 0} {P Q : V → Type 0} (r : Result V E) → ((x : V) → P x → Q x) → IfOk r P → IfOk r Q
if_ok_map (Ok x) f h = f x h
if_ok_map (Err e) f h = h

-- what holds of the value before and of the one that is made, holds of what a call leaves
pub kept_or_made : {T V E : Type 0} (r : Result V E) (P : T → Type 0) (old new made : T) → P old → P made → IfOk r (λ _. new ≡ made) → IfErr r (λ _. new ≡ old)
    → P new
kept_or_made (Ok x) P old new made h k e f = subst P (sym e) k
kept_or_made (Err x) P old new made h k e f = subst P (sym f) h

pub if_err_holds : {V E : Type 0} {P : Type 0} (r : Result V E) → P → IfErr r (λ _. P)
if_err_holds (Ok x) p = tt
if_err_holds (Err e) p = p

pub if_some_map : {V : Type 0} {P Q : V → Type 0} (o : Option V) → ((x : V) → P x → Q x) → IfSome o P → IfSome o Q
if_some_map (Some x) f h = f x h
if_some_map None f h = h

pub read_map : {X Y : Type 0} (f : X → Y) (xs : List X) (i : ℕ) (d : X) (e : Y) → i < length xs → get_or (map f xs) i e ≡ f (get_or xs i d)
read_map f xs i d e l = get_or-map f xs i d e l
