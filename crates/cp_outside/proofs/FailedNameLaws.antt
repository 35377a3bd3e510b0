-- One more name among the names of the reads that failed.
use Rattle.std.proofs.Common.{◌≡◌, ◌≢◌, ℕ, ◌+◌, Bool, true, false, cond, List, [], ◌∷◌, ◌++◌, String, string_bytes, refl, sym, ◌∙◌, arith}
use Rattle.std.proofs.lemmas.Grind.{common_steps}
use Rattle.std.proofs.lemmas.Bool.{false_from_ne_true}
use Rattle.std.proofs.lemmas.Slice.Eq.{bytes_eq-Decides}
use Rattle.std.specs.Global.{Global}
use Rattle.std.specs.List.{count_by}
use Rattle.std.specs.Str.{bytes_eq}
use Rattle.cp_outside.specs.FailedNames.{times_failed}

pub count_by-push : {X : Type 0} (p : X → Bool) (xs : List X) (y : X) → count_by p (xs ++ y ∷ []) ≡ count_by p xs + cond (p y) 1 0
count_by-push p xs y = grind (arith, common_steps)

pub times_failed-once_more : (failed : List (String Global)) (copy : String Global) (name : List ℕ) → string_bytes copy ≡ name
    → times_failed (failed ++ copy ∷ []) name ≡ times_failed failed name + 1
unfolding times_failed
times_failed-once_more failed copy name same =
    let is : bytes_eq name (string_bytes copy) ≡ true = (bytes_eq-Decides name (string_bytes copy)).1 (sym same) in
    rw (count_by-push (λ (one : String Global). bytes_eq name (string_bytes one)) failed copy, is) refl

pub times_failed-others_stay : (failed : List (String Global)) (copy : String Global) (name other : List ℕ) → string_bytes copy ≡ name → other ≢ name
    → times_failed (failed ++ copy ∷ []) other ≡ times_failed failed other
unfolding times_failed
times_failed-others_stay failed copy name other same differs =
    let is : bytes_eq other (string_bytes copy) ≡ false =
    false_from_ne_true _ (λ t. differs ((bytes_eq-Decides other (string_bytes copy)).0 t ∙ same)) in
    rw (count_by-push (λ (one : String Global). bytes_eq other (string_bytes one)) failed copy, is) (omega arith)

-- no names
pub times_failed-[] : (name : List ℕ) → times_failed [] name ≡ 0
unfolding times_failed
times_failed-[] name = refl

pub ruleset one_more_name = (times_failed-once_more, times_failed-others_stay)
