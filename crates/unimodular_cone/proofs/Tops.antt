-- The last entry of a list, and two neighbouring entries that are set.
use Rattle.std.specs.Prelude.{◌≡◌, ℕ, ◌<◌, ◌+◌, ◌-◌, List, [], ◌∷◌, ◌++◌, length, take, slice_index_or, slice_set}
use Rattle.std.proofs.Common.{arith, sym, ◌∙◌, ap, length-set}
use Rattle.std.proofs.lemmas.List.{take_all, take_more, append_assoc, set-append_left, set-append_right, take_more_set}

pub on_top : {A : Type 0} (xs : List A) (x : A) (at : ℕ) → at + 1 ≡ length xs → x ≡ slice_index_or xs at x → xs ≡ take at xs ++ x ∷ []
on_top {A} xs x at here is =
    sym (take_all (at + 1) xs (omega arith)) ∙ take_more xs at x (omega arith) ∙ ap (λ (y : A). take at xs ++ y ∷ []) (sym is)

-- an entry of the front part and the first of the back part are set
pub set_parts : {A : Type 0} (all below above : List A) (top : ℕ) (second first : A) → all ≡ below ++ above → length below ≡ top + 1
    → slice_set below top second ++ slice_set above 0 first ≡ slice_set (slice_set all top second) (top + 1) first
set_parts {A} all below above top second first e l =
    let inside : top < length below = omega (arith, l) in
    let zero : top + 1 - (top + 1) ≡ 0 = omega arith in
    ap (λ (k : ℕ). slice_set below top second ++ slice_set above k first) (sym zero)
    ∙ sym (set-append_right (slice_set below top second) above (top + 1) (top + 1) first (length-set below top second ∙ l) (omega arith))
    ∙ ap (λ (s : List A). slice_set s (top + 1) first)
    (sym (set-append_left below above top second inside) ∙ ap (λ (s : List A). slice_set s top second) (sym e))

-- what is below the two, and the two
pub take_pair : {A : Type 0} (old : List A) (top : ℕ) (second first : A) → top + 1 < length old
    → take (top + 2) (slice_set (slice_set old top second) (top + 1) first) ≡ take top old ++ second ∷ first ∷ []
take_pair {A} old top second first inside =
    let two : top + 2 ≡ top + 1 + 1 = omega arith in
    let room : top + 1 < length (slice_set old top second) = omega (arith, length-set old top second) in
    ap (λ (k : ℕ). take k (slice_set (slice_set old top second) (top + 1) first)) two
    ∙ take_more_set (slice_set old top second) (top + 1) first room
    ∙ ap (λ (s : List A). s ++ first ∷ []) (take_more_set old top second (omega arith))
    ∙ append_assoc (take top old) (second ∷ []) (first ∷ [])
