-- Lists that are copied item by item.
use Rattle.std.specs.Prelude.{◌≡◌, ℕ, ◌+◌, ◌<◌, List, [], ◌∷◌, ◌++◌, map, length, take, Some, slice_get, get_or}
use Rattle.std.proofs.Common.{sym, ◌∙◌, ap, refl, append_assoc}
use Rattle.std.proofs.lemmas.List.{map-append, take_more}
use Rattle.std.proofs.lemmas.Option.{get_or_from_slice_get}

pub one_more : {A B : Type 0} (f : A → B) (xs : List A) (k : ℕ) (x : A) (before now after : List B) → k < length xs → slice_get xs k ≡ Some x
    → now ≡ before ++ map f (take k xs) → after ≡ now ++ f x ∷ [] → after ≡ before ++ map f (take (k + 1) xs)
one_more f xs k x before now after l h is next =
    next ∙ ap (λ ys. ys ++ f x ∷ []) is ∙ append_assoc before (map f (take k xs)) (f x ∷ [])
    ∙ ap (λ ys. before ++ ys)
    (sym (ap (λ ys. map f ys) (take_more xs k x l ∙ ap (λ y. take k xs ++ y ∷ []) (get_or_from_slice_get xs k x x h)) ∙ map-append f (take k xs) (x ∷ [])))
