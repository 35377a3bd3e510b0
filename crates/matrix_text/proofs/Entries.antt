-- Where an entry of a matrix stands.
use Rattle.std.proofs.Common.{◌≡◌, ℕ, ◌+◌, ◌-◌, ◌<◌, ◌≤◌, List, length, get_or, min, max, refl, sym, ap, ◌∙◌, inl, inr, arith}
use Rattle.std.proofs.lemmas.Bool.{cases_lt}
use Rattle.std.proofs.lemmas.List.{get_or_default}
use Rattle.exact_forms.specs.Triangles.{triangle, entry_in}
use Rattle.exact_forms.proofs.Triangles.{entry_before, entry_in_below, entry_in_above}

-- the place of row r and column c, counted from 1
pub place_in_range : (n r c k l : ℕ) → l ≡ triangle n → 1 ≤ r → r ≤ n → 1 ≤ c → c ≤ n → k ≡ triangle (max r c - 1) + (min r c - 1) → k < l
place_in_range n r c k l len low high first last e = omega (arith, entry_before (max r c - 1) (min r c - 1) n (omega arith) (omega arith))

pub entry_sorted : {A : Type 0} (none : A) (xs : List A) (i j : ℕ) → entry_in none xs i j ≡ get_or xs (triangle (max i j) + min i j) none
entry_sorted none xs i j = elim (cases_lt i j) [
  | inl lt ↦ (let a : max i j ≡ j = omega arith in let b : min i j ≡ i = omega arith in rw (a, b) (entry_in_above none xs i j (omega arith)))
  | inr le ↦ (let a : max i j ≡ i = omega arith in let b : min i j ≡ j = omega arith in rw (a, b) (entry_in_below none xs i j le))
]

-- what is read there
pub read_is_entry : {A : Type 0} (none x : A) (xs : List A) (n r c k : ℕ) → length xs ≡ triangle n → 1 ≤ r → r ≤ n → 1 ≤ c → c ≤ n
    → k ≡ triangle (max r c - 1) + (min r c - 1)
    → x ≡ get_or xs k x → x ≡ entry_in none xs (r - 1) (c - 1)
read_is_entry none x xs n r c k len low high first last e is =
    let a : max (r - 1) (c - 1) ≡ max r c - 1 = omega arith in
    let b : min (r - 1) (c - 1) ≡ min r c - 1 = omega arith in
    is ∙ get_or_default xs k x none (rw len (place_in_range n r c k (triangle n) refl low high first last e))
    ∙ ap (λ (m : ℕ). get_or xs m none) e ∙ sym (rw (a, b) at (entry_sorted none xs (r - 1) (c - 1)))
