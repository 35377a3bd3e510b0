-- How many numbers two lists have.
use Rattle.std.specs.Prelude.{◌≡◌, ◌≢◌, ℕ, ◌<◌, ◌≤◌, List, length, slice_index_or}
use Rattle.std.specs.List.{AllPairs}
use Rattle.std.specs.Cmp.{unsigned_Decides}
use Rattle.std.proofs.Common.{arith, sym, ◌∙◌}
use Rattle.std.proofs.lemmas.Cmp.{nat_eq_equiv}
use Rattle.std.proofs.lemmas.Grind.{get_or_default_zero}
use Rattle.std.proofs.lemmas.Map.Made.{IsDistinct-from_AllPairs, is_member-Decides, length-le_from_is_member}

-- where no two of xs are the same and each is one of ys, there are no more of them
pub no_more : (xs ys : List ℕ) → ((i j : ℕ) → i < j → j < length xs → slice_index_or xs i 0 ≢ slice_index_or xs j 0)
    → ((i : ℕ) → i < length xs → (j : ℕ) × (j < length ys) × (slice_index_or ys j 0 ≡ slice_index_or xs i 0)) → length xs ≤ length ys
no_more xs ys apart each =
    length-le_from_is_member nat_eq_equiv xs ys (IsDistinct-from_AllPairs unsigned_Decides xs pairs)
    (λ q h. (is_member-Decides unsigned_Decides ys q).1 (found q ((is_member-Decides unsigned_Decides xs q).0 h)))
  where
    pairs : AllPairs (λ x y. x ≢ y) xs
    pairs = λ i j d h l e. apart i j h l (sym (get_or_default_zero xs i d (omega arith)) ∙ e ∙ get_or_default_zero xs j d l)

    found : (q : ℕ) → ((k : ℕ) × (k < length xs) × (slice_index_or xs k q ≡ q)) → (k : ℕ) × (k < length ys) × (slice_index_or ys k q ≡ q)
    found q c = let j = each c.0 c.1 in (j.0, j.1, get_or_default_zero ys j.0 q j.1 ∙ j.2 ∙ sym (get_or_default_zero xs c.0 q c.1) ∙ c.2)
