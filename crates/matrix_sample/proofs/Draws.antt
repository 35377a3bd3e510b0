-- Laws of the recurrence and of what it draws.
use Rattle.std.proofs.Common.{◌≡◌, ℕ, zero, suc, ◌+◌, ◌*◌, ◌/◌, ◌%◌, ◌<◌, ◌≤◌, ◌⊎◌, List, length, set, slice_index_or, refl, sym, ap, ◌∙◌, inl, inr, arith}
use Rattle.std.proofs.Common.{get_or-set_same, get_or-set_other}
use Rattle.std.proofs.Math.Nat.{mod-add-mod}
use Rattle.std.proofs.lemmas.Nat.{mod_below}
use Rattle.commutative_ring.proofs.SmallCases.{here_or_before}
use Rattle.matrix_sample.specs.Samples.{number_after, number_at, coordinate_from}

-- the product may be taken modulo 2^64 first
pub number_after_is : (x : ℕ) → (x * 6364136223846793005 % 18446744073709551616 + 1442695040888963407) % 18446744073709551616 ≡ number_after x
unfolding number_after
number_after_is x = mod-add-mod (x * 6364136223846793005) 18446744073709551616 1442695040888963407

pub coordinate_from_is : (x : ℕ) → x / 8589934592 % 3 ≡ coordinate_from x
unfolding coordinate_from
coordinate_from_is x = refl

pub coordinate_from_small : (x : ℕ) → coordinate_from x ≤ 2
unfolding coordinate_from
coordinate_from_small x = let b : x / 8589934592 % 3 < 3 = mod_below (x / 8589934592) 3 (omega arith) in omega arith

pub number_at_none : (first : ℕ) → number_at first 0 ≡ first
unfolding number_at
number_at_none first = refl

-- one step more
pub number_at_more : (first m : ℕ) → number_at first (m + 1) ≡ number_after (number_at first m)
unfolding number_at
number_at_more first m = let e : m + 1 ≡ suc m = omega arith in rw e refl

-- the steps after steps
pub number_at_later : (first m k : ℕ) → number_at (number_at first m) k ≡ number_at first (m + k)
number_at_later first m zero = number_at_none (number_at first m) ∙ (let e : m ≡ m + 0 = omega arith in ap (number_at first) e)
number_at_later first m (suc k) =
    let one : suc k ≡ k + 1 = omega arith in
    let all : m + k + 1 ≡ m + suc k = omega arith in
    ap (number_at (number_at first m)) one ∙ number_at_more (number_at first m) k ∙ ap number_after (number_at_later first m k)
    ∙ sym (number_at_more first (m + k)) ∙ ap (number_at first) all

-- the step of a loop that fills a list from the left
pub filled_more : (xs : List ℕ) (i x : ℕ) (f : ℕ → ℕ) → i < length xs → x ≡ f i → ((p : ℕ) → p < i → slice_index_or xs p 0 ≡ f p)
    → (p : ℕ) → p < i + 1 → slice_index_or (set xs i x) p 0 ≡ f p
filled_more xs i x f l e h p lp = by (here_or_before p i lp)
  where
    by : ((p ≡ i) ⊎ (p < i)) → slice_index_or (set xs i x) p 0 ≡ f p
    by (inl s) = rw s (get_or-set_same xs i x 0 l ∙ e)
    by (inr m) = get_or-set_other xs i p x 0 (omega arith) ∙ h p m
