-- The first place that passes a test.
use Rattle.std.specs.Prelude.{◌≡◌, ℕ, zero, suc, ◌+◌, ◌-◌, ◌<◌, ◌≤◌, Bool, true, false, Some, None, if◌then◌else◌, ◌⊎◌}
use Rattle.std.proofs.Common.{arith, sym, ◌∙◌, ap, refl, inl, inr}
use Rattle.commutative_ring.proofs.SmallCases.{here_or_after}
use Rattle.exact_linear.specs.Tables.{first_place}

pub record IsFirst (test : ℕ → Bool) (i n k : ℕ) : Type 0 where
  pub passes : test k ≡ true
  pub from : i ≤ k
  pub below : k < i + n
  pub before : (m : ℕ) → i ≤ m → m < k → test m ≡ false

more : (test : ℕ → Bool) (i m k : ℕ) → test i ≡ false → i ≤ m → m < k → ((m : ℕ) → i + 1 ≤ m → m < k → test m ≡ false) → test m ≡ false
more test i m k t l u h = by (here_or_after i m l)
  where
    by : ((m ≡ i) ⊎ (i + 1 ≤ m)) → test m ≡ false
    by (inl e) = ap test e ∙ t
    by (inr a) = h m a u

pub first_found : (test : ℕ → Bool) (i n k : ℕ) → first_place test i n ≡ Some k → IsFirst test i n k
unfolding first_place
first_found test i zero k h = absurd cc
first_found test i (suc n) k h = by (test i) refl h (first_found test (i + 1) n k)
  where
    by : (b : Bool) → test i ≡ b → (if b then Some i else first_place test (i + 1) n) ≡ Some k
        → (first_place test (i + 1) n ≡ Some k → IsFirst test (i + 1) n k) → IsFirst test i (suc n) k
    by true t e rec =
        let s : i ≡ k = cc in
        record { passes = ap test (sym s) ∙ t; from = omega arith; below = omega arith; before = λ m l u. absurd (omega arith) }
    by false t e rec =
        let r = rec e in
        record {
          passes = r.passes;
          from = let a = r.from in omega arith;
          below = let b = r.below in omega arith;
          before = λ m l u. more test i m k t l u r.before;
        }

pub first_none : (test : ℕ → Bool) (i n : ℕ) → first_place test i n ≡ None → (m : ℕ) → i ≤ m → m < i + n → test m ≡ false
unfolding first_place
first_none test i zero h m l u = absurd (omega arith)
first_none test i (suc n) h m l u = by (test i) refl h (first_none test (i + 1) n)
  where
    by : (b : Bool) → test i ≡ b → (if b then Some i else first_place test (i + 1) n) ≡ None
        → (first_place test (i + 1) n ≡ None → (m : ℕ) → i + 1 ≤ m → m < i + 1 + n → test m ≡ false) → test m ≡ false
    by true t e rec = absurd cc
    by false t e rec = more test i m (m + 1) t l (omega arith) (λ k a b. rec e k a (omega arith))

-- ---- a loop over the places
pub place_here : (test : ℕ → Bool) (i n : ℕ) → i < n → test i ≡ true → first_place test i (n - i) ≡ Some i
unfolding first_place
place_here test i n l t = let e : n - i ≡ suc (n - (i + 1)) = omega arith in rw (e, t)

pub place_later : (test : ℕ → Bool) (i n : ℕ) → i < n → test i ≡ false → first_place test i (n - i) ≡ first_place test (i + 1) (n - (i + 1))
unfolding first_place
place_later test i n l t = let e : n - i ≡ suc (n - (i + 1)) = omega arith in rw (e, t)

pub place_nowhere : (test : ℕ → Bool) (i n : ℕ) → n ≤ i → first_place test i (n - i) ≡ None
unfolding first_place
place_nowhere test i n l = let e : n - i ≡ 0 = omega arith in rw e
