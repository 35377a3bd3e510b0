-- A loop that looks for the first place, or gathers the places, that pass a test: what is left answers the same.
use Rattle.std.specs.Prelude.{◌≡◌, ◌≢◌, ℕ, suc, ◌+◌, ◌-◌, ◌<◌, ◌≤◌, Bool, true, false, List, [], ◌∷◌, ◌++◌, length, drop, get_or, Option, Some, None}
use Rattle.std.specs.Prelude.{if◌then◌else◌}
use Rattle.std.proofs.Common.{arith, sym, ◌∙◌, ap, ap₂, refl, append_assoc, append-nil, drop-cons}
use Rattle.exact_linear.specs.Tables.{Table, rows_of, basic_at, first_place, places_where, holds, row_of, from_one, contains}
use Rattle.exact_linear.proofs.Places.{place_here, place_later, place_nowhere}

pub record IsSeeking (whole : Option ℕ) (test : ℕ → Bool) (i n : ℕ) : Type 0 where
  pub same : whole ≡ first_place test i (n - i)

back : (i m : ℕ) → m ≡ (i + m) - i
back i m = omega arith

pub seek_start : (test : ℕ → Bool) (i m : ℕ) → IsSeeking (first_place test i m) test i (i + m)
seek_start test i m = record { same = ap (λ (k : ℕ). first_place test i k) (back i m) }

pub seek_start_zero : (test : ℕ → Bool) (m : ℕ) → IsSeeking (first_place test 0 m) test 0 m
seek_start_zero test m = record { same = ap (λ (k : ℕ). first_place test 0 k) (let e : m ≡ m - 0 = omega arith in e) }

pub seek_found : (whole : Option ℕ) (test : ℕ → Bool) (i n : ℕ) → IsSeeking whole test i n → i < n → test i ≡ true → Some i ≡ whole
seek_found whole test i n S l t = sym (S.same ∙ place_here test i n l t)

pub seek_more : (whole : Option ℕ) (test : ℕ → Bool) (i n : ℕ) → IsSeeking whole test i n → i < n → test i ≡ false → IsSeeking whole test (i + 1) n
seek_more whole test i n S l t = record { same = S.same ∙ place_later test i n l t }

pub seek_done : (whole : Option ℕ) (test : ℕ → Bool) (i n : ℕ) → IsSeeking whole test i n → n ≤ i → None ≡ whole
seek_done whole test i n S l = sym (S.same ∙ place_nowhere test i n l)

-- ---- gathered
pub record IsGathered (whole so_far : List ℕ) (test : ℕ → Bool) (i n : ℕ) : Type 0 where
  pub same : so_far ++ places_where test i (n - i) ≡ whole

pub gather_start : (test : ℕ → Bool) (i m : ℕ) (xs : List ℕ) → xs ≡ [] → IsGathered (places_where test i m) xs test i (i + m)
gather_start test i m xs e =
    record { same = ap (λ (xs : List ℕ). xs ++ places_where test i ((i + m) - i)) e ∙ ap (λ (k : ℕ). places_where test i k) (sym (back i m)) }

one_more : (i n : ℕ) → i < n → n - i ≡ suc (n - (i + 1))
one_more i n l = omega arith

one_place : (xs : List ℕ) (test : ℕ → Bool) (i n : ℕ) (b : Bool) → i < n → test i ≡ b
    → xs ++ places_where test i (n - i) ≡ xs ++ (if b then i ∷ places_where test (i + 1) (n - (i + 1)) else places_where test (i + 1) (n - (i + 1)))
unfolding places_where
one_place xs test i n b l t = ap (λ (k : ℕ). xs ++ places_where test i k) (one_more i n l)
    ∙ ap (λ (b : Bool). xs ++ (if b then i ∷ places_where test (i + 1) (n - (i + 1)) else places_where test (i + 1) (n - (i + 1)))) t

pub gather_take : (whole xs ys : List ℕ) (test : ℕ → Bool) (i n : ℕ) → IsGathered whole xs test i n → i < n → test i ≡ true → ys ≡ xs ++ i ∷ []
    → IsGathered whole ys test (i + 1) n
unfolding places_where
gather_take whole xs ys test i n G l t e = record {
  same =
      ap (λ (ys : List ℕ). ys ++ places_where test (i + 1) (n - (i + 1))) e ∙ append_assoc xs (i ∷ []) (places_where test (i + 1) (n - (i + 1)))
      ∙ sym (one_place xs test i n true l t)
      ∙ G.same;
}

pub gather_skip : (whole xs : List ℕ) (test : ℕ → Bool) (i n : ℕ) → IsGathered whole xs test i n → i < n → test i ≡ false → IsGathered whole xs test (i + 1) n
unfolding places_where
gather_skip whole xs test i n G l t = record {
  same =
      sym (one_place xs test i n false l t)
      ∙ G.same;
}

pub gather_done : (whole xs : List ℕ) (test : ℕ → Bool) (i n : ℕ) → IsGathered whole xs test i n → n ≤ i → xs ≡ whole
unfolding places_where
gather_done whole xs test i n G l = sym (append-nil xs) ∙ ap (λ (k : ℕ). xs ++ places_where test i k) (let e : 0 ≡ n - i = omega arith in e) ∙ G.same

-- ---- the row of a basic column
pub seek_row : (t : Table) (c : ℕ) → IsSeeking (row_of t c) (holds t c) 0 (rows_of t)
unfolding row_of
seek_row t c = seek_start_zero (holds t c) (rows_of t)

pub holds_yes : (t : Table) (c i : ℕ) → basic_at t i ≡ c → holds t c i ≡ true
holds_yes t c i e = grind arith

pub holds_no : (t : Table) (c i : ℕ) → basic_at t i ≢ c → holds t c i ≡ false
holds_no t c i n = grind arith

-- ---- a list looked through
pub record IsLooking (whole : List ℕ) (x k : ℕ) : Type 0 where
  pub same : contains whole x ≡ contains (drop k whole) x

pub drop_at : (cs : List ℕ) (k c : ℕ) → k < length cs → c ≡ get_or cs k 0 → drop k cs ≡ c ∷ drop (k + 1) cs
drop_at cs k c l e = drop-cons cs k 0 l ∙ ap₂ (λ (c : ℕ) (n : ℕ). c ∷ drop n cs) (sym e) (let n : suc k ≡ k + 1 = omega arith in n)

-- ---- counted from 1
pub from_one_some : (o : Option ℕ) (r : ℕ) → Some r ≡ from_one o → (1 ≤ r) × (Some (r - 1) ≡ o)
from_one_some None r e = absurd cc
from_one_some (Some i) r e =
    let s : r ≡ i + 1 = cc in ((omega arith), ap (λ (k : ℕ). Some k) (let b : r - 1 ≡ i = omega arith in b))

pub from_one_none : (o : Option ℕ) → None ≡ from_one o → None ≡ o
from_one_none None e = refl
from_one_none (Some i) e = absurd cc

pub back_one : (k : ℕ) → k + 1 - 1 ≡ k
back_one k = omega arith
