-- Lists of views: what a change of one does to the least given code.
use Rattle.std.proofs.Common.{◌≡◌, ◌≢◌, ℕ, zero, suc, ◌+◌, ◌≤◌, min, List, [], ◌∷◌, ◌++◌, slice_set, refl, sym, ap, le_refl, arith}
use mathlib.Core.Option.{some, some-injective, some-ne-none}
use lib.ListN.{get_elem?}
use Rattle.bound_word.specs.Falling.{View, greatest_word, least_given}
use Rattle.bound_word.proofs.Numbers.{suc_is_not_zero, zero_is_not_suc, suc_same}

pub least_top : (vs : List View) → least_given vs ≤ greatest_word
least_top [] = le_refl greatest_word
least_top (x ∷ xs) = let h = least_top xs in omega arith

pub least_at : (vs : List View) (k : ℕ) (v : View) → get_elem? vs k ≡ some v → least_given vs ≤ v.given
least_at [] k v at = absurd (some-ne-none v (sym at))
least_at (x ∷ xs) zero v at = let e : x.given ≡ v.given = ap (λ (y : View). y.given) (some-injective x v at) in omega arith
least_at (x ∷ xs) (suc k) v at = let h = least_at xs k v at in omega arith

pub least_set : (vs : List View) (k : ℕ) (v w : View) (code : ℕ) → get_elem? vs k ≡ some v → w.given ≡ min v.given code
    → least_given (slice_set vs k w) ≡ min (least_given vs) code
least_set [] k v w code at is = absurd (some-ne-none v (sym at))
least_set (x ∷ xs) zero v w code at is = let e : x.given ≡ v.given = ap (λ (y : View). y.given) (some-injective x v at) in omega arith
least_set (x ∷ xs) (suc k) v w code at is = let h = least_set xs k v w code at is in omega arith

pub least_same : (vs : List View) (k : ℕ) (v w : View) → get_elem? vs k ≡ some v → w.given ≡ v.given → least_given (slice_set vs k w) ≡ least_given vs
least_same [] k v w at is = absurd (some-ne-none v (sym at))
least_same (x ∷ xs) zero v w at is = let e : x.given ≡ v.given = ap (λ (y : View). y.given) (some-injective x v at) in omega arith
least_same (x ∷ xs) (suc k) v w at is = let h = least_same xs k v w at is in omega arith

pub least_snoc : (vs : List View) (w : View) → w.given ≡ greatest_word → least_given (vs ++ w ∷ []) ≡ least_given vs
least_snoc [] w is = omega arith
least_snoc (x ∷ xs) w is = ap (λ n. min x.given n) (least_snoc xs w is)

-- a view that gives no less than another gives nothing from now on
pub least_gone : (vs : List View) (j k : ℕ) (b u w : View) → get_elem? vs j ≡ some b → get_elem? vs k ≡ some u → k ≢ j → b.given ≤ u.given
    → w.given ≡ greatest_word
    → least_given (slice_set vs k w) ≡ least_given vs
least_gone [] j k b u w here there apart le is = absurd (some-ne-none b (sym here))
least_gone (x ∷ xs) zero zero b u w here there apart le is = absurd (apart refl)
least_gone (x ∷ xs) zero (suc k) b u w here there apart le is =
    let e : x.given ≡ b.given = ap (λ (y : View). y.given) (some-injective x b here) in
    let h = least_set xs k u w u.given there in
    gone_below xs k u w there is x.given (omega arith)
  where
    gone_below : (xs : List View) (k : ℕ) (u w : View) → get_elem? xs k ≡ some u → w.given ≡ greatest_word → (a : ℕ) → a ≤ u.given
        → min a (least_given (slice_set xs k w)) ≡ min a (least_given xs)
    gone_below [] k u w there is a le = absurd (some-ne-none u (sym there))
    gone_below (x ∷ xs) zero u w there is a le = let e : x.given ≡ u.given = ap (λ (y : View). y.given) (some-injective x u there) in let t = least_top xs in
        omega arith
    gone_below (x ∷ xs) (suc k) u w there is a le = let h = gone_below xs k u w there is a le in omega arith
least_gone (x ∷ xs) (suc j) zero b u w here there apart le is =
    let e : x.given ≡ u.given = ap (λ (y : View). y.given) (some-injective x u there) in
    let t = least_top xs in
    let h = least_at xs j b here in
    omega arith
least_gone (x ∷ xs) (suc j) (suc k) b u w here there apart le is = ap (λ n. min x.given n) (least_gone xs j k b u w here there (λ e. apart (ap suc e)) le is)

-- all others gave nothing
pub least_alone : (vs : List View) (k : ℕ) (v : View) → get_elem? vs k ≡ some v
    → ((j : ℕ) (u : View) → get_elem? vs j ≡ some u → j ≢ k → u.given ≡ greatest_word) → v.given ≤ greatest_word → least_given vs ≡ v.given
least_alone [] k v at others le = absurd (some-ne-none v (sym at))
least_alone (x ∷ xs) zero v at others le =
    let e : x.given ≡ v.given = ap (λ (y : View). y.given) (some-injective x v at) in
    let none : least_given xs ≡ greatest_word = all_top xs (λ j u there. others (suc j) u there (λ same. suc_is_not_zero j same)) in
    omega arith
  where
    all_top : (xs : List View) → ((j : ℕ) (u : View) → get_elem? xs j ≡ some u → u.given ≡ greatest_word) → least_given xs ≡ greatest_word
    all_top [] each = refl
    all_top (y ∷ ys) each = let h = all_top ys (λ j u there. each (suc j) u there) in let g = each 0 y refl in omega arith
least_alone (x ∷ xs) (suc k) v at others le =
    let g : x.given ≡ greatest_word = others 0 x refl (λ same. zero_is_not_suc k same) in
    let h : least_given xs ≡ v.given = least_alone xs k v at (λ j u there apart. others (suc j) u there (λ same. apart (suc_same j k same))) le in
    omega arith
