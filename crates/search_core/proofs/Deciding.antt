-- How a word falls at a cone.
--
-- | low_of_least | whether a cone is low, by its least value |
-- | over_is, serves | by the values of the generators, where all but the new one are over the word |
-- | serves_least | by the least value |
-- | code_not_under | a word that is at most a cone's code is not under its generators' values |
use Rattle.std.specs.Prelude.{◌≡◌, ℕ, zero, suc, ◌<◌, ◌≤◌, ◌+◌, ◌-◌, ◌^◌, ◌↔◌, ◌⊎◌, min, ℤ, pos, negsuc, ◌≤ℤ◌, nat_abs, length}
use Rattle.std.proofs.Common.{arith, sym, ◌∙◌, ap, inl, inr, subst}
use Rattle.std.proofs.lemmas.Int.{ints}
use Rattle.unimodular_cone.specs.declared.Mode.{Mode}
use Rattle.unimodular_cone.specs.declared.Mode.TheVariants.{Sign, Least}
use Rattle.unimodular_cone.specs.Paths.{Path}
use Rattle.unimodular_cone.specs.Cones.{Matrix, value, cone_at}
use Rattle.unimodular_cone.specs.Tree.{IsLowValue}
use Rattle.unimodular_cone.specs.Answer.{IsLeastDiagonal}
use Rattle.unimodular_cone.specs.Shown.{ShownCone, shown_gram}
use Rattle.search_core.specs.Fates.{least_value, code_of, code}
use Rattle.search_core.specs.Judging.{shown_least, shown_code, IsLowShown}
use Rattle.search_core.specs.Lowering.{IsNotUnder, IsOver, ServesAsLeast}
use Rattle.search_core.proofs.LeastValues.{least_upto_le, least_upto_attained, least_value_le, code_not_low}
use Rattle.search_core.proofs.ShownFates.{shown_least_is}
use Rattle.search_core.proofs.Kept.{low_below}

pub low_of_least : (m : Mode) (c : ShownCone) (z : ℤ) → IsLeastDiagonal c.size (shown_gram c) z → IsLowValue m z ↔ IsLowShown m c
low_of_least m c z l = (
  λ h. (l.attained.0, l.attained.1, subst (IsLowValue m) (sym l.attained.2) h),
  λ h. low_below m z (shown_gram c h.0 h.0) (l.least h.0 h.1) h.2,
)

pub serves_least : (m : Mode) (c : ShownCone) (word : ℕ) (z : ℤ) → 1 ≤ c.size → IsLeastDiagonal c.size (shown_gram c) z → ServesAsLeast m c word z
serves_least m c word z some l = record {
  word_falls = ap (λ (y : ℤ). min word (code_of m (length c.path) y)) (shown_least_is c z some l);
  low = low_of_least m c z l;
}

-- ---- a word over 256 in Least
module _ (c : ShownCone) (word : ℕ) (some : 1 ≤ c.size) (fits : word ≤ 2 ^ 64 - 1) (over : 256 < word) where
  positive : (z : ℤ) → IsNotUnder word z → pos 1 ≤ℤ z
  positive z h = omega (arith, ints)

  code_over : (z : ℤ) → IsNotUnder word z → word ≤ code_of Least (length c.path) z
  code_over z h =
      let e : code_of Least (length c.path) z ≡ min (256 + nat_abs z) (2 ^ 64 - 1) = code_not_low (length c.path) z (positive z h) in
      rw e (omega (arith, ints))

  -- the least value is one of a generator
  least_of : (k : ℕ) × (k < c.size) × (shown_gram c k k ≡ shown_least c)
  unfolding shown_least
  least_of = let r = least_upto_attained (c.size - 1) (λ k. shown_gram c k k) in let l : r.0 ≤ c.size - 1 = r.1 in (r.0, omega arith, r.2)

  least_below : (k : ℕ) → k < c.size → shown_least c ≤ℤ shown_gram c k k
  unfolding shown_least
  least_below k l = least_upto_le (c.size - 1) (λ k. shown_gram c k k) k (omega arith)

  not_positive : (z : ℤ) → pos 1 ≤ℤ z → IsLowValue Least z → IsLowValue Sign (pos 0)
  not_positive z h l = absurd (omega (arith, ints))

  pub over_is : ((k : ℕ) → k < c.size → IsNotUnder word (shown_gram c k k)) → IsOver Least c word
  over_is all = record {
    below_code = let r = least_of in code_over (shown_least c) (subst (IsNotUnder word) r.2 (all r.0 r.1));
    not_low = λ h. both (shown_gram c h.0 h.0) (positive _ (all h.0 h.1)) h.2;
  }
    where
      both : (z : ℤ) → pos 1 ≤ℤ z → z ≤ℤ pos 0 → ⊥
      both z a b = omega (arith, ints)

  -- the value of a new generator
  pub serves : (z : ℤ) (l : ℕ) → l < c.size → shown_gram c l l ≡ z
      → ((k : ℕ) → k < c.size → IsNotUnder word (shown_gram c k k) ⊎ (shown_gram c k k ≡ z)) → ServesAsLeast Least c word z
  serves z l range is others = record { word_falls = falls least_of; low = (λ h. (l, range, subst (IsLowValue Least) (sym is) h), back) }
    where
      back : IsLowShown Least c → IsLowValue Least z
      back (k, lk, h) = by (others k lk)
        where
          by : (IsNotUnder word (shown_gram c k k) ⊎ (shown_gram c k k ≡ z)) → IsLowValue Least z
          by (inl u) = absurd (let p : pos 1 ≤ℤ shown_gram c k k = positive (shown_gram c k k) u in omega (arith, ints))
          by (inr e) = subst (IsLowValue Least) e h

      below : shown_least c ≤ℤ z
      below = subst (λ (y : ℤ). shown_least c ≤ℤ y) is (least_below l range)

      falls : ((k : ℕ) × (k < c.size) × (shown_gram c k k ≡ shown_least c)) → min word (code_of Least (length c.path) z) ≡ min word (shown_code Least c)
      falls (k, lk, e) = by (others k lk)
        where
          by : (IsNotUnder word (shown_gram c k k) ⊎ (shown_gram c k k ≡ z)) → min word (code_of Least (length c.path) z) ≡ min word (shown_code Least c)
          by (inr same) = ap (λ (y : ℤ). min word (code_of Least (length c.path) y)) (sym same ∙ e)
          by (inl u) =
              let v : IsNotUnder word (shown_least c) = subst (IsNotUnder word) e u in
              let a : word ≤ code_of Least (length c.path) (shown_least c) = code_over (shown_least c) v in
              let b : word ≤ code_of Least (length c.path) z = code_over z (let d = below in omega (arith, ints)) in
              omega arith

-- ---- a cone's code
code_under : (depth word : ℕ) (z : ℤ) → depth ≤ 200 → 256 < word → word ≤ code_of Least depth z → IsNotUnder word z
code_under depth word (pos (suc z)) short over le = omega (arith, ints)
code_under depth word (pos zero) short over le = absurd (omega arith)
code_under depth word (negsuc z) short over le = absurd (omega arith)

pub code_not_under : (n : ℕ) (q : Matrix) (path : Path) (word : ℕ) → length path ≤ 200 → 256 < word → word ≤ code Least n q path
    → (k : ℕ) → k < n → IsNotUnder word (value n q (cone_at n q path) k)
code_not_under n q path word short over le k l =
    let u : IsNotUnder word (least_value n q (cone_at n q path)) = code_under (length path) word (least_value n q (cone_at n q path)) short over le in
    let below : least_value n q (cone_at n q path) ≤ℤ value n q (cone_at n q path) k = least_value_le n q (cone_at n q path) k l in
    omega (arith, ints)
