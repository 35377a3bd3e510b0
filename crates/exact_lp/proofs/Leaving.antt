-- The leaving column: there is one, and no two candidates have the same list of ratios.
use Rattle.std.specs.Prelude.{◌≡◌, ◌≢◌, ℕ, zero, suc, ◌<◌, ◌≤◌, pos, negsuc, Bool, true, false, ◌⊎◌, [], ◌∷◌}
use Rattle.std.proofs.Common.{arith, sym, ◌∙◌, ap, refl, subst, inl, inr}
use Rattle.exact_forms.proofs.RationalSums.{sum_ℚ_same, mul-sum_ℚ}
use Rattle.commutative_ring.proofs.Ring.{num, ◌⊕◌, ◌⊗◌, neg, v0, v1, v2}
use Rattle.commutative_ring.proofs.SmallCases.{below_or_not, last_or_before, same_or_not, true_or_false}
use Rattle.exact_forms.specs.Rational.{Rational, whole, neg_ℚ, ◌+ℚ◌, ◌*ℚ◌, ◌/ℚ◌}
use Rattle.exact_forms.specs.Sums.{sum_ℚ}
use Rattle.exact_forms.proofs.Rational.{one_mul_ℚ, zero_mul_ℚ}
use Rattle.exact_forms.proofs.Slacks.{replaced_here}
use Rattle.exact_forms.proofs.Rational.{ring_ℚ, div-mul}
use Rattle.exact_forms.specs.Signs.{IsNonnegative}
use Rattle.exact_forms.specs.Lexicographic.{IsLexBelow}
use Rattle.exact_lp.specs.Program.{Program, IsProgram, IsEntering, MayLeave, IsLeaving, IsState, ratios, IsNonnegativeProgram}
use Rattle.exact_forms.proofs.Signs.{Sign, above, none, below, sign_of, positive_not_zero, positive_nonneg, nonneg_product, nonneg_zero, not_both, total_nonneg}
use Rattle.exact_forms.proofs.Signs.{negative_opposite, negative_not_nonneg}
use Rattle.exact_forms.proofs.Lexicographic.{LexSign, lex_above, lex_none, lex_below_zero, lex_sign, lex_same, lex_below, lex_difference, lex_add, lex_not_both}
use Rattle.exact_forms.proofs.Coordinates.{mark_off, basis_mark, read_off, coordinates_same}
use Rattle.exact_lp.specs.Theorems.{IsOnlyLeaving, LeavingIsUnique, EnteringHasLeaving}
use Rattle.exact_lp.proofs.Outcome.{order_suc}

-- ---- of two different lists one is below the other
pub lex_cases : (n : ℕ) (f g : ℕ → Rational) → (IsLexBelow n f g) ⊎ (((k : ℕ) → k < n → f k ≡ g k) ⊎ (IsLexBelow n g f))
lex_cases n f g = by (lex_sign n (λ k. g k +ℚ neg_ℚ (f k)))
  where
    by : LexSign n (λ k. g k +ℚ neg_ℚ (f k)) → (IsLexBelow n f g) ⊎ (((k : ℕ) → k < n → f k ≡ g k) ⊎ (IsLexBelow n g f))
    by (lex_above p) = inl (lex_below n f g p)
    by (lex_none h) =
        inr (inl (λ k l. ring_ℚ (f k ∷ []) v0 (num (pos 0) ⊕ v0) refl ∙ ap (λ x. x +ℚ f k) (sym (h k l))
        ∙ ring_ℚ (g k ∷ f k ∷ []) ((v0 ⊕ neg v1) ⊕ v1) v0 refl))
    by (lex_below_zero p) = inr (inr (lex_below n g f (lex_same n _ _ (λ k l. ring_ℚ (f k ∷ g k ∷ []) (neg (v1 ⊕ neg v0)) (v0 ⊕ neg v1) refl) p)))

pub lex_transitive : (n : ℕ) (f g h : ℕ → Rational) → IsLexBelow n f g → IsLexBelow n g h → IsLexBelow n f h
lex_transitive n f g h p q =
    lex_below n f h (lex_same n _ _ (λ k l. ring_ℚ (f k ∷ g k ∷ h k ∷ []) ((v1 ⊕ neg v0) ⊕ (v2 ⊕ neg v1)) (v2 ⊕ neg v0) refl)
    (lex_add n _ _ (lex_difference n f g p) (lex_difference n g h q)))

pub lex_asymmetric : (n : ℕ) (f g : ℕ → Rational) → IsLexBelow n f g → IsLexBelow n g f → ⊥
lex_asymmetric n f g p q =
    lex_not_both n (λ k. g k +ℚ neg_ℚ (f k)) (lex_difference n f g p)
    (lex_same n _ _ (λ k l. ring_ℚ (f k ∷ g k ∷ []) (v0 ⊕ neg v1) (neg (v1 ⊕ neg v0)) refl) (lex_difference n g f q))

-- the leaving column is unique
leaving_unique : (P : Program) (B : ℕ → Bool) (coord : ℕ → ℕ → Rational) (e l m : ℕ) → IsLeaving P B coord e l → IsLeaving P B coord e m → l ≡ m
leaving_unique P B coord e l m L M = by (same_or_not l m)
  where
    by : ((l ≡ m) ⊎ (l ≢ m)) → l ≡ m
    by (inl s) = s
    by (inr n) = absurd (lex_asymmetric (suc P.rank) _ _ (L.least m M.candidate (λ s. n (sym s))) (M.least l L.candidate n))

-- a first candidate that holds below n, or none
pub search_below : (D N : ℕ → Type 0) → ((k : ℕ) → (D k) ⊎ (N k)) → (n : ℕ) → ((k : ℕ) × (k < n) × (D k)) ⊎ ((k : ℕ) → k < n → N k)
search_below D N test zero = inr (λ k l. absurd (omega arith))
search_below D N test (suc n) = by (search_below D N test n) (test n)
  where
    at_last : ((k : ℕ) → k < n → N k) → N n → (k : ℕ) → ((k ≡ n) ⊎ (k < n)) → N k
    at_last h e k (inl s) = subst N (sym s) e
    at_last h e k (inr l) = h k l

    by : (((k : ℕ) × (k < n) × (D k)) ⊎ ((k : ℕ) → k < n → N k)) → ((D n) ⊎ (N n)) → ((k : ℕ) × (k < suc n) × (D k)) ⊎ ((k : ℕ) → k < suc n → N k)
    by (inl f) t = inl (f.0, (let a = f.1 in omega arith), f.2)
    by (inr h) (inl d) = inl (n, omega arith, d)
    by (inr h) (inr e) = inr (λ k l. at_last h e k (last_or_before k n l))

module _ (P : Program) (B : ℕ → Bool) (coord start : ℕ → ℕ → Rational) (R : IsProgram P start) (H : IsState P B coord) where
  -- no two candidates have the same ratios
  pub no_ties : (e k l : ℕ) → MayLeave P B coord e k → MayLeave P B coord e l → k ≢ l
      → ((j : ℕ) → j < suc P.rank → ratios P coord e k j ≡ ratios P coord e l j) → ⊥
  no_ties e k l K L ne same =
      positive_not_zero (coord e l) L.positive
      (sym (one_mul_ℚ (coord e l))
      ∙ ap (λ w. w *ℚ coord e l) (sym at_k)
      ∙ turned (coord e l) k
      ∙ sum_ℚ_same P.columns.count _ _ (λ i li. each i li (true_or_false (P.chosen i)))
      ∙ sym (turned (coord e k) l)
      ∙ ap (λ w. w *ℚ coord e k) at_l
      ∙ zero_mul_ℚ (coord e k))
    where
      sums : (m : ℕ) → m < P.columns.count → coord k m ≡ sum_ℚ P.columns.count (λ i. start k i *ℚ coord i m)
      sums m lm = read_off P.columns B coord (start k) (coord k) (P.columns.entry k) H.basis (H.basis.written k K.within) (R.basis.written k K.within).sum m lm

      at_k : sum_ℚ P.columns.count (λ i. start k i *ℚ coord i k) ≡ whole (pos 1)
      at_k = sym (sums k K.within) ∙ basis_mark P.columns B coord H.basis k K.within K.basic k K.within
          ∙ replaced_here (λ k. whole (pos 0)) k (whole (pos 1)) k refl

      at_l : sum_ℚ P.columns.count (λ i. start k i *ℚ coord i l) ≡ whole (pos 0)
      at_l = sym (sums l L.within) ∙ basis_mark P.columns B coord H.basis k K.within K.basic l L.within ∙ mark_off P.columns k l (λ (s : l ≡ k). ne (sym s))

      turned : (x : Rational) (m : ℕ) → sum_ℚ P.columns.count (λ i. start k i *ℚ coord i m) *ℚ x ≡ sum_ℚ P.columns.count (λ i. start k i *ℚ (coord i m *ℚ x))
      turned x m =
          ring_ℚ (sum_ℚ P.columns.count (λ i. start k i *ℚ coord i m) ∷ x ∷ []) (v0 ⊗ v1) (v1 ⊗ v0) refl
          ∙ mul-sum_ℚ x P.columns.count (λ i. start k i *ℚ coord i m)
          ∙ sum_ℚ_same P.columns.count _ _ (λ i li. ring_ℚ (x ∷ start k i ∷ coord i m ∷ []) (v0 ⊗ (v1 ⊗ v2)) (v1 ⊗ (v2 ⊗ v0)) refl)

      crossed : (j : ℕ) → j < P.rank → coord (P.first j) k *ℚ coord e l ≡ coord (P.first j) l *ℚ coord e k
      crossed j lj =
          ap (λ w. w *ℚ coord e l) (sym (div-mul (coord (P.first j) k) (coord e k) (positive_not_zero (coord e k) K.positive)))
          ∙ ap (λ w. w *ℚ coord e k *ℚ coord e l) (ap (λ (c : ℕ). coord c k /ℚ coord e k) (sym (order_suc P j)) ∙ same (suc j) (omega arith)
          ∙ ap (λ (c : ℕ). coord c l /ℚ coord e l) (order_suc P j))
          ∙ ring_ℚ ((coord (P.first j) l /ℚ coord e l) ∷ coord e k ∷ coord e l ∷ []) (v0 ⊗ v1 ⊗ v2) (v0 ⊗ v2 ⊗ v1) refl
          ∙ ap (λ w. w *ℚ coord e k) (div-mul (coord (P.first j) l) (coord e l) (positive_not_zero (coord e l) L.positive))

      each : (i : ℕ) → i < P.columns.count → ((P.chosen i ≡ true) ⊎ (P.chosen i ≡ false))
          → start k i *ℚ (coord i k *ℚ coord e l) ≡ start k i *ℚ (coord i l *ℚ coord e k)
      each i li (inl t) =
          let f = R.chosen_is_first i li t in
          ap (λ w. start k i *ℚ w) (subst (λ (i : ℕ). coord i k *ℚ coord e l ≡ coord i l *ℚ coord e k) f.2 (crossed f.0 f.1))
      each i li (inr f) =
          let z : start k i ≡ whole (pos 0) = (R.basis.written k K.within).outside i li f in
          ap (λ w. w *ℚ (coord i k *ℚ coord e l)) z ∙ zero_mul_ℚ _ ∙ sym (ap (λ w. w *ℚ (coord i l *ℚ coord e k)) z ∙ zero_mul_ℚ _)

  pub candidate_or_not : (e k : ℕ) → (MayLeave P B coord e k) ⊎ (k < P.columns.count → B k ≡ true → k ≢ P.top → IsNonnegative (neg_ℚ (coord e k)))
  candidate_or_not e k = by (below_or_not k P.columns.count) (true_or_false (B k)) (same_or_not k P.top) (sign_of (coord e k))
    where
      by : ((k < P.columns.count) ⊎ (P.columns.count ≤ k)) → ((B k ≡ true) ⊎ (B k ≡ false)) → ((k ≡ P.top) ⊎ (k ≢ P.top)) → Sign (coord e k)
          → (MayLeave P B coord e k) ⊎ (k < P.columns.count → B k ≡ true → k ≢ P.top → IsNonnegative (neg_ℚ (coord e k)))
      by (inr o) b t s = inr (λ l u v. absurd (omega arith))
      by (inl l) (inr f) t s = inr (λ l u v. absurd cc)
      by (inl l) (inl b) (inl t) s = inr (λ l u v. absurd (v t))
      by (inl l) (inl b) (inr t) (above s) = inl record { within = l; basic = b; other = t; positive = s }
      by (inl l) (inl b) (inr t) (none z) = inr (λ l u v. nonneg_zero _ (ap neg_ℚ z ∙ ring_ℚ [] (neg (num (pos 0))) (num (pos 0)) refl))
      by (inl l) (inl b) (inr t) (below s) = inr (λ l u v. positive_nonneg _ s)

  -- an entering column has a candidate
  pub has_candidate : (e : ℕ) → IsNonnegativeProgram P → IsEntering P coord e → (k : ℕ) × (k < P.columns.count) × (MayLeave P B coord e k)
  has_candidate e N E =
      by (search_below (MayLeave P B coord e) (λ k. k < P.columns.count → B k ≡ true → k ≢ P.top
      → IsNonnegative (neg_ℚ (coord e k))) (candidate_or_not e) P.columns.count)
    where
      le : e < P.columns.count
      le = let a = R.vectors in let b = E.high in omega arith

      term : ((k : ℕ) → k < P.columns.count → k < P.columns.count → B k ≡ true → k ≢ P.top → IsNonnegative (neg_ℚ (coord e k))) → (k a b : ℕ)
          → a < P.columns.size → b < P.columns.size → k < P.columns.count
          → ((B k ≡ true) ⊎ (B k ≡ false)) → ((k ≡ P.top) ⊎ (k ≢ P.top)) → IsNonnegative (neg_ℚ (coord e k) *ℚ P.columns.entry k a b)
      term h k a b la lb l (inr f) t =
          nonneg_zero _ (ap (λ w. neg_ℚ w *ℚ P.columns.entry k a b) ((H.basis.written e le).outside k l f)
          ∙ ring_ℚ (P.columns.entry k a b ∷ []) (neg (num (pos 0)) ⊗ v0) (num (pos 0)) refl)
      term h k a b la lb l (inl i) (inl s) =
          subst (λ (k : ℕ). IsNonnegative (neg_ℚ (coord e k) *ℚ P.columns.entry k a b)) (sym s)
          (nonneg_product _ _ (positive_nonneg _ ((negative_opposite _).0 E.negative)) (N.top a b la lb))
      term h k a b la lb l (inl i) (inr n) = let v = H.vectors k l i n in nonneg_product _ _ (h k l l i n) (N.vectors k a b la lb v.0 v.1)

      below_zero : ((k : ℕ) → k < P.columns.count → k < P.columns.count → B k ≡ true → k ≢ P.top → IsNonnegative (neg_ℚ (coord e k))) → (a b : ℕ)
          → a < P.columns.size → b < P.columns.size → IsNonnegative (neg_ℚ (P.columns.entry e a b))
      below_zero h a b la lb =
          subst IsNonnegative
          (sum_ℚ_same P.columns.count _ _ (λ k l. ring_ℚ (coord e k ∷ P.columns.entry k a b ∷ []) (neg v0 ⊗ v1) (num (negsuc 0) ⊗ (v0 ⊗ v1)) refl)
          ∙ sym (mul-sum_ℚ (whole (negsuc 0)) P.columns.count (λ k. coord e k *ℚ P.columns.entry k a b))
          ∙ ap (λ w. whole (negsuc 0) *ℚ w) ((H.basis.written e le).sum a b la lb)
          ∙ ring_ℚ (P.columns.entry e a b ∷ []) (num (negsuc 0) ⊗ v0) (neg v0) refl)
          (total_nonneg P.columns.count (λ k. neg_ℚ (coord e k) *ℚ P.columns.entry k a b)
          (λ k l. term h k a b la lb l (true_or_false (B k)) (same_or_not k P.top)))

      zero_both : (x : Rational) → IsNonnegative x → IsNonnegative (neg_ℚ x) → Sign x → x ≡ whole (pos 0)
      zero_both x a b (above s) = absurd (not_both x s b)
      zero_both x a b (none z) = z
      zero_both x a b (below s) = absurd (not_both (neg_ℚ x) s (subst IsNonnegative (ring_ℚ (x ∷ []) v0 (neg (neg v0)) refl) a))

      by : (((k : ℕ) × (k < P.columns.count) × (MayLeave P B coord e k))
          ⊎ ((k : ℕ) → k < P.columns.count → k < P.columns.count → B k ≡ true → k ≢ P.top → IsNonnegative (neg_ℚ (coord e k))))
          → (k : ℕ) × (k < P.columns.count) × (MayLeave P B coord e k)
      by (inl f) = f
      by (inr h) =
          absurd (negative_not_nonneg (coord e P.top) E.negative (nonneg_zero _ (H.basis.independent.only_zero (coord e)
          (coordinates_same P.columns B (coord e) (P.columns.entry e) (λ a b. whole (pos 0))
          (λ a b la lb. zero_both (P.columns.entry e a b) (N.vectors e a b la lb E.low E.high) (below_zero h a b la lb) (sign_of (P.columns.entry e a b)))
          (H.basis.written e le)) P.top R.top_within)))

  -- the ratios of one column are below those of another
  abbrev IsColumnBelow : ℕ → ℕ → ℕ → Type 0
  IsColumnBelow e k l = IsLexBelow (suc P.rank) (ratios P coord e k) (ratios P coord e l)

  -- of the candidates below n there is a best, or there are none
  abbrev HasBest : ℕ → ℕ → Type 0
  HasBest e n =
      ((l : ℕ) × (MayLeave P B coord e l)
      × ((k : ℕ) → k < n → MayLeave P B coord e k → k ≢ l → IsColumnBelow e l k))
      ⊎ ((k : ℕ) → k < n → MayLeave P B coord e k → ⊥)

  best_below : (e : ℕ) → (n : ℕ) → n ≤ P.columns.count
      → HasBest e n
  best_below e zero h = inr (λ k l c. absurd (omega arith))
  best_below e (suc n) h = by (best_below e n (omega arith)) (candidate_or_not e n)
    where
      not_candidate : (k : ℕ) → MayLeave P B coord e k → (k < P.columns.count → B k ≡ true → k ≢ P.top → IsNonnegative (neg_ℚ (coord e k))) → ⊥
      not_candidate k c o = not_both (coord e k) c.positive (o c.within c.basic c.other)

      by : (HasBest e n)
          → ((MayLeave P B coord e n) ⊎ (n < P.columns.count → B n ≡ true → n ≢ P.top → IsNonnegative (neg_ℚ (coord e n))))
          → HasBest e (suc n)
      by (inl b) (inr o) = inl (b.0, b.1, λ k lk c ne. old k c ne (last_or_before k n lk))
        where
          old : (k : ℕ) → MayLeave P B coord e k → k ≢ b.0 → ((k ≡ n) ⊎ (k < n)) → IsColumnBelow e b.0 k
          old k c ne (inl s) = absurd (not_candidate n (subst (λ (k : ℕ). MayLeave P B coord e k) s c) o)
          old k c ne (inr l) = b.2 k l c ne
      by (inl b) (inl c) = choose (same_or_not b.0 n) (lex_cases (suc P.rank) (ratios P coord e b.0) (ratios P coord e n))
        where
          kept : IsColumnBelow e b.0 n → (k : ℕ) → MayLeave P B coord e k → k ≢ b.0 → ((k ≡ n) ⊎ (k < n))
              → IsColumnBelow e b.0 k
          kept w k d ne (inl s) = subst (λ (k : ℕ). IsColumnBelow e b.0 k) (sym s) w
          kept w k d ne (inr l) = b.2 k l d ne

          new : IsColumnBelow e n b.0 → (k : ℕ) → MayLeave P B coord e k → k ≢ n → ((k ≡ n) ⊎ (k < n))
              → ((k ≡ b.0) ⊎ (k ≢ b.0)) → IsColumnBelow e n k
          new w k d ne (inl s) t = absurd (ne s)
          new w k d ne (inr l) (inl t) = subst (λ (k : ℕ). IsColumnBelow e n k) (sym t) w
          new w k d ne (inr l) (inr t) = lex_transitive (suc P.rank) _ _ _ w (b.2 k l d t)

          same_as : (b.0 ≡ n) → (k : ℕ) → MayLeave P B coord e k → k ≢ b.0 → ((k ≡ n) ⊎ (k < n))
              → IsColumnBelow e b.0 k
          same_as s k d ne (inl t) = absurd (ne (t ∙ sym s))
          same_as s k d ne (inr l) = b.2 k l d ne

          choose : ((b.0 ≡ n) ⊎ (b.0 ≢ n))
              → ((IsColumnBelow e b.0 n)
              ⊎ (((j : ℕ) → j < suc P.rank → ratios P coord e b.0 j ≡ ratios P coord e n j)
              ⊎ (IsColumnBelow e n b.0)))
              → HasBest e (suc n)
          choose (inl s) w = inl (b.0, b.1, λ k lk d ne. same_as s k d ne (last_or_before k n lk))
          choose (inr m) (inl w) = inl (b.0, b.1, λ k lk d ne. kept w k d ne (last_or_before k n lk))
          choose (inr m) (inr (inl t)) = absurd (no_ties e b.0 n b.1 c m t)
          choose (inr m) (inr (inr w)) = inl (n, c, λ k lk d ne. new w k d ne (last_or_before k n lk) (same_or_not k b.0))
      by (inr h) (inl c) = inl (n, c, λ k lk d ne. absurd (only k d ne (last_or_before k n lk)))
        where
          only : (k : ℕ) → MayLeave P B coord e k → k ≢ n → ((k ≡ n) ⊎ (k < n)) → ⊥
          only k d ne (inl s) = ne s
          only k d ne (inr l) = h k l d
      by (inr h) (inr o) = inr (λ k lk d. nobody k d (last_or_before k n lk))
        where
          nobody : (k : ℕ) → MayLeave P B coord e k → ((k ≡ n) ⊎ (k < n)) → ⊥
          nobody k d (inl s) = not_candidate n (subst (λ (k : ℕ). MayLeave P B coord e k) s d) o
          nobody k d (inr l) = h k l d

  -- some candidate, so exactly one leaves
  pub one_leaves : (e k : ℕ) → MayLeave P B coord e k → (l : ℕ) × IsOnlyLeaving P B coord e l
  one_leaves e k c = by (best_below e P.columns.count (omega arith))
    where
      by : ((l : ℕ) × (MayLeave P B coord e l)
          × ((k : ℕ) → k < P.columns.count → MayLeave P B coord e k → k ≢ l → IsColumnBelow e l k))
          ⊎ ((k : ℕ) → k < P.columns.count → MayLeave P B coord e k → ⊥)
          → (l : ℕ) × IsOnlyLeaving P B coord e l
      by (inl b) =
          let L : IsLeaving P B coord e b.0 = record { candidate = b.1; least = λ k d ne. b.2 k d.within d ne } in
          (b.0, record { leaves = L; only = λ m M. leaving_unique P B coord e m b.0 M L })
      by (inr h) = absurd (h k c.within c)

  pub entering_leaves : IsNonnegativeProgram P → (e : ℕ) → IsEntering P coord e → (l : ℕ) × IsOnlyLeaving P B coord e l
  entering_leaves N e E = let c = has_candidate e N E in one_leaves e c.0 c.2

pub leaving_is_unique : LeavingIsUnique
leaving_is_unique P B coord start R H e k c = one_leaves P B coord start R H e k c

pub entering_has_leaving : EnteringHasLeaving
entering_has_leaving P B coord start R H N e E = entering_leaves P B coord start R H N e E
