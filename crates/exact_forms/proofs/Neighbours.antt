-- The neighbour of a perfect matrix along an extreme ray.
use Rattle.std.specs.Prelude.{◌≡◌, ℕ, ◌<◌, ℤ, pos, ◌+ℤ◌, ◌*ℤ◌, ◌-ℤ◌, ◌≤ℤ◌, ◌<ℤ◌, neg_ℤ, ◌⊎◌, List, length, slice_index_or}
use Rattle.std.proofs.Common.{arith, sym, ◌∙◌, ap, ap₂, refl, subst, inl, inr}
use Rattle.std.proofs.lemmas.Int.{ints}
use Rattle.std.specs.List.{All, Contains}
use Rattle.std.proofs.lemmas.List.Elements.{All-contains, Contains-get_or}
use lib.IntN.{*ℤ_comm}
use Rattle.commutative_ring.proofs.Expand.{expand, linear}
use Rattle.commutative_ring.proofs.Laws.{mul_zero_ℤ, zero_mul_ℤ}
use Rattle.exact_forms.specs.Forms.{form, inner, IsSymmetric}
use Rattle.exact_forms.specs.Vectors.{coordinate, IsNonzero}
use Rattle.exact_forms.specs.Copositive.{Matrix, Attains, IsMinimum, IsPerfect, IsExtremeRay}
use Rattle.exact_forms.specs.Neighbours.{IsCombined, IsTightening, IsCandidate}
use Rattle.exact_forms.proofs.Sums.{sums_same, sums-add, mul-sums}
use Rattle.exact_forms.proofs.Forms.{form_is_inner, form_same, form-mul}
use Rattle.exact_forms.proofs.Order.{positive_mul, nonneg_mul, no_zero_divisor, positive_factor, cancel_positive}
use Rattle.exact_forms.proofs.Signs.{of_positive_product}

pub inner_combined : (n : ℕ) (g q p : ℤ) (P R C S : Matrix) → IsCombined n g q p P R C → g *ℤ inner n C S ≡ q *ℤ inner n P S +ℤ p *ℤ inner n R S
unfolding inner
inner_combined n g q p P R C S h =
    mul-sums g n n (λ i j. C i j *ℤ S i j)
    ∙ sums_same n n _ _ (λ i j li lj. one (C i j) (P i j) (R i j) (S i j) (h.entries i j li lj))
    ∙ sums-add n n (λ i j. q *ℤ (P i j *ℤ S i j)) (λ i j. p *ℤ (R i j *ℤ S i j))
    ∙ ap₂ (λ (x : ℤ) (y : ℤ). x +ℤ y) (sym (mul-sums q n n (λ i j. P i j *ℤ S i j))) (sym (mul-sums p n n (λ i j. R i j *ℤ S i j)))
  where
    one : (c a b s : ℤ) → g *ℤ c ≡ q *ℤ a +ℤ p *ℤ b → g *ℤ (c *ℤ s) ≡ q *ℤ (a *ℤ s) +ℤ p *ℤ (b *ℤ s)
    one c a b s e = let e' = simp expand at (ap (λ (x : ℤ). x *ℤ s) e) in omega (arith, linear)

pub form_combined : (n : ℕ) (g q p : ℤ) (P R C : Matrix) (x : ℕ → ℤ) → IsCombined n g q p P R C → g *ℤ form n C x ≡ q *ℤ form n P x +ℤ p *ℤ form n R x
form_combined n g q p P R C x h =
    ap (λ (z : ℤ). g *ℤ z) (form_is_inner n C x)
    ∙ inner_combined n g q p P R C (λ i j. x i *ℤ x j) h
    ∙ sym (ap₂ (λ (a : ℤ) (b : ℤ). q *ℤ a +ℤ p *ℤ b) (form_is_inner n P x) (form_is_inner n R x))

module _ (n : ℕ) (P R : Matrix) (mu : ℤ) (vectors : List (List ℕ)) (M : IsMinimum n P mu vectors) (E : IsExtremeRay n R vectors) where
  -- a vector at which the ray is negative has more than the minimum
  pub above_minimum : (w : List ℕ) → length w ≡ n → IsNonzero n w → form n R (coordinate w) <ℤ pos 0 → mu <ℤ form n P (coordinate w)
  above_minimum w size nonzero h = by (equal_or_above mu (form n P (coordinate w)) (M.least w size nonzero))
    where
      equal_or_above : (x y : ℤ) → x ≤ℤ y → (y ≡ x) ⊎ (x <ℤ y)
      equal_or_above x y l = grind (arith, ints)

      by : ((form n P (coordinate w) ≡ mu) ⊎ (mu <ℤ form n P (coordinate w))) → mu <ℤ form n P (coordinate w)
      by (inr l) = l
      by (inl e) =
          let a : pos 0 ≤ℤ form n R (coordinate w) =
          All-contains (λ v. pos 0 ≤ℤ form n R (coordinate v)) vectors w E.nonnegative (M.lists.all w record { size = size; nonzero = nonzero; value = e }) in
          absurd (omega (arith, linear))

  -- λ is over 0
  pub tightening_positive : (w : List ℕ) (p q : ℤ) → IsTightening n P R mu w p q → pos 1 ≤ℤ p
  tightening_positive w p q T =
      positive p (neg_ℤ (form n R (coordinate w))) (form n P (coordinate w) -ℤ mu) q (let b = T.below in
      omega (arith, linear)) (let a = above_minimum w T.size T.nonzero T.below in omega (arith, linear)) T.den T.ratio
    where
      positive : (p b a q : ℤ) → pos 1 ≤ℤ b → pos 1 ≤ℤ a → pos 1 ≤ℤ q → p *ℤ b ≡ q *ℤ a → pos 1 ≤ℤ p
      positive p b a q hb ha hq e = of_positive_product p b hb (subst (λ z. pos 1 ≤ℤ z) (sym e) (positive_mul q a hq ha))

  module _ (w : List ℕ) (p q g level : ℤ) (C : Matrix) (T : IsTightening n P R mu w p q) (K : IsCandidate n P R mu p q g level C) where
    -- the vector has the level
    pub at_level : form n C (coordinate w) ≡ level
    at_level = cancel_positive g (form n C (coordinate w)) level K.divisor (form_combined n g q p P R C (coordinate w) K.combined
        ∙ turn (form n P (coordinate w)) (form n R (coordinate w)) T.ratio ∙ sym K.level_is)
      where
        turn : (a b : ℤ) → p *ℤ neg_ℤ b ≡ q *ℤ (a -ℤ mu) → q *ℤ a +ℤ p *ℤ b ≡ q *ℤ mu
        turn a b e = let e' = simp expand at e in simp expand (omega (arith, linear))

    -- and so has a vector of P at which the ray is zero
    pub kept_level : (v : List ℕ) → Contains vectors v → form n R (coordinate v) ≡ pos 0 → form n C (coordinate v) ≡ level
    kept_level v l z =
        cancel_positive g (form n C (coordinate v)) level K.divisor
        (form_combined n g q p P R C (coordinate v) K.combined
        ∙ ap₂ (λ (x : ℤ) (y : ℤ). q *ℤ x +ℤ p *ℤ y) (M.lists.each v l).value z
        ∙ tidy
        ∙ sym K.level_is)
      where
        tidy : q *ℤ mu +ℤ p *ℤ pos 0 ≡ q *ℤ mu
        tidy = simp expand (omega (arith, linear))

    -- the neighbour is perfect
    pub neighbour_perfect : (list : List (List ℕ)) → IsMinimum n C level list → IsPerfect n list
    neighbour_perfect list N = record { only_zero = λ z s h i j li lj. zero_entry z s h i j li lj }
      where
        zero_at : (z : Matrix) → All (λ v. form n z (coordinate v) ≡ pos 0) list → (x : List ℕ) → Attains n C level x → form n z (coordinate x) ≡ pos 0
        zero_at z h x a = All-contains (λ v. form n z (coordinate v) ≡ pos 0) list x h (N.lists.all x a)

        -- a vector of P at which the ray is zero
        kept : (v : List ℕ) → Contains vectors v → form n R (coordinate v) ≡ pos 0 → Attains n C level v
        kept v l r = let a = M.lists.each v l in record { size = a.size; nonzero = a.nonzero; value = kept_level v l r }

        zero_entry : (z : Matrix) → IsSymmetric n z → All (λ v. form n z (coordinate v) ≡ pos 0) list → (i j : ℕ) → i < n → j < n → z i j ≡ pos 0
        zero_entry z s h i j li lj =
            let x = E.extreme z s (λ k d l r. zero_at z h (slice_index_or vectors k d) (kept (slice_index_or vectors k d) (Contains-get_or vectors k d l) r)) in
            let a : ℤ = x.0 in
            let b : ℤ = x.1 in
            let at_w : a *ℤ form n z (coordinate w) ≡ b *ℤ form n R (coordinate w) =
            sym (form-mul n a z (coordinate w)) ∙ form_same n (λ i j. a *ℤ z i j) (λ i j. b *ℤ R i j) (coordinate w) (coordinate w) x.3 (λ i l. refl)
            ∙ form-mul n b R (coordinate w) in
            let none : form n R (coordinate w) *ℤ b ≡ pos 0 =
            *ℤ_comm (form n R (coordinate w)) b ∙ sym at_w
            ∙ ap (λ (y : ℤ). a *ℤ y) (zero_at z h w record { size = T.size; nonzero = T.nonzero; value = at_level }) ∙ mul_zero_ℤ a in
            let b_zero : b ≡ pos 0 =
            no_zero_divisor (form n R (coordinate w)) b (λ (e : form n R (coordinate w) ≡ pos 0). absurd (let l = T.below in omega (arith, linear))) none in
            no_zero_divisor a (z i j) x.2 (x.3 i j li lj ∙ ap (λ (y : ℤ). y *ℤ R i j) b_zero ∙ zero_mul_ℤ (R i j))

    -- the new vector stands on the neighbour's list and not on P's
    pub new_vector_listed : (list : List (List ℕ)) → IsMinimum n C level list → Contains list w
    new_vector_listed list N = N.lists.all w record { size = T.size; nonzero = T.nonzero; value = at_level }

    pub new_vector_new : Contains vectors w → ⊥
    new_vector_new h =
        let a : pos 0 ≤ℤ form n R (coordinate w) = All-contains (λ v. pos 0 ≤ℤ form n R (coordinate v)) vectors w E.nonnegative h in
        let c = T.below in
        absurd (omega (arith, linear))

    -- level·⟨P,S⟩ > mu·⟨C,S⟩
    pub value_falls : (S : Matrix) → inner n R S <ℤ pos 0 → (mu *ℤ inner n C S) <ℤ (level *ℤ inner n P S)
    value_falls S h =
        falls (inner n P S) (inner n R S) (inner n C S) (inner_combined n g q p P R C S K.combined) (tightening_positive w p q T) h
      where
        falls : (a b c : ℤ) → g *ℤ c ≡ q *ℤ a +ℤ p *ℤ b → pos 1 ≤ℤ p → b <ℤ pos 0 → (mu *ℤ c) <ℤ (level *ℤ a)
        falls a b c e hp hb =
            let e1 = simp expand at (ap (λ (x : ℤ). mu *ℤ x) e) in
            let e2 = simp expand at (ap (λ (x : ℤ). x *ℤ a) K.level_is) in
            let pb : pos 1 ≤ℤ (p *ℤ neg_ℤ b) = positive_mul p (neg_ℤ b) hp (omega (arith, linear)) in
            let t = simp expand at (positive_mul mu (p *ℤ neg_ℤ b) M.positive pb) in
            let all : pos 1 ≤ℤ (g *ℤ (level *ℤ a -ℤ mu *ℤ c)) = simp expand (omega (arith, linear)) in
            let r : pos 1 ≤ℤ (level *ℤ a -ℤ mu *ℤ c) = positive_factor g (level *ℤ a -ℤ mu *ℤ c) K.divisor all in
            omega (arith, linear)

    -- a vector below the level: p·(-R[x]) is over q·(P[x] - mu)
    over : (x : List ℕ) → form n C (coordinate x) <ℤ level → pos 1 ≤ℤ (p *ℤ neg_ℤ (form n R (coordinate x)) -ℤ q *ℤ (form n P (coordinate x) -ℤ mu))
    over x l = turn (form n P (coordinate x)) (form n R (coordinate x)) (form n C (coordinate x)) (form_combined n g q p P R C (coordinate x) K.combined) l
      where
        turn : (a b c : ℤ) → g *ℤ c ≡ q *ℤ a +ℤ p *ℤ b → c <ℤ level → pos 1 ≤ℤ (p *ℤ neg_ℤ b -ℤ q *ℤ (a -ℤ mu))
        turn a b c e l =
            let d = simp expand at (positive_mul g (level -ℤ c) K.divisor (omega (arith, linear))) in
            let k = K.level_is in
            simp expand (omega (arith, linear, *ℤ_comm q mu))

    -- the ray is negative there
    pub below_again : (x : List ℕ) → length x ≡ n → IsNonzero n x → form n C (coordinate x) <ℤ level → form n R (coordinate x) <ℤ pos 0
    below_again x size nonzero l =
        let o : pos 1 ≤ℤ (p *ℤ neg_ℤ (form n R (coordinate x)) -ℤ q *ℤ (form n P (coordinate x) -ℤ mu)) = over x l in
        let m : mu ≤ℤ form n P (coordinate x) = M.least x size nonzero in
        let z : pos 0 ≤ℤ (q *ℤ (form n P (coordinate x) -ℤ mu)) =
        nonneg_mul q (form n P (coordinate x) -ℤ mu) (let d = T.den in omega (arith, linear)) (omega (arith, linear)) in
        let f : pos 1 ≤ℤ neg_ℤ (form n R (coordinate x)) =
        positive_factor p (neg_ℤ (form n R (coordinate x))) (tightening_positive w p q T) (omega (arith, linear)) in
        omega (arith, linear)

    -- λ falls strictly
    pub lambda_falls : (x : List ℕ) (p' q' : ℤ) → form n C (coordinate x) <ℤ level → IsTightening n P R mu x p' q' → (p' *ℤ q) <ℤ (p *ℤ q')
    lambda_falls x p' q' l X =
        falls (form n P (coordinate x) -ℤ mu) (neg_ℤ (form n R (coordinate x))) (let b = X.below in omega (arith, linear)) (over x l) X.ratio
      where
        falls : (a b : ℤ) → pos 1 ≤ℤ b → pos 1 ≤ℤ (p *ℤ b -ℤ q *ℤ a) → p' *ℤ b ≡ q' *ℤ a → (p' *ℤ q) <ℤ (p *ℤ q')
        falls a b hb o e =
            let d = simp expand at (positive_mul q' (p *ℤ b -ℤ q *ℤ a) X.den o) in
            let k : q *ℤ (p' *ℤ b) ≡ q *ℤ (q' *ℤ a) = ap (λ (y : ℤ). q *ℤ y) e in
            let all : pos 1 ≤ℤ (b *ℤ (p *ℤ q' -ℤ p' *ℤ q)) = simp expand (omega (arith, linear)) in
            let r : pos 1 ≤ℤ (p *ℤ q' -ℤ p' *ℤ q) = positive_factor b (p *ℤ q' -ℤ p' *ℤ q) hb all in
            omega (arith, linear)
