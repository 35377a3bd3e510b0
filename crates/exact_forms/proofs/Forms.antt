-- Laws of quadratic forms.
use Rattle.std.specs.Prelude.{◌≡◌, ℕ, suc, ◌<◌, ℤ, pos, ◌+ℤ◌, ◌*ℤ◌}
use Rattle.std.proofs.Common.{arith, sym, ◌∙◌, ap, ap₂, refl}
use lib.IntN.{*ℤ_comm}
use Rattle.exact_forms.specs.Sums.{sum_to}
use Rattle.exact_forms.specs.Forms.{bilinear, form, inner, combination, IsSymmetric}
use Rattle.commutative_ring.proofs.Laws.{add_mul_ℤ, mul_assoc_ℤ}
use Rattle.commutative_ring.proofs.Expand.{expand, linear}
use Rattle.exact_forms.proofs.Sums.{sum_to-zero, sum_to-suc, sum_to_same, mul-sum_to, sum_to-mul, sum_to_swap, sums_same, sums-add, mul-sums}

-- ---- the places below n decide
pub bilinear_same : (n : ℕ) (q s : ℕ → ℕ → ℤ) (x y u w : ℕ → ℤ) → ((i j : ℕ) → i < n → j < n → q i j ≡ s i j) → ((i : ℕ) → i < n → x i ≡ u i)
    → ((i : ℕ) → i < n → y i ≡ w i)
    → bilinear n q x y ≡ bilinear n s u w
unfolding bilinear
bilinear_same n q s x y u w hq hx hy =
    sums_same n n _ _ (λ i j li lj. ap₂ (λ (a : ℤ) (b : ℤ). a *ℤ b) (hq i j li lj) (ap₂ (λ (a : ℤ) (b : ℤ). a *ℤ b) (hx i li) (hy j lj)))

pub form_same : (n : ℕ) (q s : ℕ → ℕ → ℤ) (x y : ℕ → ℤ) → ((i j : ℕ) → i < n → j < n → q i j ≡ s i j) → ((i : ℕ) → i < n → x i ≡ y i) → form n q x ≡ form n s y
form_same n q s x y hq hx = bilinear_same n q s x x y y hq hx hx

pub inner_same : (n : ℕ) (q s t u : ℕ → ℕ → ℤ) → ((i j : ℕ) → i < n → j < n → q i j ≡ t i j) → ((i j : ℕ) → i < n → j < n → s i j ≡ u i j)
    → inner n q s ≡ inner n t u
unfolding inner
inner_same n q s t u hq hs = sums_same n n _ _ (λ i j li lj. ap₂ (λ (a : ℤ) (b : ℤ). a *ℤ b) (hq i j li lj) (hs i j li lj))

pub combination_same : (m : ℕ) (a b : ℕ → ℤ) (v w : ℕ → ℕ → ℤ) (p : ℕ) → ((k : ℕ) → k < m → a k ≡ b k) → ((k : ℕ) → k < m → v k p ≡ w k p)
    → combination m a v p ≡ combination m b w p
unfolding combination
combination_same m a b v w p ha hv = sum_to_same m _ _ (λ k l. ap₂ (λ (x : ℤ) (y : ℤ). x *ℤ y) (ha k l) (hv k l))

-- ---- what they are
-- Q[x] = ⟨Q, xxᵗ⟩
pub form_is_inner : (n : ℕ) (q : ℕ → ℕ → ℤ) (x : ℕ → ℤ) → form n q x ≡ inner n q (λ i j. x i *ℤ x j)
unfolding bilinear inner
form_is_inner n q x = refl

pub inner_is : (n : ℕ) (q s : ℕ → ℕ → ℤ) → inner n q s ≡ sum_to n (λ i. sum_to n (λ j. q i j *ℤ s i j))
unfolding inner
inner_is n q s = refl

pub bilinear_is : (n : ℕ) (q : ℕ → ℕ → ℤ) (x y : ℕ → ℤ) → bilinear n q x y ≡ sum_to n (λ i. sum_to n (λ j. q i j *ℤ (x i *ℤ y j)))
unfolding bilinear
bilinear_is n q x y = refl

pub combination-zero : (a : ℕ → ℤ) (v : ℕ → ℕ → ℤ) (p : ℕ) → combination 0 a v p ≡ pos 0
unfolding combination
combination-zero a v p = sum_to-zero (λ k. a k *ℤ v k p)

pub combination-suc : (m : ℕ) (a : ℕ → ℤ) (v : ℕ → ℕ → ℤ) (p : ℕ) → combination (suc m) a v p ≡ combination m a v p +ℤ a m *ℤ v m p
unfolding combination
combination-suc m a v p = sum_to-suc m (λ k. a k *ℤ v k p)

pub inner_symmetric : (n : ℕ) (q s : ℕ → ℕ → ℤ) → inner n q s ≡ inner n s q
unfolding inner
inner_symmetric n q s = sums_same n n _ _ (λ i j li lj. *ℤ_comm (q i j) (s i j))

pub inner-add_left : (n : ℕ) (q r s : ℕ → ℕ → ℤ) → inner n (λ i j. q i j +ℤ r i j) s ≡ inner n q s +ℤ inner n r s
unfolding inner
inner-add_left n q r s = sums_same n n _ _ (λ i j li lj. add_mul_ℤ (q i j) (r i j) (s i j)) ∙ sums-add n n (λ i j. q i j *ℤ s i j) (λ i j. r i j *ℤ s i j)

pub inner-mul_left : (n : ℕ) (c : ℤ) (q s : ℕ → ℕ → ℤ) → inner n (λ i j. c *ℤ q i j) s ≡ c *ℤ inner n q s
unfolding inner
inner-mul_left n c q s = sums_same n n _ _ (λ i j li lj. mul_assoc_ℤ c (q i j) (s i j)) ∙ sym (mul-sums c n n (λ i j. q i j *ℤ s i j))

pub form-add : (n : ℕ) (q r : ℕ → ℕ → ℤ) (x : ℕ → ℤ) → form n (λ i j. q i j +ℤ r i j) x ≡ form n q x +ℤ form n r x
form-add n q r x = form_is_inner n (λ i j. q i j +ℤ r i j) x ∙ inner-add_left n q r (λ i j. x i *ℤ x j)
    ∙ sym (ap₂ (λ (a : ℤ) (b : ℤ). a +ℤ b) (form_is_inner n q x) (form_is_inner n r x))

pub form-mul : (n : ℕ) (c : ℤ) (q : ℕ → ℕ → ℤ) (x : ℕ → ℤ) → form n (λ i j. c *ℤ q i j) x ≡ c *ℤ form n q x
form-mul n c q x = form_is_inner n (λ i j. c *ℤ q i j) x ∙ inner-mul_left n c q (λ i j. x i *ℤ x j) ∙ sym (ap (λ (a : ℤ). c *ℤ a) (form_is_inner n q x))

-- ---- linear in each argument
pub bilinear-add_left : (n : ℕ) (q : ℕ → ℕ → ℤ) (x y z : ℕ → ℤ) → bilinear n q (λ i. x i +ℤ y i) z ≡ bilinear n q x z +ℤ bilinear n q y z
unfolding bilinear
bilinear-add_left n q x y z =
    sums_same n n _ _ (λ i j li lj. spread (q i j) (x i) (y i) (z j))
    ∙ sums-add n n (λ i j. q i j *ℤ (x i *ℤ z j)) (λ i j. q i j *ℤ (y i *ℤ z j))
  where
    spread : (a b c d : ℤ) → a *ℤ ((b +ℤ c) *ℤ d) ≡ a *ℤ (b *ℤ d) +ℤ a *ℤ (c *ℤ d)
    spread a b c d = simp expand

pub bilinear-mul_left : (n : ℕ) (q : ℕ → ℕ → ℤ) (c : ℤ) (x z : ℕ → ℤ) → bilinear n q (λ i. c *ℤ x i) z ≡ c *ℤ bilinear n q x z
unfolding bilinear
bilinear-mul_left n q c x z =
    sums_same n n _ _ (λ i j li lj. move (q i j) (x i) (z j))
    ∙ sym (mul-sums c n n (λ i j. q i j *ℤ (x i *ℤ z j)))
  where
    move : (a b d : ℤ) → a *ℤ ((c *ℤ b) *ℤ d) ≡ c *ℤ (a *ℤ (b *ℤ d))
    move a b d = simp expand

-- the mirror
pub bilinear_flip : (n : ℕ) (q : ℕ → ℕ → ℤ) (x y : ℕ → ℤ) → bilinear n q x y ≡ bilinear n (λ i j. q j i) y x
unfolding bilinear
bilinear_flip n q x y =
    sum_to_swap n n (λ i j. q i j *ℤ (x i *ℤ y j))
    ∙ sums_same n n _ _ (λ i j li lj. ap (λ (w : ℤ). q j i *ℤ w) (*ℤ_comm (x j) (y i)))

pub bilinear_symmetric : (n : ℕ) (q : ℕ → ℕ → ℤ) (x y : ℕ → ℤ) → IsSymmetric n q → bilinear n q x y ≡ bilinear n q y x
unfolding bilinear
bilinear_symmetric n q x y s =
    bilinear_flip n q x y
    ∙ sums_same n n _ _ (λ i j li lj. ap (λ (w : ℤ). w *ℤ (y i *ℤ x j)) (s j i lj li))

pub bilinear-add_right : (n : ℕ) (q : ℕ → ℕ → ℤ) (z x y : ℕ → ℤ) → bilinear n q z (λ i. x i +ℤ y i) ≡ bilinear n q z x +ℤ bilinear n q z y
bilinear-add_right n q z x y =
    bilinear_flip n q z _
    ∙ bilinear-add_left n (λ i j. q j i) x y z
    ∙ ap₂ (λ (a : ℤ) (b : ℤ). a +ℤ b) (sym (bilinear_flip n q z x)) (sym (bilinear_flip n q z y))

pub bilinear-mul_right : (n : ℕ) (q : ℕ → ℕ → ℤ) (c : ℤ) (z x : ℕ → ℤ) → bilinear n q z (λ i. c *ℤ x i) ≡ c *ℤ bilinear n q z x
bilinear-mul_right n q c z x =
    bilinear_flip n q z _
    ∙ bilinear-mul_left n (λ i j. q j i) c x z
    ∙ ap (λ (a : ℤ). c *ℤ a) (sym (bilinear_flip n q z x))

-- Q[a·u + b·w] = a²·Q[u] + 2ab·uᵗQw + b²·Q[w]
pub form_of_sum : (n : ℕ) (q : ℕ → ℕ → ℤ) (a b : ℤ) (u w : ℕ → ℤ) → IsSymmetric n q
    → form n q (λ i. a *ℤ u i +ℤ b *ℤ w i) ≡ a *ℤ a *ℤ form n q u +ℤ pos 2 *ℤ (a *ℤ b) *ℤ bilinear n q u w +ℤ b *ℤ b *ℤ form n q w
form_of_sum n q a b u w s =
    rw (
      bilinear-add_left n q (λ i. a *ℤ u i) (λ i. b *ℤ w i) (λ i. a *ℤ u i +ℤ b *ℤ w i),
      bilinear-add_right n q (λ i. a *ℤ u i) (λ i. a *ℤ u i) (λ i. b *ℤ w i),
      bilinear-add_right n q (λ i. b *ℤ w i) (λ i. a *ℤ u i) (λ i. b *ℤ w i),
      bilinear-mul_left n q a u (λ i. a *ℤ u i),
      bilinear-mul_left n q a u (λ i. b *ℤ w i),
      bilinear-mul_left n q b w (λ i. a *ℤ u i),
      bilinear-mul_left n q b w (λ i. b *ℤ w i),
      bilinear-mul_right n q a u u,
      bilinear-mul_right n q b u w,
      bilinear-mul_right n q a w u,
      bilinear-mul_right n q b w w,
      bilinear_symmetric n q w u s,
    )
    (tidy (form n q u) (bilinear n q u w) (form n q w))
  where
    tidy : (x y z : ℤ) → a *ℤ (a *ℤ x) +ℤ a *ℤ (b *ℤ y) +ℤ (b *ℤ (a *ℤ y) +ℤ b *ℤ (b *ℤ z)) ≡ a *ℤ a *ℤ x +ℤ pos 2 *ℤ (a *ℤ b) *ℤ y +ℤ b *ℤ b *ℤ z
    tidy x y z = simp expand (omega (arith, linear))

-- ---- of combinations
pub bilinear-combination_left : (n m : ℕ) (q : ℕ → ℕ → ℤ) (a : ℕ → ℤ) (v : ℕ → ℕ → ℤ) (y : ℕ → ℤ)
    → bilinear n q (combination m a v) y ≡ sum_to m (λ k. a k *ℤ bilinear n q (v k) y)
unfolding bilinear combination
bilinear-combination_left n m q a v y =
    -- q_ij · ((Σ_k a_k v_ki) · y_j) = Σ_k a_k · (q_ij · (v_ki · y_j))
    sums_same n n _ _ (λ i j li lj.
    ap (λ (w : ℤ). q i j *ℤ w) (sum_to-mul (y j) m (λ k. a k *ℤ v k i))
    ∙ mul-sum_to (q i j) m (λ k. (a k *ℤ v k i) *ℤ y j)
    ∙ sum_to_same m _ _ (λ k lk. move (q i j) (a k) (v k i) (y j)))
    -- k moves out past j and past i
    ∙ sum_to_same n _ _ (λ i li. sum_to_swap n m (λ j k. a k *ℤ (q i j *ℤ (v k i *ℤ y j))))
    ∙ sum_to_swap n m (λ i k. sum_to n (λ j. a k *ℤ (q i j *ℤ (v k i *ℤ y j))))
    ∙ sum_to_same m _ _ (λ k lk. sym (mul-sums (a k) n n (λ i j. q i j *ℤ (v k i *ℤ y j))))
  where
    move : (p b c d : ℤ) → p *ℤ ((b *ℤ c) *ℤ d) ≡ b *ℤ (p *ℤ (c *ℤ d))
    move p b c d = simp expand

pub bilinear-combination_right : (n m : ℕ) (q : ℕ → ℕ → ℤ) (x : ℕ → ℤ) (b : ℕ → ℤ) (v : ℕ → ℕ → ℤ)
    → bilinear n q x (combination m b v) ≡ sum_to m (λ l. b l *ℤ bilinear n q x (v l))
bilinear-combination_right n m q x b v =
    bilinear_flip n q x _
    ∙ bilinear-combination_left n m (λ i j. q j i) b v x
    ∙ sum_to_same m _ _ (λ l ll. ap (λ (w : ℤ). b l *ℤ w) (sym (bilinear_flip n q x (v l))))

-- Gram: the form at a combination is the form of the Gram matrix at its coefficients
pub form-combination : (n m : ℕ) (q : ℕ → ℕ → ℤ) (a : ℕ → ℤ) (v : ℕ → ℕ → ℤ)
    → form n q (combination m a v) ≡ form m (λ k l. bilinear n q (v k) (v l)) a
unfolding bilinear
form-combination n m q a v =
    bilinear-combination_left n m q a v (combination m a v)
    ∙ sum_to_same m _ _ (λ k lk.
    ap (λ (w : ℤ). a k *ℤ w) (bilinear-combination_right n m q (v k) a v)
    ∙ mul-sum_to (a k) m (λ l. a l *ℤ bilinear n q (v k) (v l))
    ∙ sum_to_same m _ _ (λ l ll. move (a k) (a l) (bilinear n q (v k) (v l))))
  where
    move : (b c d : ℤ) → b *ℤ (c *ℤ d) ≡ d *ℤ (b *ℤ c)
    move b c d = simp expand
