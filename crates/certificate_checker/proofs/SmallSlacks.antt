-- Gram matrices and slacks of small numbers, none of whose operations is owed.
use Rattle.std.specs.Prelude.{◌≡◌, ◌≢◌, ℕ, zero, suc, ◌+◌, ◌*◌, ◌^◌, ◌<◌, ◌≤◌, nat_abs, nat_le, if◌then◌else◌, Bool, true, false, ℤ, pos, negsuc, neg_ℤ, ◌+ℤ◌}
use Rattle.std.specs.Prelude.{◌-ℤ◌, int_lt, int_le, cond, eqb, List, [], ◌∷◌, length, slice_set, None}
use Rattle.std.specs.List.{list_all, range_with_len}
use Rattle.std.proofs.Common.{arith, sym, ◌∙◌, ap, ap₂, refl, subst, FitsSigned, to_z, of_z}
use mir.Syntax.{w128}
use Rattle.std.proofs.lemmas.Int.{ints, fits_signed_from_abs}
use Rattle.commutative_ring.proofs.SmallCases.{minus_twice}
use Rattle.exact_forms.specs.Sums.{sum_to}
use Rattle.exact_forms.specs.Forms.{IsSymmetric}
use Rattle.exact_forms.specs.Slacks.{shortfall, slack}
use Rattle.exact_forms.proofs.Sums.{sum_to-zero, sum_to_more, sum_to_same}
use Rattle.exact_forms.proofs.Slacks.{replaced_here, replaced_other}
use Rattle.exact_forms.proofs.Forms.{bilinear_symmetric}
use Rattle.unimodular_cone.specs.Cones.{Matrix, Generators, gram}
use Rattle.exact_forms.proofs.Lists.{more_set}
use Rattle.symmetric_matrix.specs.declared.operation.IntOp.{IntOp}
use Rattle.symmetric_matrix.specs.Owed.{first_owed}
use Rattle.symmetric_matrix.specs.Operations.{is_owed, add_op}
use Rattle.symmetric_matrix.proofs.Owed.{first_owed-append_none}
use Rattle.symmetric_matrix.proofs.Narrow.{read_128}
use Rattle.certificate_checker.specs.Loops.{steps}
use Rattle.certificate_checker.specs.Rows.{numbers, AreFirst, AgreeBelow, from_half}
use Rattle.certificate_checker.specs.Dots.{dot, rows_times, image_rows, products_with}
use Rattle.certificate_checker.specs.Small.{AreSmall, AreSmallBelow}
use Rattle.certificate_checker.specs.Leaves.{generator_ops, lessened, slack_ops, leaf_ops, is_closed}
use Rattle.certificate_checker.specs.Tree.{mediant_ops}
use Rattle.certificate_checker.proofs.DotSums.{dot_same, times_same}
use Rattle.certificate_checker.proofs.GramSums.{gram_is, slack_step, slack_ops_are, less_is_plus, closed_more, is_closed_same}
use Rattle.certificate_checker.proofs.TreeWalks.{mediant_step, mediant_ops_are}
use Rattle.certificate_checker.proofs.Accepted.{all_below}
use Rattle.certificate_checker.proofs.SmallSums.{abs_sum, not_over, owes_nothing, nothing, all_none, sum_bound, sum_of_two, dot_small, times_small}
use Rattle.certificate_checker.proofs.SmallSums.{columns_none, small_same}

-- ---- a half and the whole
pub half_small : (n : ℕ) (v u : ℕ → ℕ → ℤ) → n ≤ 8 → AreSmallBelow n (2 ^ 19) v → AreSmallBelow n (2 ^ 62) u
    → AreSmallBelow n (2 ^ 84) (from_half (products_with n v u))
half_small n v u few h m a la c lc = by (nat_le c a)
  where
    by : (b : Bool) → nat_abs (if b then products_with n v u a c else products_with n v u c a) ≤ 2 ^ 84
    by true = dot_small n (v c) (u a) few (h c lc) (m a la)
    by false = dot_small n (v a) (u c) few (h a la) (m c lc)

pub same_small : (n limit : ℕ) (f g : ℕ → ℕ → ℤ) → AgreeBelow n f g → AreSmallBelow n limit g → AreSmallBelow n limit f
same_small n limit f g same h a la = small_same n limit (f a) (g a) (λ c lc. same a c la lc) (h a la)

-- by the images of the generators, the half is that of the Gram matrix
pub gram_by_images : (n : ℕ) (w : Matrix) (v : Generators) (u : ℕ → ℕ → ℤ) → AgreeBelow n u (image_rows n w v) → (a b : ℕ) → a < n → b < n
    → products_with n v u b a ≡ gram n w v a b
gram_by_images n w v u same a b la lb = dot_same n (v a) (u b) (v a) (rows_times n w (v b)) (λ k l. refl) (λ k l. same b k lb l) ∙ gram_is n w v a b

pub closed_by_images : (n : ℕ) (w : Matrix) (v : Generators) (u : ℕ → ℕ → ℤ) → IsSymmetric n w → AgreeBelow n u (image_rows n w v)
    → is_closed n (from_half (products_with n v u)) ≡ is_closed n (gram n w v)
closed_by_images n w v u symmetric same = is_closed_same n (from_half (products_with n v u)) (gram n w v) whole
  where
    whole : AgreeBelow n (from_half (products_with n v u)) (gram n w v)
    whole a c la lc = by (nat_le c a)
      where
        by : (b : Bool) → (if b then products_with n v u a c else products_with n v u c a) ≡ gram n w v a c
        by true = gram_by_images n w v u same c a lc la ∙ bilinear_symmetric n w (v c) (v a) symmetric
        by false = gram_by_images n w v u same a c la lc

pub images_small : (n : ℕ) (w : Matrix) (v : Generators) (u : ℕ → ℕ → ℤ) → n ≤ 8 → AreSmallBelow n (2 ^ 40) w → AreSmallBelow n (2 ^ 19) v
    → AgreeBelow n u (image_rows n w v) → AreSmallBelow n (2 ^ 62) u
images_small n w v u few h m same = same_small n (2 ^ 62) u (image_rows n w v) same (λ k l. times_small n w (v k) few h (m k l))

-- ---- slacks
shortfall_bound : (z : ℤ) → nat_abs (shortfall z) ≤ nat_abs z
unfolding shortfall
shortfall_bound (pos n) = omega (arith, ints)
shortfall_bound (negsuc n) = omega (arith, ints)

-- what a Gram entry takes from the slack of a
abbrev pub taken : Matrix → ℕ → ℕ → ℤ
taken g a c = cond (eqb c a) (pos 0) (shortfall (g a c))

taken_bound : (n : ℕ) (g : Matrix) (a : ℕ) → AreSmall n (2 ^ 84) (g a) → AreSmall n (2 ^ 84) (taken g a)
taken_bound n g a h c l = by (eqb c a)
  where
    by : (b : Bool) → nat_abs (cond b (pos 0) (shortfall (g a c))) ≤ 2 ^ 84
    by true = omega (arith, ints)
    by false = let s = shortfall_bound (g a c) in let m = h c l in omega (arith, s, m)

-- a number, and up to eight taken from it
bound : (x y : ℤ) (c : ℕ) → nat_abs x ≤ 2 ^ 84 → nat_abs y ≤ c * 2 ^ 84 → c ≤ 8 → nat_abs (x -ℤ y) ≤ 9 * 2 ^ 84
bound x y c h k l = omega (arith, ints)

pub lessened_bound : (n : ℕ) (g : Matrix) (a c : ℕ) → n ≤ 8 → a < n → c ≤ n → AreSmallBelow n (2 ^ 84) g → nat_abs (lessened g a c) ≤ 9 * 2 ^ 84
lessened_bound n g a c few la lc h =
    let own = h a la a la in
    let sum = sum_bound (2 ^ 84) c (taken g a) (λ k l. taken_bound n g a (h a la) k (omega (arith, l, lc))) in
    bound (g a a) (sum_to c (taken g a)) c own sum (omega (arith, few, lc))

-- after one more entry
pub lessened_more : (g : Matrix) (a c : ℕ) → lessened g a c +ℤ neg_ℤ (taken g a c) ≡ lessened g a (c + 1)
lessened_more g a c = twice (g a a) (sum_to c (taken g a)) (taken g a c) ∙ ap (λ (s : ℤ). g a a -ℤ s) (sym (sum_to_more c (taken g a)))
  where
    twice : (x y z : ℤ) → (x -ℤ y) +ℤ neg_ℤ z ≡ x -ℤ (y +ℤ z)
    twice x y z = omega (arith, ints)

slack_none : (n : ℕ) (g : Matrix) (a : ℕ) → n ≤ 8 → a < n → AreSmallBelow n (2 ^ 84) g → first_owed is_owed (slack_ops n g a) ≡ None
slack_none n g a few la h = ap (first_owed is_owed) (slack_ops_are n g a) ∙ all_none (slack_step g a) n (λ c l. by (eqb c a) c l)
  where
    opposite : (z : ℤ) → nat_abs z ≤ 2 ^ 84 → nat_abs (neg_ℤ z) ≤ 2 ^ 84
    opposite z k = omega (arith, ints)

    by : (b : Bool) (c : ℕ) → c < n → first_owed is_owed (cond b [] (add_op (lessened g a c) (neg_ℤ (shortfall (g a c))) ∷ [])) ≡ None
    by true c l = nothing
    by false c l =
        let whole = lessened_bound n g a c few la (omega (arith, l)) h in
        let entry = h a la c l in
        let short = shortfall_bound (g a c) in
        let sum = abs_sum (lessened g a c) (neg_ℤ (shortfall (g a c))) (9 * 2 ^ 84) (2 ^ 84) whole
        (opposite (shortfall (g a c)) (omega (arith, entry, short))) in
        owes_nothing (add_op (lessened g a c) (neg_ℤ (shortfall (g a c))))
        (not_over (nat_abs (lessened g a c +ℤ neg_ℤ (shortfall (g a c)))) (omega (arith, sum))) [] nothing

gram_small : (n : ℕ) (w : Matrix) (v : Generators) → n ≤ 8 → AreSmallBelow n (2 ^ 40) w → AreSmallBelow n (2 ^ 19) v → AreSmallBelow n (2 ^ 84) (gram n w v)
gram_small n w v few h m a la b lb =
    let e : nat_abs (gram n w v a b) ≡ nat_abs (dot n (v a) (rows_times n w (v b))) = ap nat_abs (sym (gram_is n w v a b)) in
    let s = dot_small n (v a) (rows_times n w (v b)) few (m a la) (times_small n w (v b) few h (m b lb)) in
    omega (arith, e, s)

-- no operation of a leaf is owed
pub leaf_none : (n : ℕ) (w : Matrix) (v : Generators) → n ≤ 8 → AreSmallBelow n (2 ^ 40) w → AreSmallBelow n (2 ^ 19) v
    → first_owed is_owed (leaf_ops n w v) ≡ None
unfolding leaf_ops
leaf_none n w v few h m =
    first_owed-append_none is_owed (steps (generator_ops n w v) n) (steps (slack_ops n (gram n w v)) n) (columns_none n w v few h m)
    ∙ all_none (slack_ops n (gram n w v)) n (λ a l. slack_none n (gram n w v) a few l (gram_small n w v few h m))

-- ---- closed or not
pub not_closed : (n : ℕ) (g : Matrix) (a : ℕ) (z : ℤ) → a < n → z ≡ slack n g a → int_lt z (pos 0) ≡ true → false ≡ is_closed n g
unfolding is_closed
not_closed n g a z l e below = by (list_all (λ a. int_le (pos 0) (slack n g a)) (range_with_len 0 n)) refl
  where
    never : (x : ℤ) → z ≡ x → int_le (pos 0) x ≡ true → ⊥
    never x e h = grind (arith, ints)

    by : (b : Bool) → list_all (λ a. int_le (pos 0) (slack n g a)) (range_with_len 0 n) ≡ b → false ≡ b
    by false h = refl
    by true h = absurd (never (slack n g a) e (all_below (λ a. int_le (pos 0) (slack n g a)) n h a l))

pub closed_goes_on : (n : ℕ) (g : Matrix) (k : ℕ) (z : ℤ) → list_all (λ a. int_le (pos 0) (slack n g a)) (range_with_len 0 k) ≡ true → z ≡ slack n g k
    → int_lt z (pos 0) ≡ false
    → list_all (λ a. int_le (pos 0) (slack n g a)) (range_with_len 0 (k + 1)) ≡ true
closed_goes_on n g k z before e below = sym (closed_more n g k true z (sym before) e) ∙ at_least z below
  where
    at_least : (z : ℤ) → int_lt z (pos 0) ≡ false → int_le (pos 0) z ≡ true
    at_least z h = grind (arith, ints)

-- ---- a mediant
pub mediant_none : (n : ℕ) (v : Generators) (i j : ℕ) → i < n → j < n → AreSmallBelow n (2 ^ 19) v → first_owed is_owed (mediant_ops n v i j) ≡ None
mediant_none n v i j li lj h = ap (first_owed is_owed) (mediant_ops_are n v i j) ∙ all_none (mediant_step v i j) n (λ p l. each p l)
  where
    each : (p : ℕ) → p < n → first_owed is_owed (mediant_step v i j p) ≡ None
    each p l =
        let s = sum_of_two (v i p) (v j p) (h i li p l) (h j lj p l) in
        owes_nothing (add_op (v i p) (v j p)) (not_over (nat_abs (v i p +ℤ v j p)) (omega (arith, s))) [] nothing

-- ---- the slacks row by row
taken_other : (g : Matrix) (a c : ℕ) → c ≢ a → taken g a c ≡ shortfall (g a c)
taken_other g a c apart = replaced_other (λ k. shortfall (g a k)) a (pos 0) c apart

taken_own : (g : Matrix) (a : ℕ) → taken g a a ≡ pos 0
taken_own g a = replaced_here (λ k. shortfall (g a k)) a (pos 0) a refl

pub from_half_after : (f : ℕ → ℕ → ℤ) (a b : ℕ) → a < b → from_half f a b ≡ f b a
from_half_after f a b l = by (nat_le b a) refl
  where
    by : (t : Bool) → nat_le b a ≡ t → (if t then f a b else f b a) ≡ f b a
    by true e = absurd (let h : b ≤ a = grind arith in omega arith)
    by false e = refl

pub from_half_before : (f : ℕ → ℕ → ℤ) (a b : ℕ) → a ≤ b → from_half f b a ≡ f b a
from_half_before f a b l = by (nat_le a b) refl
  where
    by : (t : Bool) → nat_le a b ≡ t → (if t then f b a else f a b) ≡ f b a
    by true e = refl
    by false e = absurd (let h : b < a = grind arith in omega arith)

-- the row of b is taken from the slacks before it, and the slack of b is made
pub slacks_more : (b : ℕ) (g : Matrix) (row : ℕ → ℤ) (slacks lesser : List ℤ) (own : ℤ) → AreFirst b slacks (λ a. lessened g a b)
    → AreFirst b lesser (λ a. numbers slacks a -ℤ shortfall (row a))
    → own ≡ row b -ℤ sum_to b (λ a. shortfall (row a)) → ((a : ℕ) → a < b → row a ≡ g a b) → ((a : ℕ) → a < b + 1 → row a ≡ g b a) → b < length lesser
    → AreFirst (b + 1) (slice_set lesser b own) (λ a. lessened g a (b + 1))
slacks_more b g row slacks lesser own old new is column across room =
    more_set (pos 0) lesser (λ a. lessened g a (b + 1)) b b own before room refl (is ∙ last)
  where
    before : (a : ℕ) → a < b → numbers lesser a ≡ lessened g a (b + 1)
    before a l =
        new a l ∙ ap₂ (λ (x : ℤ) (y : ℤ). x -ℤ shortfall y) (old a l) (column a l)
        ∙ ap (λ (y : ℤ). lessened g a b -ℤ y) (sym (taken_other g a b (λ e. absurd (omega arith))))
        ∙ sym (less_is_plus (lessened g a b) (taken g a b)) ∙ lessened_more g a b

    nothing_more : (x : ℤ) → x ≡ x +ℤ neg_ℤ (pos 0)
    nothing_more x = omega (arith, ints)

    last : row b -ℤ sum_to b (λ a. shortfall (row a)) ≡ lessened g b (b + 1)
    last =
        ap₂ (λ (x : ℤ) (y : ℤ). x -ℤ y) (across b (omega arith))
        (sum_to_same b (λ a. shortfall (row a)) (taken g b) (λ a l. ap shortfall (across a (omega arith))
        ∙ sym (taken_other g b a (λ e. absurd (omega arith)))))
        ∙ nothing_more (lessened g b b) ∙ ap (λ (y : ℤ). lessened g b b +ℤ neg_ℤ y) (sym (taken_own g b)) ∙ lessened_more g b b

-- ---- the sums as the program makes them
-- with z added to it, s is x less what y takes
pub record IsLessened (s x y z : ℤ) : Type 0 where
  pub fits : FitsSigned w128 (s +ℤ to_z w128 (of_z w128 z))
  pub value : to_z w128 (of_z w128 (s +ℤ to_z w128 (of_z w128 z))) ≡ x -ℤ shortfall y

pub lessened_read : (s x y z : ℤ) → s ≡ x → nat_abs x ≤ 9 * 2 ^ 84 → nat_abs y ≤ 2 ^ 84 → z ≡ neg_ℤ (shortfall y) → IsLessened s x y z
lessened_read s x y z same h k e =
    let t = shortfall_bound y in
    let r = both (shortfall y) (omega (arith, t, k)) e in
    let is : s +ℤ to_z w128 (of_z w128 z) ≡ x +ℤ z = ap₂ (λ (u : ℤ) (v : ℤ). u +ℤ v) same (read_128 z r.1) in
    record {
      fits = subst (λ (u : ℤ). FitsSigned w128 u) (sym is) (fits_signed_from_abs w128 (x +ℤ z) r.0);
      value = ap (λ (u : ℤ). to_z w128 (of_z w128 u)) is ∙ read_128 (x +ℤ z) r.0 ∙ ap (λ (u : ℤ). x +ℤ u) e ∙ less_is_plus x (shortfall y);
    }
  where
    both : (t : ℤ) → nat_abs t ≤ 2 ^ 84 → z ≡ neg_ℤ t → (nat_abs (x +ℤ z) < 2 ^ 127) × (nat_abs z < 2 ^ 127)
    both t l is = (omega (arith, ints), omega (arith, ints))

-- the products of an image with the generators up to its own
pub row_small : (n b : ℕ) (v u : ℕ → ℕ → ℤ) → n ≤ 8 → b < n → AreSmallBelow n (2 ^ 19) v → AreSmallBelow n (2 ^ 62) u
    → AreSmall (b + 1) (2 ^ 84) (products_with n v u b)
row_small n b v u few lb h m a l = dot_small n (v a) (u b) few (h a (omega arith)) (m b lb)

pub own_none : (x : ℤ) (f : ℕ → ℤ) → x ≡ x -ℤ sum_to 0 f
own_none x f = let z : sum_to 0 f ≡ pos 0 = sum_to-zero f in omega (arith, ints)

-- an own slack up to an entry
pub own_bound : (n a : ℕ) (x : ℕ → ℤ) → n < 8 → a ≤ n → AreSmall (n + 1) (2 ^ 84) x → nat_abs (x n -ℤ sum_to a (λ c. shortfall (x c))) ≤ 9 * 2 ^ 84
own_bound n a x few l h =
    let own = h n (omega arith) in
    let sum = sum_bound (2 ^ 84) a (λ c. shortfall (x c)) (λ c m. let s = shortfall_bound (x c) in let b = h c (omega (arith, m, l)) in omega (arith, s, b)) in
    bound (x n) (sum_to a (λ c. shortfall (x c))) a own sum (omega (arith, few, l))

pub own_more : (n a : ℕ) (x : ℕ → ℤ) → (x n -ℤ sum_to a (λ c. shortfall (x c))) -ℤ shortfall (x a) ≡ x n -ℤ sum_to (a + 1) (λ c. shortfall (x c))
own_more n a x = minus_twice (x n) (sum_to a (λ c. shortfall (x c))) (shortfall (x a)) ∙ ap (λ (s : ℤ). x n -ℤ s) (sym (sum_to_more a (λ c. shortfall (x c))))
