-- The steps of a sum of products.
use Rattle.std.specs.Prelude.{◌≡◌, ℕ, ◌+◌, ◌-◌, ◌^◌, ◌<◌, ◌≤◌, nat_abs, Bool, true, false, if◌then◌else◌, ℤ, pos, ◌+ℤ◌, ◌*ℤ◌, List, [], ◌∷◌, ◌++◌, length, drop}
use Rattle.std.specs.Prelude.{slice_index_or, Result, Ok, Err}
use Rattle.std.proofs.Common.{sym, ◌∙◌, ap, refl, subst, add-one, drop-cons, drop_of_length-le}
use Rattle.commutative_ring.proofs.Ring.{int_ring, ring, num, ◌⊕◌, ◌⊗◌, v0, v1, v2, v3}
use Rattle.commutative_ring.proofs.SmallCases.{at_least_of_test}
use Rattle.symmetric_matrix.specs.declared.operation.IntOp.{IntOp}
use Rattle.symmetric_matrix.specs.Owed.{answer}
use Rattle.symmetric_matrix.specs.Operations.{exact_result, is_owed, mul_op, add_op}
use Rattle.symmetric_matrix.specs.Symmetric.{FitsInt}
use Rattle.symmetric_matrix.specs.Recipes.{Product, product_ops, sum_ops}
use Rattle.symmetric_matrix.proofs.Owed.{answer_nothing, answer-append_err, answer-append_ok}
use Rattle.symmetric_matrix.proofs.Telescopes.{list_sum}

abbrev pub product_of : Product → ℤ
product_of p = p.left *ℤ p.right

unfoldable pub sum_from : List Product → ℤ → ℤ
sum_from [] s = s
sum_from (p ∷ rest) s = sum_from rest (s +ℤ p.left *ℤ p.right)

-- what is answered with the products that are left, from the sum s on
unfoldable pub sum_answer : List Product → ℤ → Result ℤ IntOp
sum_answer products s = answer is_owed (sum_ops products s) (sum_from products s)

sum_answer_cons : (p : Product) (rest : List Product) (s : ℤ)
    → sum_answer (p ∷ rest) s ≡ answer is_owed (product_ops s p ++ sum_ops rest (s +ℤ p.left *ℤ p.right)) (sum_from rest (s +ℤ p.left *ℤ p.right))
unfolding sum_answer sum_ops sum_from
sum_answer_cons p rest s = refl

sum_answer_drop : (products : List Product) (k : ℕ) (s : ℤ) (d : Product) → k < length products
    → sum_answer (drop k products) s ≡ sum_answer (slice_index_or products k d ∷ drop (k + 1) products) s
sum_answer_drop products k s d h = rw (add-one, drop-cons products k d) refl

pub sum_refused : (products : List Product) (k : ℕ) (s : ℤ) (d p : Product) (err : IntOp) → k < length products → slice_index_or products k d ≡ p
    → answer is_owed (product_ops s p) (s +ℤ p.left *ℤ p.right) ≡ Err err → sum_answer (drop k products) s ≡ Err err
sum_refused products k s d p err l e h =
    let rest : List Product = drop (k + 1) products in
    let t : ℤ = s +ℤ p.left *ℤ p.right in
    sum_answer_drop products k s d l ∙ ap (λ (p : Product). sum_answer (p ∷ rest) s) e ∙ sum_answer_cons p rest s
    ∙ answer-append_err is_owed (product_ops s p) (sum_ops rest t) t (sum_from rest t) err h

pub sum_continues : (products : List Product) (k : ℕ) (s : ℤ) (d p : Product) (z : ℤ) → k < length products → slice_index_or products k d ≡ p
    → answer is_owed (product_ops s p) (s +ℤ p.left *ℤ p.right) ≡ Ok z → sum_answer (drop k products) s ≡ sum_answer (drop (k + 1) products) z
unfolding sum_answer
sum_continues products k s d p z l e h =
    let rest : List Product = drop (k + 1) products in
    let t : ℤ = s +ℤ p.left *ℤ p.right in
    let done = answer-append_ok is_owed (product_ops s p) (sum_ops rest t) t z (sum_from rest t) h in
    sum_answer_drop products k s d l ∙ ap (λ (p : Product). sum_answer (p ∷ rest) s) e ∙ sum_answer_cons p rest s
    ∙ done.0 ∙ ap (λ (z : ℤ). answer is_owed (sum_ops rest z) (sum_from rest z)) done.1

pub sum_ends : (products : List Product) (k : ℕ) (s : ℤ) → length products ≤ k → sum_answer (drop k products) s ≡ Ok s
unfolding sum_answer sum_ops sum_from
sum_ends products k s h = let e : drop k products ≡ [] = drop_of_length-le products {i = k} h in rw e (answer_nothing is_owed s)

-- the sum is that of the products
pub sum_from_is : (products : List Product) (s : ℤ) → sum_from products s ≡ s +ℤ list_sum int_ring product_of products
unfolding sum_from list_sum
sum_from_is [] s = ring (s ∷ []) v0 (v0 ⊕ num (pos 0)) refl
sum_from_is (p ∷ rest) s =
    sum_from_is rest (s +ℤ p.left *ℤ p.right)
    ∙ ring (s ∷ p.left ∷ p.right ∷ list_sum int_ring product_of rest ∷ []) ((v0 ⊕ v1 ⊗ v2) ⊕ v3) (v0 ⊕ (v1 ⊗ v2 ⊕ v3)) refl

pub sum_answer_is : (products : List Product) (value : ℤ) → list_sum int_ring product_of products ≡ value
    → sum_answer products (pos 0) ≡ answer is_owed (sum_ops products (pos 0)) value
unfolding sum_answer
sum_answer_is products value h =
    ap (λ (z : ℤ). answer is_owed (sum_ops products (pos 0)) z)
    (sum_from_is products (pos 0) ∙ ap (λ (z : ℤ). pos 0 +ℤ z) h ∙ ring (value ∷ []) (num (pos 0) ⊕ v0) v0 refl)

-- ---- what is answered fits
pub answered_fits : (op : IntOp) (z : ℤ) → answer is_owed (op ∷ []) (exact_result op) ≡ Ok z → FitsInt z
unfolding answer
answered_fits op z h = by (is_owed op) refl h
  where
    by : (b : Bool) → is_owed op ≡ b → (if b then Err op else Ok (exact_result op)) ≡ Ok z → FitsInt z
    by true e h = absurd cc
    by false e h = let same : exact_result op ≡ z = cc in subst FitsInt same (at_least_of_test (2 ^ 127 - 1) (nat_abs (exact_result op)) e)

-- a list in two parts that answers, answers in its second part
second_answers : {V : Type 0} (xs ys : List IntOp) (v z : V) → answer is_owed (xs ++ ys) v ≡ Ok z → answer is_owed ys v ≡ Ok z
unfolding answer
second_answers [] ys v z h = h
second_answers {V} (op ∷ xs) ys v z h = by (is_owed op) h (second_answers xs ys v z)
  where
    by : (b : Bool) → (if b then Err op else answer is_owed (xs ++ ys) v) ≡ Ok z → (answer is_owed (xs ++ ys) v ≡ Ok z → answer is_owed ys v ≡ Ok z)
        → answer is_owed ys v ≡ Ok z
    by true h rec = absurd cc
    by false h rec = rec h

first_answers : {U V : Type 0} (xs ys : List IntOp) (u : U) (v z : V) → answer is_owed (xs ++ ys) v ≡ Ok z → answer is_owed xs u ≡ Ok u
unfolding answer
first_answers [] ys u v z h = refl
first_answers {U} {V} (op ∷ xs) ys u v z h = by (is_owed op) h (first_answers xs ys u v z)
  where
    by : (b : Bool) → (if b then Err op else answer is_owed (xs ++ ys) v) ≡ Ok z → (answer is_owed (xs ++ ys) v ≡ Ok z → answer is_owed xs u ≡ Ok u)
        → (if b then Err op else answer is_owed xs u) ≡ Ok u
    by true h rec = absurd cc
    by false h rec = rec h

product_fits : (s : ℤ) (p : Product) → answer is_owed (product_ops s p) (s +ℤ p.left *ℤ p.right) ≡ Ok (s +ℤ p.left *ℤ p.right)
    → FitsInt (s +ℤ p.left *ℤ p.right)
unfolding product_ops
product_fits s p h =
    let t : ℤ = s +ℤ p.left *ℤ p.right in
    let both : answer is_owed (mul_op p.left p.right ∷ add_op s (p.left *ℤ p.right) ∷ []) t ≡ Ok t =
    second_answers p.before (mul_op p.left p.right ∷ add_op s (p.left *ℤ p.right) ∷ []) t t h in
    answered_fits (add_op s (p.left *ℤ p.right)) t (second_answers (mul_op p.left p.right ∷ []) (add_op s (p.left *ℤ p.right) ∷ []) t t both)

pub sum_fits : (products : List Product) (s z : ℤ) → FitsInt s → sum_answer products s ≡ Ok z → FitsInt z
unfolding sum_answer sum_ops sum_from
sum_fits [] s z f h = let e : Ok s ≡ Ok z = sym (answer_nothing is_owed s) ∙ h in let same : s ≡ z = cc in subst FitsInt same f
sum_fits (p ∷ rest) s z f h =
    let t : ℤ = s +ℤ p.left *ℤ p.right in
    sum_fits rest t z (product_fits s p (first_answers (product_ops s p) (sum_ops rest t) t (sum_from rest t) z h))
    (second_answers (product_ops s p) (sum_ops rest t) (sum_from rest t) z h)

-- ---- a product and a sum
pub product_refused : (s x y v : ℤ) (err : IntOp) → answer is_owed (mul_op x y ∷ []) (x *ℤ y) ≡ Err err
    → answer is_owed (mul_op x y ∷ add_op s (x *ℤ y) ∷ []) v ≡ Err err
product_refused s x y v err h = answer-append_err is_owed (mul_op x y ∷ []) (add_op s (x *ℤ y) ∷ []) (x *ℤ y) v err h

pub product_then_sum : (s x y t : ℤ) → answer is_owed (mul_op x y ∷ []) (x *ℤ y) ≡ Ok t
    → answer is_owed (add_op s t ∷ []) (s +ℤ t) ≡ answer is_owed (mul_op x y ∷ add_op s (x *ℤ y) ∷ []) (s +ℤ x *ℤ y)
product_then_sum s x y t h =
    let done = answer-append_ok is_owed (mul_op x y ∷ []) (add_op s (x *ℤ y) ∷ []) (x *ℤ y) t (s +ℤ x *ℤ y) h in
    ap (λ (t : ℤ). answer is_owed (add_op s t ∷ []) (s +ℤ t)) (sym done.1) ∙ sym done.0

-- the same after a multiple is made
pub multiple_refused : (s x m y v : ℤ) (err : IntOp) → answer is_owed (mul_op m y ∷ []) (m *ℤ y) ≡ Err err
    → answer is_owed (mul_op m y ∷ mul_op x (m *ℤ y) ∷ add_op s (x *ℤ (m *ℤ y)) ∷ []) v ≡ Err err
multiple_refused s x m y v err h = answer-append_err is_owed (mul_op m y ∷ []) (mul_op x (m *ℤ y) ∷ add_op s (x *ℤ (m *ℤ y)) ∷ []) (m *ℤ y) v err h

pub multiple_then_rest : (s x m y t : ℤ) → answer is_owed (mul_op m y ∷ []) (m *ℤ y) ≡ Ok t
    → answer is_owed (mul_op x t ∷ add_op s (x *ℤ t) ∷ []) (s +ℤ x *ℤ t)
    ≡ answer is_owed (mul_op m y ∷ mul_op x (m *ℤ y) ∷ add_op s (x *ℤ (m *ℤ y)) ∷ []) (s +ℤ x *ℤ (m *ℤ y))
multiple_then_rest s x m y t h =
    let done = answer-append_ok is_owed (mul_op m y ∷ []) (mul_op x (m *ℤ y) ∷ add_op s (x *ℤ (m *ℤ y)) ∷ []) (m *ℤ y) t (s +ℤ x *ℤ (m *ℤ y)) h in
    ap (λ (t : ℤ). answer is_owed (mul_op x t ∷ add_op s (x *ℤ t) ∷ []) (s +ℤ x *ℤ t)) (sym done.1) ∙ sym done.0
