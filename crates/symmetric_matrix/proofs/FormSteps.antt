-- The steps of forms and inner products over a lower triangle.
use Rattle.std.specs.Prelude.{◌≡◌, ℕ, ◌+◌, ◌*◌, ◌^◌, ◌<◌, ◌≤◌, ◌-◌, nat_eq, nat_abs, if◌then◌else◌, Bool, true, false, ℤ, pos, ◌+ℤ◌, ◌*ℤ◌, List, [], ◌∷◌, ◌++◌}
use Rattle.std.specs.Prelude.{length, map, drop, slice_index_or, Some, None, Ok, Err}
use Rattle.std.proofs.Common.{arith, sym, ◌∙◌, ap, ap₂, refl, mul-le-mul}
use Rattle.std.proofs.lemmas.Int.{to_z_pos}
use Rattle.std.proofs.lemmas.List.{length-map, get_or-map}
use mir.Val.{to_z}
use mir.Syntax.{w128}
use Rattle.commutative_ring.proofs.Ring.{int_ring, ring, ◌⊗◌, v0, v1, v2, v3}
use Rattle.commutative_ring.proofs.SmallCases.{at_least_of_test}
use Rattle.exact_forms.specs.Triangles.{triangle}
use Rattle.exact_forms.specs.Forms.{form}
use Rattle.exact_forms.specs.Vectors.{coordinate}
use Rattle.exact_forms.proofs.Forms.{bilinear_is}
use Rattle.exact_forms.proofs.Triangles.{triangle_more, row_before}
use Rattle.symmetric_matrix.specs.declared.operation.IntOp.{IntOp}
use Rattle.symmetric_matrix.specs.Owed.{answer, first_owed}
use Rattle.symmetric_matrix.specs.Operations.{is_owed, exact_result, mul_op, add_op}
use Rattle.symmetric_matrix.specs.Symmetric.{Symmetric, FitsInt, entry}
use Rattle.symmetric_matrix.specs.Recipes.{triangle_places, multiplicity, Product, product_ops, sum_ops, form_product, form_ops}
use Rattle.symmetric_matrix.proofs.Owed.{none_of_ok}
use Rattle.symmetric_matrix.proofs.Places.{entry_lower, entry_flip}
use Rattle.symmetric_matrix.proofs.TrianglePlaces.{place, length-triangle_places, triangle_place_at, sum_by_places}
use Rattle.symmetric_matrix.proofs.Telescopes.{list_sum, list_sum_same}
use Rattle.symmetric_matrix.proofs.Recipes.{product_of, sum_from, sum_answer, sum_refused, sum_continues, sum_ends, sum_answer_is}

-- ---- places in order
pub in_row : (n i j k : ℕ) → k ≡ triangle i + j → k < triangle n → i < n
in_row n i j k e h = row_before i j n (omega arith)

pub next_in_row : (i j k : ℕ) → k ≡ triangle i + j → k + 1 ≡ triangle i + (j + 1)
next_in_row i j k e = omega arith

pub next_row_begins : (i j k : ℕ) → k ≡ triangle i + j → j ≤ i → i ≤ j → k + 1 ≡ triangle (i + 1) + 0
next_row_begins i j k e h l = omega (arith, triangle_more i)

-- ---- the weight fits
pub weight_fits : (x : List ℕ) (i j t a b : ℕ) → a ≡ slice_index_or x i 0 → b ≡ slice_index_or x j 0 → slice_index_or x i 0 ≤ 2 ^ 62
    → slice_index_or x j 0 ≤ 2 ^ 62
    → t ≡ (if nat_eq i j then 1 else 2)
    → to_z w128 (t * (a * b)) ≡ pos (multiplicity (record { row = i; column = j }) * (slice_index_or x i 0 * slice_index_or x j 0))
unfolding multiplicity
weight_fits x i j t a b ea eb sa sb et =
    let product : a * b ≤ 2 ^ 62 * 2 ^ 62 = rw (ea, eb) (mul-le-mul sa sb) in
    let times : t ≤ 2 = rw et (at_most_two (nat_eq i j)) in
    let whole : t * (a * b) ≤ 2 * (2 ^ 62 * 2 ^ 62) = mul-le-mul times product in
    to_z_pos w128 (t * (a * b)) (omega arith) ∙ ap pos (ap₂ (λ (m : ℕ) (n : ℕ). m * n) et (ap₂ (λ (m : ℕ) (n : ℕ). m * n) ea eb))
  where
    at_most_two : (b : Bool) → (if b then 1 else 2) ≤ 2
    at_most_two true = omega arith
    at_most_two false = omega arith

-- ---- a form
abbrev pub symmetric_of : ℕ → List ℤ → Symmetric
symmetric_of n lower = record { size = n; lower = lower }

pub form_products : List ℕ → List ℤ → List Product
form_products x lower = map (form_product (symmetric_of (length x) lower) x) (triangle_places (length x))

plain_product : ℤ → ℤ → Product
plain_product q w = record { before = []; left = q; right = w }

pub length-form_products : (x : List ℕ) (lower : List ℤ) → length (form_products x lower) ≡ triangle (length x)
unfolding form_products
length-form_products x lower = length-map (triangle_places (length x)) (form_product (symmetric_of (length x) lower) x) ∙ length-triangle_places (length x)

plain_ops : (s q w : ℤ) → product_ops s (plain_product q w) ≡ mul_op q w ∷ add_op s (q *ℤ w) ∷ []
unfolding product_ops plain_product
plain_ops s q w = refl

-- place k is that of row i and column j, where q and w stand
module _ (x : List ℕ) (lower : List ℤ) (k i j : ℕ) (s q w : ℤ) (long : length lower ≡ triangle (length x)) (e : k ≡ triangle i + j) (h : j ≤ i)
    (l : k < length lower) (is_q : q ≡ slice_index_or lower k (pos 0))
    (is_w : w ≡ pos (multiplicity (record { row = i; column = j }) * (slice_index_or x i 0 * slice_index_or x j 0))) where
  form_product_at : (d : Product) → slice_index_or (form_products x lower) k d ≡ plain_product q w
  unfolding form_products form_product plain_product
  form_product_at d =
      let n : ℕ = length x in
      let row : i < length x = in_row (length x) i j k e (omega arith) in
      get_or-map (form_product (symmetric_of (length x) lower) x) (triangle_places (length x)) k (place 0 0) d
      (omega (arith, length-triangle_places (length x)))
      ∙ ap (form_product (symmetric_of (length x) lower) x) (ap (λ (k : ℕ). slice_index_or (triangle_places (length x)) k (place 0 0)) e
      ∙ triangle_place_at (length x) i j (place 0 0) row h)
      ∙ ap₂ (λ (a : ℤ) (b : ℤ). plain_product a b)
      (entry_lower (symmetric_of (length x) lower) i j h ∙ ap (λ (k : ℕ). slice_index_or lower k (pos 0)) (sym e) ∙ sym is_q)
      (sym is_w)

  pub form_refused : (err : IntOp) → answer is_owed (mul_op q w ∷ add_op s (q *ℤ w) ∷ []) (s +ℤ q *ℤ w) ≡ Err err
      → sum_answer (drop k (form_products x lower)) s ≡ Err err
  unfolding plain_product
  form_refused err refused =
      sum_refused (form_products x lower) k s (plain_product q w) (plain_product q w) err (omega (arith, length-form_products x lower))
      (form_product_at (plain_product q w))
      (ap (λ (ops : List IntOp). answer is_owed ops (s +ℤ q *ℤ w)) (plain_ops s q w) ∙ refused)

  pub form_continues : (z : ℤ) → answer is_owed (mul_op q w ∷ add_op s (q *ℤ w) ∷ []) (s +ℤ q *ℤ w) ≡ Ok z
      → sum_answer (drop k (form_products x lower)) s ≡ sum_answer (drop (k + 1) (form_products x lower)) z
  unfolding plain_product
  form_continues z done =
      sum_continues (form_products x lower) k s (plain_product q w) (plain_product q w) z (omega (arith, length-form_products x lower))
      (form_product_at (plain_product q w))
      (ap (λ (ops : List IntOp). answer is_owed ops (s +ℤ q *ℤ w)) (plain_ops s q w) ∙ done)

pub form_ends : (x : List ℕ) (lower : List ℤ) (k : ℕ) (s : ℤ) → length lower ≡ triangle (length x) → length lower ≤ k
    → sum_answer (drop k (form_products x lower)) s ≡ Ok s
form_ends x lower k s long h = sum_ends (form_products x lower) k s (omega (arith, length-form_products x lower))

-- the products come to the double sum
pub list_sum_of_map : {X : Type 0} (f : X → Product) (xs : List X) → list_sum int_ring product_of (map f xs) ≡ list_sum int_ring (λ x. product_of (f x)) xs
unfolding list_sum
list_sum_of_map f [] = refl
list_sum_of_map f (x ∷ xs) = ap (λ (z : ℤ). product_of (f x) +ℤ z) (list_sum_of_map f xs)

form_value : (x : List ℕ) (lower : List ℤ)
    → list_sum int_ring product_of (form_products x lower) ≡ form (length x) (entry (symmetric_of (length x) lower)) (coordinate x)
unfolding form_products form_product
form_value x lower =
    let q : Symmetric = symmetric_of (length x) lower in
    let g : ℕ → ℕ → ℤ = λ (i : ℕ) (j : ℕ). entry (symmetric_of (length x) lower) i j *ℤ (coordinate x i *ℤ coordinate x j) in
    list_sum_of_map (form_product (symmetric_of (length x) lower) x) (triangle_places (length x))
    ∙ list_sum_same int_ring _ (λ p. pos (multiplicity p) *ℤ g p.row p.column) (triangle_places (length x))
    (λ p. moved (entry (symmetric_of (length x) lower) p.row p.column) (multiplicity p) (slice_index_or x p.row 0) (slice_index_or x p.column 0))
    ∙ sum_by_places (length x) g
    (λ i j hi hj. flipped (entry (symmetric_of (length x) lower) i j) (entry (symmetric_of (length x) lower) j i) (coordinate x i) (coordinate x j)
    (entry_flip (symmetric_of (length x) lower) i j))
    ∙ sym (bilinear_is (length x) (entry (symmetric_of (length x) lower)) (coordinate x) (coordinate x))
  where
    moved : (q : ℤ) (m a b : ℕ) → q *ℤ pos (m * (a * b)) ≡ pos m *ℤ (q *ℤ (pos a *ℤ pos b))
    moved q m a b = ring (q ∷ pos m ∷ pos a ∷ pos b ∷ []) (v0 ⊗ (v1 ⊗ (v2 ⊗ v3))) (v1 ⊗ (v0 ⊗ (v2 ⊗ v3))) refl

    flipped : (p q a b : ℤ) → p ≡ q → p *ℤ (a *ℤ b) ≡ q *ℤ (b *ℤ a)
    flipped p q a b e = ap (λ (p : ℤ). p *ℤ (a *ℤ b)) e ∙ ring (q ∷ a ∷ b ∷ []) (v0 ⊗ (v1 ⊗ v2)) (v0 ⊗ (v2 ⊗ v1)) refl

pub form_answer_is : (x : List ℕ) (lower : List ℤ)
    → sum_answer (form_products x lower) (pos 0)
    ≡ answer is_owed (form_ops (symmetric_of (length x) lower) x) (form (length x) (entry (symmetric_of (length x) lower)) (coordinate x))
unfolding form_products form_ops
form_answer_is x lower = sum_answer_is (form_products x lower) (form (length x) (entry (symmetric_of (length x) lower)) (coordinate x)) (form_value x lower)

-- ---- what is answered fits
pub both_fit : (xs ys : List IntOp) → first_owed is_owed (xs ++ ys) ≡ None → (first_owed is_owed xs ≡ None) × (first_owed is_owed ys ≡ None)
unfolding first_owed
both_fit [] ys h = (refl, h)
both_fit (x ∷ xs) ys h = by (is_owed x) h (both_fit xs ys)
  where
    by : (b : Bool) → (if b then Some x else first_owed is_owed (xs ++ ys)) ≡ None
        → (first_owed is_owed (xs ++ ys) ≡ None → (first_owed is_owed xs ≡ None) × (first_owed is_owed ys ≡ None))
        → ((if b then Some x else first_owed is_owed xs) ≡ None) × (first_owed is_owed ys ≡ None)
    by true h rec = absurd cc
    by false h rec = rec h

one_fits : (op : IntOp) → first_owed is_owed (op ∷ []) ≡ None → nat_abs (exact_result op) ≤ 2 ^ 127 - 1
unfolding first_owed
one_fits op h = by (is_owed op) refl h
  where
    by : (b : Bool) → is_owed op ≡ b → (if b then Some op else None) ≡ None → nat_abs (exact_result op) ≤ 2 ^ 127 - 1
    by true e h = absurd cc
    by false e h = at_least_of_test (2 ^ 127 - 1) (nat_abs (exact_result op)) e

pub sum_fits : (products : List Product) (s : ℤ) → FitsInt s → first_owed is_owed (sum_ops products s) ≡ None → FitsInt (sum_from products s)
unfolding sum_ops sum_from product_ops
sum_fits [] s fits h = fits
sum_fits (p ∷ rest) s fits h =
    let parts = both_fit (p.before ++ (mul_op p.left p.right ∷ add_op s (p.left *ℤ p.right) ∷ [])) (sum_ops rest (s +ℤ p.left *ℤ p.right)) h in
    let last = both_fit (mul_op p.left p.right ∷ []) (add_op s (p.left *ℤ p.right) ∷ [])
    (both_fit p.before (mul_op p.left p.right ∷ add_op s (p.left *ℤ p.right) ∷ []) parts.0).1 in
    sum_fits rest (s +ℤ p.left *ℤ p.right) (one_fits (add_op s (p.left *ℤ p.right)) last.1) parts.1

-- the value of a form of which no operation is owed fits
pub form_fits : (q : Symmetric) (x : List ℕ) (z : ℤ) → length x ≡ q.size → answer is_owed (form_ops q x) (form q.size (entry q) (coordinate x)) ≡ Ok z
    → FitsInt z
unfolding sum_answer
form_fits q x z size h =
    let e = ap (λ (n : ℕ). answer is_owed (form_ops (symmetric_of n q.lower) x) (form n (entry (symmetric_of n q.lower)) (coordinate x))) size ∙ h in
    let made = none_of_ok is_owed (sum_ops (form_products x q.lower) (pos 0)) (sum_from (form_products x q.lower) (pos 0)) z (form_answer_is x q.lower ∙ e) in
    rw (← made.1) (sum_fits (form_products x q.lower) (pos 0) (omega arith) made.0)
