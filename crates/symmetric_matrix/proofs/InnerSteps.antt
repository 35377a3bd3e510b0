-- The steps of inner products over two lower triangles.
use Rattle.std.specs.Prelude.{◌≡◌, ℕ, ◌+◌, ◌<◌, ◌≤◌, ℤ, pos, ◌+ℤ◌, ◌*ℤ◌, List, [], ◌∷◌, length, map, drop, slice_index_or, Ok, Err}
use Rattle.std.proofs.Common.{arith, sym, ◌∙◌, ap, ap₂, refl}
use Rattle.std.proofs.lemmas.List.{length-map, get_or-map}
use Rattle.commutative_ring.proofs.Ring.{int_ring}
use Rattle.commutative_ring.proofs.Laws.{mul_left_comm_ℤ}
use Rattle.exact_forms.specs.Triangles.{triangle}
use Rattle.exact_forms.specs.Forms.{inner}
use Rattle.exact_forms.proofs.Forms.{inner_is}
use Rattle.symmetric_matrix.specs.declared.operation.IntOp.{IntOp}
use Rattle.symmetric_matrix.specs.Owed.{answer}
use Rattle.symmetric_matrix.specs.Operations.{is_owed, mul_op, add_op}
use Rattle.symmetric_matrix.specs.Symmetric.{entry}
use Rattle.symmetric_matrix.specs.Recipes.{triangle_places, multiplicity, Product, product_ops, inner_product, inner_ops}
use Rattle.symmetric_matrix.proofs.Places.{entry_lower, entry_flip}
use Rattle.symmetric_matrix.proofs.TrianglePlaces.{place, length-triangle_places, triangle_place_at, sum_by_places}
use Rattle.symmetric_matrix.proofs.Telescopes.{list_sum, list_sum_same}
use Rattle.symmetric_matrix.proofs.Recipes.{product_of, sum_answer, sum_refused, sum_continues, sum_ends, sum_answer_is}
use Rattle.symmetric_matrix.proofs.FormSteps.{symmetric_of, in_row, list_sum_of_map}

pub inner_products : ℕ → List ℤ → List ℤ → List Product
inner_products n lower other = map (inner_product (symmetric_of n lower) (symmetric_of n other)) (triangle_places n)

multiple : ℤ → ℤ → ℤ → Product
multiple q m t = record { before = mul_op m t ∷ []; left = q; right = m *ℤ t }

pub length-inner_products : (n : ℕ) (lower other : List ℤ) → length (inner_products n lower other) ≡ triangle n
unfolding inner_products
length-inner_products n lower other = length-map (triangle_places n) (inner_product (symmetric_of n lower) (symmetric_of n other)) ∙ length-triangle_places n

multiple_ops : (s q m t : ℤ) → product_ops s (multiple q m t) ≡ mul_op m t ∷ mul_op q (m *ℤ t) ∷ add_op s (q *ℤ (m *ℤ t)) ∷ []
unfolding product_ops multiple
multiple_ops s q m t = refl

-- place k is that of row i and column j, where q and t stand
module _ (n : ℕ) (lower other : List ℤ) (k i j : ℕ) (s q m t : ℤ) (long : length lower ≡ triangle n) (e : k ≡ triangle i + j) (h : j ≤ i)
    (l : k < length lower) (is_q : q ≡ slice_index_or lower k (pos 0)) (is_t : t ≡ slice_index_or other k (pos 0))
    (is_m : m ≡ pos (multiplicity (record { row = i; column = j }))) where
  inner_product_at : (d : Product) → slice_index_or (inner_products n lower other) k d ≡ multiple q m t
  unfolding inner_products inner_product multiple
  inner_product_at d =
      let row : i < n = in_row n i j k e (omega arith) in
      get_or-map (inner_product (symmetric_of n lower) (symmetric_of n other)) (triangle_places n) k (place 0 0) d (omega (arith, length-triangle_places n))
      ∙ ap (inner_product (symmetric_of n lower) (symmetric_of n other)) (ap (λ (k : ℕ). slice_index_or (triangle_places n) k (place 0 0)) e
      ∙ triangle_place_at n i j (place 0 0) row h)
      ∙ ap₂ (λ (a : ℤ) (b : ℤ). multiple a (pos (multiplicity (place i j))) b)
      (entry_lower (symmetric_of n lower) i j h ∙ ap (λ (k : ℕ). slice_index_or lower k (pos 0)) (sym e) ∙ sym is_q)
      (entry_lower (symmetric_of n other) i j h ∙ ap (λ (k : ℕ). slice_index_or other k (pos 0)) (sym e) ∙ sym is_t)
      ∙ ap (λ (m : ℤ). multiple q m t) (sym is_m)

  pub inner_refused : (err : IntOp)
      → answer is_owed (mul_op m t ∷ mul_op q (m *ℤ t) ∷ add_op s (q *ℤ (m *ℤ t)) ∷ []) (s +ℤ q *ℤ (m *ℤ t)) ≡ Err err
      → sum_answer (drop k (inner_products n lower other)) s ≡ Err err
  unfolding multiple
  inner_refused err refused =
      sum_refused (inner_products n lower other) k s (multiple q m t) (multiple q m t) err (omega (arith, length-inner_products n lower other))
      (inner_product_at (multiple q m t))
      (ap (λ (ops : List IntOp). answer is_owed ops (s +ℤ q *ℤ (m *ℤ t))) (multiple_ops s q m t) ∙ refused)

  pub inner_continues : (z : ℤ)
      → answer is_owed (mul_op m t ∷ mul_op q (m *ℤ t) ∷ add_op s (q *ℤ (m *ℤ t)) ∷ []) (s +ℤ q *ℤ (m *ℤ t)) ≡ Ok z
      → sum_answer (drop k (inner_products n lower other)) s ≡ sum_answer (drop (k + 1) (inner_products n lower other)) z
  unfolding multiple
  inner_continues z done =
      sum_continues (inner_products n lower other) k s (multiple q m t) (multiple q m t) z (omega (arith, length-inner_products n lower other))
      (inner_product_at (multiple q m t))
      (ap (λ (ops : List IntOp). answer is_owed ops (s +ℤ q *ℤ (m *ℤ t))) (multiple_ops s q m t) ∙ done)

pub inner_ends : (n : ℕ) (lower other : List ℤ) (k : ℕ) (s : ℤ) → length lower ≡ triangle n → length lower ≤ k
    → sum_answer (drop k (inner_products n lower other)) s ≡ Ok s
inner_ends n lower other k s long h = sum_ends (inner_products n lower other) k s (omega (arith, length-inner_products n lower other))

-- the products come to the double sum
inner_value : (n : ℕ) (lower other : List ℤ)
    → list_sum int_ring product_of (inner_products n lower other) ≡ inner n (entry (symmetric_of n lower)) (entry (symmetric_of n other))
unfolding inner_products inner_product
inner_value n lower other =
    let g : ℕ → ℕ → ℤ = λ (i : ℕ) (j : ℕ). entry (symmetric_of n lower) i j *ℤ entry (symmetric_of n other) i j in
    list_sum_of_map (inner_product (symmetric_of n lower) (symmetric_of n other)) (triangle_places n)
    ∙ list_sum_same int_ring _ (λ p. pos (multiplicity p) *ℤ g p.row p.column) (triangle_places n)
    (λ p. mul_left_comm_ℤ (entry (symmetric_of n lower) p.row p.column) (pos (multiplicity p)) (entry (symmetric_of n other) p.row p.column))
    ∙ sum_by_places n g (λ i j hi hj. ap₂ (λ (a : ℤ) (b : ℤ). a *ℤ b) (entry_flip (symmetric_of n lower) i j) (entry_flip (symmetric_of n other) i j))
    ∙ sym (inner_is n (entry (symmetric_of n lower)) (entry (symmetric_of n other)))

pub inner_answer_is : (n : ℕ) (lower other : List ℤ)
    → sum_answer (inner_products n lower other) (pos 0)
    ≡ answer is_owed (inner_ops (symmetric_of n lower) (symmetric_of n other)) (inner n (entry (symmetric_of n lower)) (entry (symmetric_of n other)))
unfolding inner_products inner_ops
inner_answer_is n lower other =
    sum_answer_is (inner_products n lower other) (inner n (entry (symmetric_of n lower)) (entry (symmetric_of n other))) (inner_value n lower other)
