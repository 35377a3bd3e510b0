-- The steps of combinations.
use Rattle.std.specs.Prelude.{◌≡◌, ℕ, ◌+◌, ◌-◌, ◌^◌, ◌<◌, ◌≤◌, ◌⊎◌, ℤ, pos, nat_abs, ◌+ℤ◌, ◌*ℤ◌, Bool, true, false, List, [], ◌∷◌, ◌++◌, map, drop, length}
use Rattle.std.specs.Prelude.{slice_index_or, Some, None, Ok, Err, if◌then◌else◌}
use Rattle.std.specs.List.{flat_map}
use Rattle.std.proofs.Common.{arith, sym, ◌∙◌, ap, ap₂, refl, inl, inr, add-one, drop-cons, drop_of_length-le, append-nil}
use Rattle.std.proofs.lemmas.List.{length-map, get_or_append_left, get_or_push, length_push, append_assoc}
use Rattle.commutative_ring.proofs.SmallCases.{at_least_of_test, at_least_or_at_most, before_or_here}
use Rattle.exact_forms.specs.Triangles.{triangle}
use Rattle.exact_forms.proofs.Triangles.{place_of}
use Rattle.symmetric_matrix.specs.declared.operation.IntOp.{IntOp}
use Rattle.symmetric_matrix.specs.Owed.{answer, first_owed}
use Rattle.symmetric_matrix.specs.Operations.{is_owed, mul_op, add_op}
use Rattle.symmetric_matrix.specs.Symmetric.{Symmetric, FitsInt, entry}
use Rattle.symmetric_matrix.specs.Recipes.{Place, triangle_places}
use Rattle.symmetric_matrix.specs.Combining.{combined, combine_at, combine_ops, AreCombined}
use Rattle.symmetric_matrix.proofs.Owed.{answer-append_err, answer-append_ok, some_of_err, none_of_ok, first_owed-append_none, first_owed-append_some}
use Rattle.symmetric_matrix.proofs.Places.{entry_lower, entry_flip}
use Rattle.symmetric_matrix.proofs.TrianglePlaces.{place, length-triangle_places, triangle_place_at, placed_entry}

-- ---- one entry
abbrev pub entry_ops : ℤ → ℤ → ℤ → ℤ → List IntOp
entry_ops q a p b = mul_op q a ∷ mul_op p b ∷ add_op (q *ℤ a) (p *ℤ b) ∷ []

pub first_product_refused : (q a p b : ℤ) (err : IntOp) → answer is_owed (mul_op q a ∷ []) (q *ℤ a) ≡ Err err
    → answer is_owed (entry_ops q a p b) (q *ℤ a +ℤ p *ℤ b) ≡ Err err
first_product_refused q a p b err h = answer-append_err is_owed (mul_op q a ∷ []) (mul_op p b ∷ add_op (q *ℤ a) (p *ℤ b) ∷ []) (q *ℤ a) (q *ℤ a +ℤ p *ℤ b) err h

pub second_product_refused : (q a p b u : ℤ) (err : IntOp) → answer is_owed (mul_op q a ∷ []) (q *ℤ a) ≡ Ok u
    → answer is_owed (mul_op p b ∷ []) (p *ℤ b) ≡ Err err
    → answer is_owed (entry_ops q a p b) (q *ℤ a +ℤ p *ℤ b) ≡ Err err
second_product_refused q a p b u err h k =
    (answer-append_ok is_owed (mul_op q a ∷ []) (mul_op p b ∷ add_op (q *ℤ a) (p *ℤ b) ∷ []) (q *ℤ a) u (q *ℤ a +ℤ p *ℤ b) h).0
    ∙ answer-append_err is_owed (mul_op p b ∷ []) (add_op (q *ℤ a) (p *ℤ b) ∷ []) (p *ℤ b) (q *ℤ a +ℤ p *ℤ b) err k

pub products_then_sum : (q a p b u v : ℤ) → answer is_owed (mul_op q a ∷ []) (q *ℤ a) ≡ Ok u → answer is_owed (mul_op p b ∷ []) (p *ℤ b) ≡ Ok v
    → answer is_owed (add_op u v ∷ []) (u +ℤ v) ≡ answer is_owed (entry_ops q a p b) (q *ℤ a +ℤ p *ℤ b)
products_then_sum q a p b u v h k =
    let first = answer-append_ok is_owed (mul_op q a ∷ []) (mul_op p b ∷ add_op (q *ℤ a) (p *ℤ b) ∷ []) (q *ℤ a) u (q *ℤ a +ℤ p *ℤ b) h in
    let second = answer-append_ok is_owed (mul_op p b ∷ []) (add_op (q *ℤ a) (p *ℤ b) ∷ []) (p *ℤ b) v (q *ℤ a +ℤ p *ℤ b) k in
    ap₂ (λ (u : ℤ) (v : ℤ). answer is_owed (add_op u v ∷ []) (u +ℤ v)) (sym first.1) (sym second.1) ∙ sym second.0 ∙ sym first.0

-- what was added fits
pub sum_narrow : (q a p b z : ℤ) → answer is_owed (entry_ops q a p b) (q *ℤ a +ℤ p *ℤ b) ≡ Ok z → FitsInt z
unfolding answer
sum_narrow q a p b z h = third (is_owed (mul_op q a)) (is_owed (mul_op p b)) (is_owed (add_op (q *ℤ a) (p *ℤ b))) refl h
  where
    third : (x y w : Bool) → is_owed (add_op (q *ℤ a) (p *ℤ b)) ≡ w
        → (if x then Err (mul_op q a) else if y then Err (mul_op p b) else if w then Err (add_op (q *ℤ a) (p *ℤ b)) else Ok (q *ℤ a +ℤ p *ℤ b)) ≡ Ok z
        → FitsInt z
    third true y w e h = absurd cc
    third false true w e h = absurd cc
    third false false true e h = absurd cc
    third false false false e h =
        let is : z ≡ q *ℤ a +ℤ p *ℤ b = cc in
        rw is (at_least_of_test (2 ^ 127 - 1) (nat_abs (q *ℤ a +ℤ p *ℤ b)) e)

-- ---- the entries in order
pub entry_of : Symmetric → Place → ℤ
entry_of m c = entry m c.row c.column

entry_of_place : (m : Symmetric) (n k : ℕ) (d : Place) → k < triangle n → entry_of m (slice_index_or (triangle_places n) k d) ≡ slice_index_or m.lower k (pos 0)
unfolding entry_of
entry_of_place m n k d l = at (place_of n k l)
  where
    at : ((i : ℕ) × (j : ℕ) × (i < n) × (j ≤ i) × (k ≡ triangle i + j)) → entry_of m (slice_index_or (triangle_places n) k d) ≡ slice_index_or m.lower k (pos 0)
    at (i, j, li, lj, e) =
        ap (λ (k : ℕ). entry_of m (slice_index_or (triangle_places n) k d)) e
        ∙ ap (entry_of m) (triangle_place_at n i j d li lj)
        ∙ entry_lower m i j lj ∙ ap (λ (k : ℕ). slice_index_or m.lower k (pos 0)) (sym e)

module _ (q : ℤ) (P : Symmetric) (p : ℤ) (R : Symmetric) where
  pub sum_at : Place → ℤ
  sum_at c = q *ℤ entry P c.row c.column +ℤ p *ℤ entry R c.row c.column

  -- the sums of the entries so far, and what is left
  pub record IsCombinedTo (k : ℕ) (sums : List ℤ) : Type 0 where
    pub sums_are : sums ++ map sum_at (drop k (triangle_places P.size)) ≡ (combined q P p R).lower
    pub owes : first_owed is_owed (combine_ops q P p R) ≡ first_owed is_owed (flat_map (combine_at q P p R) (drop k (triangle_places P.size)))
    pub fits : (i : ℕ) → i < length sums → FitsInt (slice_index_or sums i (pos 0))

  pub combine_starts : IsCombinedTo 0 []
  unfolding combined combine_ops sum_at
  combine_starts = record { sums_are = refl; owes = refl; fits = λ i l. absurd (omega arith) }

  places_at : (k : ℕ) → k < triangle P.size → (c : Place) × (drop k (triangle_places P.size) ≡ c ∷ drop (k + 1) (triangle_places P.size))
      × (entry P c.row c.column ≡ slice_index_or P.lower k (pos 0)) × (entry R c.row c.column ≡ slice_index_or R.lower k (pos 0))
  unfolding entry_of
  places_at k l =
      let long = length-triangle_places P.size in (
        slice_index_or (triangle_places P.size) k (place 0 0),
        rw add-one (drop-cons (triangle_places P.size) k (place 0 0) (omega (arith, long))),
        entry_of_place P P.size k (place 0 0) l,
        entry_of_place R P.size k (place 0 0) l,
      )

  pub combine_refused : (k : ℕ) (sums : List ℤ) (a b : ℤ) (err : IntOp) → k < triangle P.size → a ≡ slice_index_or P.lower k (pos 0)
      → b ≡ slice_index_or R.lower k (pos 0)
      → answer is_owed (entry_ops q a p b) (q *ℤ a +ℤ p *ℤ b) ≡ Err err → IsCombinedTo k sums → first_owed is_owed (combine_ops q P p R) ≡ Some err
  combine_refused k sums a b err l is_a is_b refused h =
      let c = places_at k l in
      h.owes ∙ ap (λ cs. first_owed is_owed (flat_map (combine_at q P p R) cs)) c.1
      ∙ first_owed-append_some is_owed (combine_at q P p R c.0) (flat_map (combine_at q P p R) (drop (k + 1) (triangle_places P.size))) err
      (ap₂ (λ (a : ℤ) (b : ℤ). first_owed is_owed (entry_ops q a p b)) (c.2 ∙ sym is_a) (c.3 ∙ sym is_b)
      ∙ some_of_err is_owed (entry_ops q a p b) (q *ℤ a +ℤ p *ℤ b) err refused)

  pub combine_continues : (k : ℕ) (sums : List ℤ) (a b z : ℤ) → k < triangle P.size → a ≡ slice_index_or P.lower k (pos 0)
      → b ≡ slice_index_or R.lower k (pos 0)
      → answer is_owed (entry_ops q a p b) (q *ℤ a +ℤ p *ℤ b) ≡ Ok z → IsCombinedTo k sums → IsCombinedTo (k + 1) (sums ++ z ∷ [])
  unfolding sum_at
  combine_continues k sums a b z l is_a is_b done h =
      let c = places_at k l in
      let made = none_of_ok is_owed (entry_ops q a p b) (q *ℤ a +ℤ p *ℤ b) z done in
      let same_z : sum_at c.0 ≡ z = ap₂ (λ (a : ℤ) (b : ℤ). q *ℤ a +ℤ p *ℤ b) (c.2 ∙ sym is_a) (c.3 ∙ sym is_b) ∙ made.1 in
      record {
        sums_are = append_assoc sums (z ∷ []) (map sum_at (drop (k + 1) (triangle_places P.size)))
            ∙ ap (λ (z : ℤ). sums ++ z ∷ map sum_at (drop (k + 1) (triangle_places P.size))) (sym same_z)
            ∙ ap (λ cs. sums ++ map sum_at cs) (sym c.1) ∙ h.sums_are;
        owes = h.owes ∙ ap (λ cs. first_owed is_owed (flat_map (combine_at q P p R) cs)) c.1
            ∙ first_owed-append_none is_owed (combine_at q P p R c.0) (flat_map (combine_at q P p R) (drop (k + 1) (triangle_places P.size)))
            (ap₂ (λ (a : ℤ) (b : ℤ). first_owed is_owed (entry_ops q a p b)) (c.2 ∙ sym is_a) (c.3 ∙ sym is_b) ∙ made.0);
        fits = λ i less. by i (before_or_here i (length sums) (omega (arith, length_push sums z)));
      }
    where
      by : (i : ℕ) → ((i < length sums) ⊎ (i ≡ length sums)) → FitsInt (slice_index_or (sums ++ z ∷ []) i (pos 0))
      by i (inl l) = rw (get_or_append_left sums (z ∷ []) (pos 0) i l) (h.fits i l)
      by i (inr e) = rw (get_or_push sums z (pos 0) i (sym e)) (sum_narrow q a p b z done)

  pub length-combined : length (combined q P p R).lower ≡ triangle P.size
  unfolding combined sum_at
  length-combined = length-map (triangle_places P.size) sum_at ∙ length-triangle_places P.size

  pub combine_ends : (k : ℕ) (sums : List ℤ) → triangle P.size ≤ k → IsCombinedTo k sums → AreCombined q P p R sums
  unfolding first_owed
  combine_ends k sums l h =
      let none : drop k (triangle_places P.size) ≡ [] = drop_of_length-le (triangle_places P.size) {i = k} (omega (arith, length-triangle_places P.size)) in
      let are : sums ≡ (combined q P p R).lower = sym (append-nil sums) ∙ ap (λ cs. sums ++ map sum_at cs) (sym none) ∙ h.sums_are in
      record {
        fits = h.owes ∙ ap (λ cs. first_owed is_owed (flat_map (combine_at q P p R) cs)) none;
        are = are;
        lower = record { entries = ap length are ∙ length-combined; fits = h.fits };
      }

pub combined_is : (q : ℤ) (P : Symmetric) (p : ℤ) (R : Symmetric) (sums : List ℤ) → AreCombined q P p R sums
    → (first_owed is_owed (combine_ops q P p R) ≡ None) × (record { size = P.size; lower = sums } ≡ combined q P p R)
unfolding combined
combined_is q P p R sums h = (h.fits, ap (λ (sums : List ℤ). record { size = P.size; lower = sums }) h.are)

-- each entry
pub combined_entry : (q : ℤ) (P : Symmetric) (p : ℤ) (R : Symmetric) (i j : ℕ) → i < P.size → j < P.size
    → entry (combined q P p R) i j ≡ q *ℤ entry P i j +ℤ p *ℤ entry R i j
unfolding combined sum_at
combined_entry q P p R i j li lj = by (at_least_or_at_most i j)
  where
    lower : (i j : ℕ) → j ≤ i → i < P.size → entry (combined q P p R) i j ≡ q *ℤ entry P i j +ℤ p *ℤ entry R i j
    lower i j h l = placed_entry P.size (sum_at q P p R) i j h l

    by : ((j ≤ i) ⊎ (i ≤ j)) → entry (combined q P p R) i j ≡ q *ℤ entry P i j +ℤ p *ℤ entry R i j
    by (inl h) = lower i j h li
    by (inr h) =
        entry_flip (combined q P p R) i j ∙ lower j i h lj
        ∙ ap₂ (λ (a : ℤ) (b : ℤ). q *ℤ a +ℤ p *ℤ b) (entry_flip P j i) (entry_flip R j i)

pub size-combined : (q : ℤ) (P : Symmetric) (p : ℤ) (R : Symmetric) → (combined q P p R).size ≡ P.size
unfolding combined
size-combined q P p R = refl
