-- A row and a column of a lower triangle, set one place after the other.
use Rattle.std.specs.Prelude.{◌≡◌, ◌≢◌, ◌⊎◌, ℕ, ◌<◌, ◌≤◌, ◌+◌, max, min, ℤ, pos, List, length, slice_index_or, slice_set}
use Rattle.std.proofs.Common.{arith, sym, ◌∙◌, ap, ap₂, refl, inl, inr, get_or-set_other, get_or-set_same, length-set}
use Rattle.commutative_ring.proofs.SmallCases.{at_least_or_below, same_or_not, before_or_here}
use Rattle.exact_forms.specs.Triangles.{triangle}
use Rattle.exact_forms.proofs.Triangles.{place_decides}
use Rattle.unimodular_cone.specs.Replacement.{IsPartRowSet}
use Rattle.unimodular_cone.proofs.Fields.{place_below}

-- another place than that of r and k
other_place : (r k a b : ℕ) → b ≤ a → ((a ≢ max r k) ⊎ (b ≢ min r k)) → triangle a + b ≢ triangle (max r k) + min r k
other_place r k a b le ne e = by ne
  where
    same : (a ≡ max r k) × (b ≡ min r k)
    same = place_decides a b (max r k) (min r k) le (omega arith) e

    by : ((a ≢ max r k) ⊎ (b ≢ min r k)) → ⊥
    by (inl h) = h same.0
    by (inr h) = h same.1

pub row_set_more : (r k at : ℕ) (old row new : List ℤ) (v : ℤ) → IsPartRowSet k r old row new → length old ≡ 36 → r < 8 → k < 8
    → at ≡ triangle (max r k) + min r k → v ≡ slice_index_or row k (pos 0) → IsPartRowSet (k + 1) r old row (slice_set new at v)
row_set_more r k at old row new v h size lr lk place is = record {
  room = length-set new at v ∙ h.room;
  in_row = λ b le l. row_at b le (before_or_here b k l);
  in_column = λ a le l. column_at a le (before_or_here a k l);
  elsewhere = λ a b le na nb. kept a b le (apart a b le na nb) (h.elsewhere a b le na nb);
}
  where
    below : triangle (max r k) + min r k < 36
    below = place_below (max r k) (min r k) (omega arith) (omega arith)

    kept : (a b : ℕ) {z : ℤ} → b ≤ a → ((a ≢ max r k) ⊎ (b ≢ min r k)) → slice_index_or new (triangle a + b) (pos 0) ≡ z
        → slice_index_or (slice_set new at v) (triangle a + b) (pos 0) ≡ z
    kept a b le ne e = get_or-set_other new at (triangle a + b) v (pos 0) (λ f. other_place r k a b le ne (f ∙ place)) ∙ e

    here : (a b : ℕ) → a ≡ max r k → b ≡ min r k → slice_index_or (slice_set new at v) (triangle a + b) (pos 0) ≡ slice_index_or row k (pos 0)
    here a b ea eb =
        let e : triangle a + b ≡ at = ap₂ (λ (x : ℕ) (y : ℕ). triangle x + y) ea eb ∙ sym place in
        let room : at < length new = omega (arith, h.room, place, below) in
        ap (λ (w : ℕ). slice_index_or (slice_set new at v) w (pos 0)) e ∙ get_or-set_same new at v (pos 0) room ∙ is

    row_at : (b : ℕ) → b ≤ r → ((b < k) ⊎ (b ≡ k)) → slice_index_or (slice_set new at v) (triangle r + b) (pos 0) ≡ slice_index_or row b (pos 0)
    row_at b le (inl lt) = kept r b le (differs b r k le lt) (h.in_row b le lt)
      where
        differs : (b r k : ℕ) → b ≤ r → b < k → (r ≢ max r k) ⊎ (b ≢ min r k)
        differs b r k le lt = side (before_or_at b r le)
          where
            before_or_at : (b r : ℕ) → b ≤ r → (b < r) ⊎ (b ≡ r)
            before_or_at b r le = grind arith

            side : ((b < r) ⊎ (b ≡ r)) → (r ≢ max r k) ⊎ (b ≢ min r k)
            side (inl l) = inr (λ e. absurd (omega arith))
            side (inr e) = inl (λ f. absurd (omega arith))
    row_at b le (inr e) = here r b (omega arith) (omega arith) ∙ ap (λ (w : ℕ). slice_index_or row w (pos 0)) (sym e)

    column_at : (a : ℕ) → r ≤ a → ((a < k) ⊎ (a ≡ k)) → slice_index_or (slice_set new at v) (triangle a + r) (pos 0) ≡ slice_index_or row a (pos 0)
    column_at a le (inl lt) = kept a r le (inl (λ e. absurd (omega arith))) (h.in_column a le lt)
    column_at a le (inr e) = here a r (omega arith) (omega arith) ∙ ap (λ (w : ℕ). slice_index_or row w (pos 0)) (sym e)

    apart : (a b : ℕ) → b ≤ a → a ≢ r → b ≢ r → (a ≢ max r k) ⊎ (b ≢ min r k)
    apart a b le na nb = by (at_least_or_below r k)
      where
        by : ((k ≤ r) ⊎ (r < k)) → (a ≢ max r k) ⊎ (b ≢ min r k)
        by (inl le) = inl (λ e. na (omega arith))
        by (inr lt) = inr (λ e. nb (omega arith))

-- the corner of a row that is set is written again
pub row_set_corner : (n r at here : ℕ) (old row new : List ℤ) (v : ℤ) → IsPartRowSet n r old row new → length old ≡ 36 → r < 8 → r < length row
    → at ≡ triangle r + r → here ≡ r → IsPartRowSet n r old (slice_set row here v) (slice_set new at v)
row_set_corner n r at here old row new v h size lr room place is = record {
  room = length-set new at v ∙ h.room;
  in_row = λ b le l. rw is (in_row b l le (same_or_not b r));
  in_column = λ a le l. rw is (in_column a l le (same_or_not a r));
  elsewhere = λ a b le na nb. kept a b le (inl na) ∙ h.elsewhere a b le na nb;
}
  where
    below : triangle r + r < 36
    below = place_below r r (omega arith) lr

    kept : (a b : ℕ) → b ≤ a → ((a ≢ r) ⊎ (b ≢ r)) → slice_index_or (slice_set new at v) (triangle a + b) (pos 0) ≡ slice_index_or new (triangle a + b) (pos 0)
    kept a b le ne = get_or-set_other new at (triangle a + b) v (pos 0) (λ e. by ne (place_decides a b r r le (omega arith) (e ∙ place)))
      where
        by : ((a ≢ r) ⊎ (b ≢ r)) → (a ≡ r) × (b ≡ r) → ⊥
        by (inl f) same = f same.0
        by (inr f) same = f same.1

    corner : (a b : ℕ) → a ≡ r → b ≡ r → slice_index_or (slice_set new at v) (triangle a + b) (pos 0) ≡ slice_index_or (slice_set row r v) r (pos 0)
    corner a b ea eb =
        let e : triangle a + b ≡ at = ap₂ (λ (x : ℕ) (y : ℕ). triangle x + y) ea eb ∙ sym place in
        ap (λ (w : ℕ). slice_index_or (slice_set new at v) w (pos 0)) e
        ∙ get_or-set_same new at v (pos 0) (omega (arith, h.room, place, below)) ∙ sym (get_or-set_same row r v (pos 0) room)

    in_row : (b : ℕ) → b < n → b ≤ r → ((b ≡ r) ⊎ (b ≢ r))
        → slice_index_or (slice_set new at v) (triangle r + b) (pos 0) ≡ slice_index_or (slice_set row r v) b (pos 0)
    in_row b l le (inl e) = corner r b refl e ∙ ap (λ (w : ℕ). slice_index_or (slice_set row r v) w (pos 0)) (sym e)
    in_row b l le (inr ne) = kept r b le (inr ne) ∙ h.in_row b le l ∙ sym (get_or-set_other row r b v (pos 0) ne)

    in_column : (a : ℕ) → a < n → r ≤ a → ((a ≡ r) ⊎ (a ≢ r))
        → slice_index_or (slice_set new at v) (triangle a + r) (pos 0) ≡ slice_index_or (slice_set row r v) a (pos 0)
    in_column a l le (inl e) = corner a r e refl ∙ ap (λ (w : ℕ). slice_index_or (slice_set row r v) w (pos 0)) (sym e)
    in_column a l le (inr ne) = kept a r le (inl ne) ∙ h.in_column a le l ∙ sym (get_or-set_other row r a v (pos 0) ne)
