-- The entries that are kept, and what an exchange makes of them.
use Rattle.std.specs.Prelude.{◌≡◌, ◌≢◌, ℕ, zero, suc, ◌+◌, ◌*◌, ◌<◌, ◌≤◌, ◌^◌, ℤ, pos, negsuc, nat_abs, ◌≤ℤ◌, List, [], ◌∷◌, ◌++◌, length, get_or, take, drop}
use Rattle.std.specs.Prelude.{set, Bool, ◌⊎◌, Option, Some, None, Result, Ok, Err}
use Rattle.std.proofs.Common.{arith, sym, ◌∙◌, ap, refl, subst, to_z, of_z, to_z-of_z, FitsSigned, inl, inr, drop_of_length-le, append-nil, take_all}
use Rattle.std.proofs.lemmas.Int.{ints}
use mir.Syntax.{w64, w128}
use Rattle.std.proofs.lemmas.List.{length-map, map-set, get_or-set_same, get_or-set_other}
use Rattle.commutative_ring.proofs.Ring.{ring, num, v0, ◌⊗◌}
use Rattle.commutative_ring.proofs.SmallCases.{positive_abs, same_or_not}
use Rattle.exact_forms.specs.Rational.{Rational, ratio, whole}
use Rattle.exact_forms.proofs.Rational.{ratio_same, ratio_parts}
use Rattle.exact_forms.proofs.Lists.{drop_at}
use Rattle.symmetric_matrix.specs.Owed.{answer, first_owed}
use Rattle.symmetric_matrix.proofs.Owed.{answer_is_first_owed, none_of_ok}
use Rattle.exact_linear.specs.Tables.{entry_of}
use Rattle.exact_linear.specs.Whole.{fractions_over, whole_at, AreSmallWholes, entries_in}
use Rattle.exact_linear.specs.Exchange.{entry_is_owed, table_ops, table_cells, pivot_row}
use Rattle.exact_linear.proofs.Results.{read_map}
use Rattle.exact_linear.proofs.Rows.{joined}
use Rattle.exact_linear.proofs.NothingOwed.{IsScale, nothing_owed}
use Rattle.exact_linear.proofs.WholeEntries.{fractions_entry, entries_over, pivot_over}
use Rattle.exact_linear.proofs.Rectangles.{rest_length}

pub kept_wholes : (d : ℤ) (ws : List ℤ) (xs : List Rational) → pos 1 ≤ℤ d → entries_in d ws xs ≡ fractions_over (nat_abs d) ws
unfolding entries_in
kept_wholes (pos zero) ws xs h = absurd (omega (arith, ints))
kept_wholes (pos (suc n)) ws xs h = refl
kept_wholes (negsuc n) ws xs h = absurd (omega (arith, ints))

pub kept_fractions : (ws : List ℤ) (xs : List Rational) → entries_in (pos 0) ws xs ≡ xs
unfolding entries_in
kept_fractions ws xs = refl

pub length-kept : (d : ℤ) (ws : List ℤ) (xs : List Rational) → length xs ≡ length ws → length (entries_in d ws xs) ≡ length ws
unfolding entries_in
length-kept (pos zero) ws xs e = e
length-kept (pos (suc n)) ws xs e = length-map ws (λ (w : ℤ). ratio w (suc n))
length-kept (negsuc n) ws xs e = e

-- a whole number that is 0 is an entry that is 0
pub whole_some : (d k : ℕ) (ws : List ℤ) → 0 < d → entry_of (fractions_over d ws) k ≢ whole (pos 0) → whole_at ws k ≢ pos 0
unfolding whole
whole_some d k ws h ne e =
    ne (fractions_entry d ws k h ∙ ap (λ (z : ℤ). ratio z d) e
    ∙ ratio_same (pos 0) (pos 0) d 1 h (let o : 0 < 1 = omega arith in o) (ring (pos d ∷ []) (num (pos 0) ⊗ num (pos 1)) (num (pos 0) ⊗ v0) refl))

pub whole_owes_nothing : (w r c d : ℕ) (ws : List ℤ) → IsScale d → AreSmallWholes ws → whole_at ws (r * w + c) ≢ pos 0
    → answer entry_is_owed (table_ops w (fractions_over d ws) r c) (tt {0}) ≡ Ok (tt {0})
whole_owes_nothing w r c d ws h s ne = nothing_owed w r c d (whole_at ws (r * w + c)) (fractions_over d ws) (pivot_over d ws (r * w + c) h s ne)
    (entries_over d ws h s)

pub fraction_written : (d k : ℕ) (ws : List ℤ) (into : List Rational) → 0 < d → k < length ws → length into ≡ length ws
    → take k into ++ drop k (fractions_over d ws) ≡ take (k + 1) (set into k (ratio (whole_at ws k) d)) ++ drop (k + 1) (fractions_over d ws)
fraction_written d k ws into h l s =
    let size : length (fractions_over d ws) ≡ length ws = length-map ws (λ (w : ℤ). ratio w d) in
    rw (drop_at (fractions_over d ws) k (ratio (whole_at ws k) d) (omega arith)
    (sym (read_map (λ (w : ℤ). ratio w d) ws k (pos 0) (ratio (whole_at ws k) d) l)))
    (joined into k (ratio (whole_at ws k) d) (drop (k + 1) (fractions_over d ws)) (omega arith))

pub ok_of_none : {O V : Type 0} (owed : O → Bool) (ops : List O) (v : V) → first_owed owed ops ≡ None → Ok v ≡ answer owed ops v
ok_of_none {O} {V} owed ops v e =
    sym (answer_is_first_owed owed ops v ∙ ap (λ (f : Option O). elim f as (λ _. Result V O) [ None ↦ Ok v | Some op ↦ Err op ]) e)

pub kept_size : (all : List Rational) (den : ℤ) (ws : List ℤ) (xs : List Rational) (n : ℕ) → all ≡ entries_in den ws xs → length xs ≡ length ws
    → length all ≡ n → length ws ≡ n
kept_size all den ws xs n v e h = sym (length-kept den ws xs e) ∙ ap length (sym v) ∙ h

pub kept_over : (all : List Rational) (den : ℤ) (ws : List ℤ) (xs : List Rational) → all ≡ entries_in den ws xs → pos 1 ≤ℤ den
    → all ≡ fractions_over (nat_abs den) ws
kept_over all den ws xs v h = v ∙ kept_wholes den ws xs h

pub kept_pivot : (all : List Rational) (den : ℤ) (ws : List ℤ) (xs : List Rational) (k : ℕ) → all ≡ entries_in den ws xs → pos 1 ≤ℤ den
    → entry_of all k ≢ whole (pos 0) → whole_at ws k ≢ pos 0
kept_pivot all den ws xs k v h ne =
    whole_some (nat_abs den) k ws (positive_abs den h)
    (subst (λ (all : List Rational). entry_of all k ≢ whole (pos 0)) (kept_over all den ws xs v h) ne)

pub kept_owes : (w r c : ℕ) (all : List Rational) (den : ℤ) (ws : List ℤ) (xs : List Rational) → all ≡ entries_in den ws xs → pos 1 ≤ℤ den
    → nat_abs den < 2 ^ 63 → AreSmallWholes ws → entry_of all (r * w + c) ≢ whole (pos 0)
    → first_owed entry_is_owed (table_ops w all r c) ≡ None
kept_owes w r c all den ws xs v h l s ne =
    subst (λ (all : List Rational). first_owed entry_is_owed (table_ops w all r c) ≡ None) (sym (kept_over all den ws xs v h))
    (none_of_ok entry_is_owed (table_ops w (fractions_over (nat_abs den) ws) r c) (tt {0}) (tt {0})
    (whole_owes_nothing w r c (nat_abs den) ws (record { positive = positive_abs den h; small = l }) s
    (kept_pivot all den ws xs (r * w + c) v h ne))).0

pub above_zero : (den : ℤ) → pos 0 ≤ℤ den → den ≢ pos 0 → pos 1 ≤ℤ den
above_zero den h n = omega (arith, ints)

pub abs_at_least_one : (z : ℤ) → z ≢ pos 0 → pos 1 ≤ℤ pos (nat_abs z)
abs_at_least_one z n = omega (arith, ints)

-- the entries after an exchange, over the size of the pivot
pub kept_made : (w r c : ℕ) (all : List Rational) (den : ℤ) (ws new : List ℤ) (xs ys : List Rational) (P : ℤ) (e : ℤ) → all ≡ entries_in den ws xs
    → pos 1 ≤ℤ den → e ≡ pos (nat_abs P) → P ≢ pos 0
    → fractions_over (nat_abs P) new ≡ table_cells w (fractions_over (nat_abs den) ws) r c → entries_in e new ys ≡ table_cells w all r c
kept_made w r c all den ws new xs ys P e v h s ne made =
    rw s (kept_wholes (pos (nat_abs P)) new ys (abs_at_least_one P ne) ∙ made
    ∙ ap (λ (all : List Rational). table_cells w all r c) (sym (kept_over all den ws xs v h)))

pub wide_den_back : (z : ℤ) → FitsSigned w64 z → to_z w128 (of_z w128 (to_z w64 (of_z w64 z))) ≡ z
wide_den_back z h = let f : FitsSigned w128 z = omega (arith, ints) in rw (to_z-of_z h) (to_z-of_z f)

-- the whole numbers so far, and the entries that are left
pub taken_whole : (k : ℕ) (from : List Rational) (into : List ℤ) (x : Rational) (w : ℤ) → k < length from → length into ≡ length from
    → x ≡ get_or from k x → x ≡ ratio w 1
    → take k (fractions_over 1 into) ++ drop k from ≡ take (k + 1) (fractions_over 1 (set into k w)) ++ drop (k + 1) from
taken_whole k from into x w l s e is =
    let size : length (fractions_over 1 into) ≡ length into = length-map into (λ (w : ℤ). ratio w 1) in
    ap (λ (t : List Rational). take k (fractions_over 1 into) ++ t) (drop_at from k x l e)
    ∙ joined (fractions_over 1 into) k x (drop (k + 1) from) (omega arith)
    ∙ ap (λ (t : List Rational). take (k + 1) t ++ drop (k + 1) from)
    (ap (λ (x : Rational). set (fractions_over 1 into) k x) is ∙ sym (map-set (λ (w : ℤ). ratio w 1) into k w))

pub set_small : (ws : List ℤ) (k : ℕ) (w : ℤ) → k < length ws → AreSmallWholes ws → nat_abs w < 2 ^ 63 → AreSmallWholes (set ws k w)
set_small ws k w l h s = record { small = λ m. by m (same_or_not m k) }
  where
    by : (m : ℕ) → ((m ≡ k) ⊎ (m ≢ k)) → nat_abs (whole_at (set ws k w) m) < 2 ^ 63
    by m (inl e) = rw (e, get_or-set_same ws k w (pos 0) l) s
    by m (inr n) = rw (get_or-set_other ws k m w (pos 0) n) (h.small m)

pub all_taken : (k : ℕ) (from : List Rational) (into : List ℤ) → length from ≤ k → length into ≡ length from
    → take k (fractions_over 1 into) ++ drop k from ≡ from → fractions_over 1 into ≡ from
all_taken k from into l s h =
    let size : length (fractions_over 1 into) ≡ length into = length-map into (λ (w : ℤ). ratio w 1) in
    let none : drop k from ≡ [] = drop_of_length-le from {i = k} l in
    sym (ap (λ (t : List Rational). take k (fractions_over 1 into) ++ t) none ∙ append-nil (take k (fractions_over 1 into))
    ∙ take_all k (fractions_over 1 into) (omega arith)) ∙ h

pub kept_ones : (ws : List ℤ) (xs : List Rational) → fractions_over 1 ws ≡ xs → entries_in (pos 1) ws xs ≡ xs
unfolding entries_in
kept_ones ws xs h = h

pub whole_is : (x : Rational) (w : ℤ) → x.num ≡ w → x.den ≡ 1 → x ≡ ratio w 1
whole_is x w n d = sym (ratio_parts x) ∙ ap (λ (n : ℤ). ratio n x.den) n ∙ ap (λ (d : ℕ). ratio w d) d

pub length-table_cells : (w r c : ℕ) (old : List Rational) → length (table_cells w old r c) ≡ length old
unfolding table_cells
length-table_cells w r c old = rest_length r c w (pivot_row w old r c) old old 0 0

-- ---- 1 in a place
one_over : (den : ℤ) → pos 1 ≤ℤ den → ratio den (nat_abs den) ≡ whole (pos 1)
unfolding whole
one_over (pos zero) h = absurd (omega (arith, ints))
one_over (pos (suc n)) h =
    let some : 0 < suc n = omega arith in
    ratio_same (pos (suc n)) (pos 1) (suc n) 1 some (let o : 0 < 1 = omega arith in o) (ring (pos (suc n) ∷ []) (v0 ⊗ num (pos 1)) (num (pos 1) ⊗ v0) refl)
one_over (negsuc n) h = absurd (omega (arith, ints))

pub one_written : (den : ℤ) (k : ℕ) (ws : List ℤ) → pos 1 ≤ℤ den
    → fractions_over (nat_abs den) (set ws k den) ≡ set (fractions_over (nat_abs den) ws) k (whole (pos 1))
one_written den k ws h =
    map-set (λ (w : ℤ). ratio w (nat_abs den)) ws k den
    ∙ ap (λ (x : Rational). set (fractions_over (nat_abs den) ws) k x) (one_over den h)
