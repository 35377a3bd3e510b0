-- Clearing, entry by entry.
use Rattle.std.proofs.Common.{◌≡◌, ◌≢◌, ℕ, zero, suc, ◌+◌, ◌-◌, ◌*◌, ◌/◌, ◌<◌, ◌≤◌, ◌^◌, Bool, true, false, List, [], ◌∷◌, ◌++◌, length, get_or, take, drop}
use Rattle.std.proofs.Common.{map, Result, Ok, Err, ℤ, pos, negsuc, nat_abs, ◌*ℤ◌, ◌≤ℤ◌, refl, sym, ap, ap₂, subst, ◌∙◌, inl, inr, arith, eq-eqb, if◌then◌else◌}
use Rattle.std.specs.Prelude.{◌==◌}
use Rattle.std.specs.List.{AllByRecursion, flat_map, range_with_len}
use Rattle.std.proofs.lemmas.Int.{ints}
use Rattle.std.proofs.lemmas.Bool.{ne_eqb, cases_eq, cases_lt, ltb-false}
use Rattle.std.proofs.lemmas.List.{drop_all, drop_more, map_more, take_all, get_or_append_left, get_or_push, length-append}
use Rattle.std.proofs.lemmas.List.Elements.{All-from_recursion, recursion_from_All}
use Rattle.std.proofs.Math.Nat.{dvd-mul_right, mul-dvd-mul_left, div-mul_cancel, dvd_of_mul-dvd-mul_right}
use Rattle.std.proofs.Math.Nat.{one-dvd}
use Rattle.std.proofs.lemmas.Nat.Gcd.{dvd_refl, dvd_trans}
use Prim.Native.Nat.{◌∣◌}
use Rattle.commutative_ring.proofs.Laws.{mul_assoc_ℤ}
use Rattle.commutative_ring.specs.Gcd.{gcd_of}
use Rattle.commutative_ring.proofs.Gcd.{dvd_of_dvd-mul}
use Rattle.commutative_ring.proofs.Lowest.{gcd_positive, part_times, above_times, parts_lowest, cross_parts, part_above}
use Rattle.commutative_ring.proofs.SmallCases.{pos_abs}
use Rattle.exact_forms.specs.Rational.{Rational, ratio}
use Rattle.exact_forms.specs.Triangles.{triangle, entry_in}
use Rattle.exact_forms.proofs.Rational.{den_positive, ratio_parts, ratio_same}
pub use Rattle.commutative_ring.proofs.SmallCases.{at_least_one}
use Rattle.exact_forms.proofs.Triangles.{triangle_more, triangle_grows, entry_in_below}
use Rattle.exact_forms.proofs.Lists.{drop_at}
use Rattle.symmetric_matrix.specs.declared.operation.IntOp.{IntOp}
use Rattle.symmetric_matrix.specs.Owed.{answer}
use Rattle.symmetric_matrix.specs.Operations.{is_owed, mul_op}
use Rattle.symmetric_matrix.specs.Symmetric.{FitsInt}
use Rattle.matrix_text.specs.RationalMatrix.{RationalMatrix, IsRationalMatrix, rational_entry}
use Rattle.matrix_text.specs.Matrix.{none}
use Rattle.matrix_text.specs.Clearing.{multiple, PlacedEntry, PlacedOp, is_placed_owed, placed_row, placed_entries, common_multiple, least_denominator}
use Rattle.matrix_text.specs.Clearing.{denominator_ops, numerator_ops, numerators_over, IsLeastCommon}
use Rattle.matrix_text.specs.declared.clearing.Place.{Place}

-- ---- one operation
pub one_fits : (op : IntOp) (value z : ℤ) → answer is_owed (op ∷ []) value ≡ Ok z → (is_owed op ≡ false) × (z ≡ value)
unfolding answer
one_fits op value z e = by (is_owed op) refl e
  where
    by : (b : Bool) → is_owed op ≡ b → ◌≡◌ {A = Result ℤ IntOp} (if b then Err op else Ok value) (Ok z) → (is_owed op ≡ false) × (z ≡ value)
    by true is e = absurd cc
    by false is e = (is, cc)

pub one_owed : (op : IntOp) (value : ℤ) (err : IntOp) → answer is_owed (op ∷ []) value ≡ Err err → (is_owed op ≡ true) × (err ≡ op)
unfolding answer
one_owed op value err e = by (is_owed op) refl e
  where
    by : (b : Bool) → is_owed op ≡ b → ◌≡◌ {A = Result ℤ IntOp} (if b then Err op else Ok value) (Err err) → (is_owed op ≡ true) × (err ≡ op)
    by true is e = (is, cc)
    by false is e = absurd cc

-- ---- places

abbrev pub next_place : Place → Place
next_place p = if p.column == p.row then record { row = p.row + 1; column = 1 } else record { row = p.row; column = p.column + 1 }

abbrev pub top_left : Place
top_left = record { row = 1; column = 1 }

-- the entries with their places, from this place on
unfoldable pub placed_from : Place → List Rational → List PlacedEntry
placed_from p [] = []
placed_from p (q ∷ qs) = record { row = p.row; column = p.column; value = q } ∷ placed_from (next_place p) qs

-- the rest of a row, and the rows after it
row-placed : (xs : List Rational) (i m j : ℕ) → j + m ≡ i → triangle i + i < length xs
    → placed_from (record { row = i + 1; column = j + 1 }) (drop (triangle i + j) xs)
    ≡ map (λ k. record { row = i + 1; column = k + 1; value = entry_in none xs i k }) (range_with_len j (suc m))
    ++ placed_from (record { row = i + 1 + 1; column = 1 }) (drop (triangle i + (i + 1)) xs)
unfolding placed_from
row-placed xs i zero j e lt =
    let at : j ≡ i = omega arith in
    let value : get_or xs (triangle i + i) none ≡ entry_in none xs i i = sym (entry_in_below none xs i i (omega arith)) in
    let after : triangle i + i + 1 ≡ triangle i + (i + 1) = omega arith in
    rw (at, drop_more xs (triangle i + i) none lt, eq-eqb (i + 1) (i + 1) refl, value, after) refl
row-placed xs i (suc m) j e lt =
    let value : get_or xs (triangle i + j) none ≡ entry_in none xs i j = sym (entry_in_below none xs i j (omega arith)) in
    let after : triangle i + j + 1 ≡ triangle i + (j + 1) = omega arith in
    let other : (j + 1) ≢ (i + 1) = λ same. omega arith in
    rw (drop_more xs (triangle i + j) none (omega arith), ne_eqb (j + 1) (i + 1) other, value, after)
    (ap (λ (ps : List PlacedEntry). at i j ∷ ps) (row-placed xs i m (j + 1) (omega arith) lt))
  where
    at : ℕ → ℕ → PlacedEntry
    at i j = record { row = i + 1; column = j + 1; value = entry_in none xs i j }

row-placed_all : (xs : List Rational) (i n j : ℕ) → j + n ≡ i + 1 → 0 < n → triangle i + i < length xs
    → placed_from (record { row = i + 1; column = j + 1 }) (drop (triangle i + j) xs)
    ≡ map (λ k. record { row = i + 1; column = k + 1; value = entry_in none xs i k }) (range_with_len j n)
    ++ placed_from (record { row = i + 1 + 1; column = 1 }) (drop (triangle i + (i + 1)) xs)
row-placed_all xs i zero j e some lt = absurd (omega arith)
row-placed_all xs i (suc m) j e some lt = row-placed xs i m j (omega arith) lt

rows-placed : (xs : List Rational) (n m i : ℕ) → i + m ≡ n → length xs ≡ triangle n
    → placed_from (record { row = i + 1; column = 1 }) (drop (triangle i) xs)
    ≡ flat_map (λ i. map (λ k. record { row = i + 1; column = k + 1; value = entry_in none xs i k }) (range_with_len 0 (i + 1))) (range_with_len i m)
unfolding placed_from
rows-placed xs n zero i e len = (let same : i ≡ n = omega arith in let done = drop_all (triangle i) xs (rw same (omega (arith, len))) in rw done refl)
rows-placed xs n (suc m) i e len =
    let more = triangle_more i in
    let grows = triangle_grows (i + 1) n (omega arith) in
    let none_before : triangle i + 0 ≡ triangle i = omega arith in
    let after : triangle i + (i + 1) ≡ triangle (i + 1) = omega (arith, more) in
    let here = rw (none_before, after) at (row-placed_all xs i (i + 1) 0 (omega arith) (omega arith) (omega (arith, len, more, grows))) in
    here ∙ ap (λ (ps : List PlacedEntry). map (λ k. record { row = i + 1; column = k + 1; value = entry_in none xs i k }) (range_with_len 0 (i + 1))
    ++ ps) (rows-placed xs n m (i + 1) (omega arith) len)

pub placed_lower : (a : RationalMatrix) → length a.lower ≡ triangle a.size → placed_from top_left a.lower ≡ placed_entries a
unfolding placed_entries placed_row rational_entry triangle
placed_lower a len = rows-placed a.lower a.size a.size 0 (omega arith) len

-- ---- the common denominator

abs_product : (e f : ℤ) (b : ℕ) → pos 1 ≤ℤ e → f ≡ pos b → nat_abs (e *ℤ f) ≡ nat_abs e * b
abs_product (pos a) f b h is = rw is refl
abs_product (negsuc a) f b h is = absurd (omega (arith, ints))

-- what is left to multiply
unfoldable pub denominator_left : ℤ → Place → List Rational → Result ℤ PlacedOp
denominator_left e p qs = answer is_placed_owed (denominator_ops (nat_abs e) (placed_from p qs)) (pos (common_multiple (nat_abs e) (placed_from p qs)))

factor_op : (e f : ℤ) (q : Rational) → pos 1 ≤ℤ e → f ≡ pos (q.den / gcd_of (nat_abs e) q.den)
    → mul_op (pos (nat_abs e)) (pos (q.den / gcd_of (nat_abs e) q.den)) ≡ mul_op e f
factor_op e f q h is = ap₂ mul_op (pos_abs e h) (sym is)

pub denominator_step : (p next : Place) (e f m : ℤ) (q : Rational) (qs : List Rational) → pos 1 ≤ℤ e → f ≡ pos (q.den / gcd_of (nat_abs e) q.den)
    → is_owed (mul_op e f) ≡ false → m ≡ e *ℤ f → next ≡ next_place p
    → denominator_left m next qs ≡ denominator_left e p (q ∷ qs)
unfolding denominator_left denominator_ops common_multiple placed_from answer multiple
denominator_step p next e f m q qs h is fits product after =
    let small : is_owed (mul_op (pos (nat_abs e)) (pos (q.den / gcd_of (nat_abs e) q.den))) ≡ false = ap is_owed (factor_op e f q h is) ∙ fits in
    let size : nat_abs m ≡ nat_abs e * (q.den / gcd_of (nat_abs e) q.den) = ap nat_abs product ∙ abs_product e f (q.den / gcd_of (nat_abs e) q.den) h is in
    rw (small, size, after) refl

pub denominator_refused : (p : Place) (e f : ℤ) (q : Rational) (qs : List Rational) → pos 1 ≤ℤ e → f ≡ pos (q.den / gcd_of (nat_abs e) q.den)
    → is_owed (mul_op e f) ≡ true
    → denominator_left e p (q ∷ qs) ≡ Err (record { row = p.row; column = p.column; op = mul_op e f })
unfolding denominator_left denominator_ops placed_from answer
denominator_refused p e f q qs h is owed =
    let large : is_owed (mul_op (pos (nat_abs e)) (pos (q.den / gcd_of (nat_abs e) q.den))) ≡ true = ap is_owed (factor_op e f q h is) ∙ owed in
    rw large (ap (λ (op : IntOp). refused op) (factor_op e f q h is))
  where
    refused : IntOp → Result ℤ PlacedOp
    refused op = Err (record { row = p.row; column = p.column; op = op })

pub denominator_end : (e : ℤ) (p : Place) → pos 1 ≤ℤ e → denominator_left e p [] ≡ Ok e
unfolding denominator_left denominator_ops common_multiple placed_from answer
denominator_end e p h = ap ok (pos_abs e h)
  where
    ok : ℤ → Result ℤ PlacedOp
    ok z = Ok z

positive_times : (a b : ℕ) → 0 < a → 0 < b → pos 1 ≤ℤ pos (a * b)
positive_times zero b p q = absurd (omega arith)
positive_times (suc a) zero p q = absurd (omega arith)
positive_times (suc a) (suc b) p q = omega (arith, ints)

pub product_positive : (e f m : ℤ) (q : Rational) → pos 1 ≤ℤ e → f ≡ pos (q.den / gcd_of (nat_abs e) q.den) → m ≡ e *ℤ f → pos 1 ≤ℤ m
product_positive (negsuc a) f m q h is product = absurd (omega (arith, ints))
product_positive (pos a) f m q h is product =
    let some : 0 < a = omega (arith, ints) in
    subst (λ (z : ℤ). pos 1 ≤ℤ z) (sym (product ∙ ap (λ (z : ℤ). pos a *ℤ z) is))
    (positive_times a (q.den / gcd_of a q.den) some (part_above a q.den (den_positive q)))

-- ---- the numerators

unfoldable pub numerator_left : ℕ → Place → List Rational → List ℤ → Result (List ℤ) PlacedOp
numerator_left d p qs value = answer is_placed_owed (numerator_ops d (placed_from p qs)) value

pub numerator_step : (d : ℕ) (p next : Place) (f : ℤ) (q : Rational) (qs : List Rational) (value : List ℤ) → f ≡ pos (d / q.den)
    → is_owed (mul_op q.num f) ≡ false → next ≡ next_place p
    → numerator_left d next qs value ≡ numerator_left d p (q ∷ qs) value
unfolding numerator_left numerator_ops placed_from answer
numerator_step d p next f q qs value is fits after =
    (let small : is_owed (mul_op q.num (pos (d / q.den))) ≡ false = ap (λ (z : ℤ). is_owed (mul_op q.num z)) (sym is) ∙ fits in rw (small, after) refl)

pub numerator_refused : (d : ℕ) (p : Place) (f : ℤ) (q : Rational) (qs : List Rational) (value : List ℤ) → f ≡ pos (d / q.den) → is_owed (mul_op q.num f) ≡ true
    → numerator_left d p (q ∷ qs) value ≡ Err (record { row = p.row; column = p.column; op = mul_op q.num f })
unfolding numerator_left numerator_ops placed_from answer
numerator_refused d p f q qs value is owed =
    let large : is_owed (mul_op q.num (pos (d / q.den))) ≡ true = ap (λ (z : ℤ). is_owed (mul_op q.num z)) (sym is) ∙ owed in
    rw large (ap refused (sym is))
  where
    refused : ℤ → Result (List ℤ) PlacedOp
    refused z = Err (record { row = p.row; column = p.column; op = mul_op q.num z })

pub numerator_end : (d : ℕ) (p : Place) (value : List ℤ) → numerator_left d p [] value ≡ Ok value
unfolding numerator_left numerator_ops placed_from answer
numerator_end d p value = refl

-- ---- the least common denominator

multiple_first : (e d : ℕ) → e ∣ multiple e d
unfolding multiple
multiple_first e d = dvd-mul_right e (d / gcd_of e d)

multiple_second : (e d : ℕ) → 0 < d → d ∣ multiple e d
unfolding multiple
multiple_second e zero h = absurd (omega arith)
multiple_second e (suc d) h =
    let g = gcd_of e (suc d) in
    let same : e * (suc d / gcd_of e (suc d)) ≡ suc d * (e / gcd_of e (suc d)) =
    cross_parts e (suc d) (e / gcd_of e (suc d)) (suc d / gcd_of e (suc d)) (gcd_of e (suc d)) (above_times e d) (part_times e d) in
    rw same (dvd-mul_right (suc d) (e / gcd_of e (suc d)))

-- a multiple of both is one of their multiple
multiple_least : (e d m : ℕ) → 0 < d → e ∣ m → d ∣ m → multiple e d ∣ m
unfolding multiple
multiple_least e zero m h p q = absurd (omega arith)
multiple_least e (suc d) m h p q =
    let quotient : m / e * e ≡ m = div-mul_cancel e p in
    let g_some = gcd_positive e d in
    let cut : suc d / gcd_of e (suc d) ∣ e / gcd_of e (suc d) * (m / e) =
    dvd_of_mul-dvd-mul-right (suc d / gcd_of e (suc d)) (e / gcd_of e (suc d) * (m / e)) (gcd_of e (suc d)) g_some
    (rw (part_times e d) (subst (λ (n : ℕ). suc d ∣ n) (sym (gathered (e / gcd_of e (suc d)) (m / e) (gcd_of e (suc d)) e (above_times e d) m quotient)) q)) in
    let rest : suc d / gcd_of e (suc d) ∣ m / e = dvd_of_dvd-mul (e / gcd_of e (suc d)) (suc d / gcd_of e (suc d)) (m / e) (parts_lowest e d) cut in
    subst (λ (n : ℕ). e * (suc d / gcd_of e (suc d)) ∣ n) (swapped e (m / e) m quotient) (mul-dvd-mul_left (suc d / gcd_of e (suc d)) e rest)
  where
    gathered : (x k g e : ℕ) → x * g ≡ e → (m : ℕ) → k * e ≡ m → x * k * g ≡ m
    gathered x k g e h m i = rw (← i, ← h) (omega arith)

    swapped : (e k m : ℕ) → k * e ≡ m → e * k ≡ m
    swapped e k m h = omega arith

    dvd_of_mul-dvd-mul-right : (x y g : ℕ) → 0 < g → x * g ∣ y * g → x ∣ y
    dvd_of_mul-dvd-mul-right x y g some h = dvd_of_mul-dvd-mul_right x some h

multiple_positive : (e d : ℕ) → 0 < e → 0 < d → 0 < multiple e d
unfolding multiple
multiple_positive e d p q = (let h = positive_times e (d / gcd_of e d) p (part_above e d q) in omega (arith, ints, h))

-- the least common multiple of e and the denominators of some entries
pub common_multiple_positive : (e : ℕ) (ps : List PlacedEntry) → 0 < e → 0 < common_multiple e ps
unfolding common_multiple
common_multiple_positive e [] h = h
common_multiple_positive e (p ∷ ps) h = common_multiple_positive (multiple e p.value.den) ps (multiple_positive e p.value.den h (den_positive p.value))

common_multiple_first : (e : ℕ) (ps : List PlacedEntry) → e ∣ common_multiple e ps
unfolding common_multiple
common_multiple_first e [] = dvd_refl e
common_multiple_first e (p ∷ ps) = dvd_trans e (multiple_first e p.value.den) (common_multiple_first (multiple e p.value.den) ps)

pub common_multiple_each : (e : ℕ) (ps : List PlacedEntry) → AllByRecursion (λ p. p.value.den ∣ common_multiple e ps) ps
unfolding common_multiple
common_multiple_each e [] = tt
common_multiple_each e (p ∷ ps) = (
  dvd_trans p.value.den (multiple_second e p.value.den (den_positive p.value)) (common_multiple_first (multiple e p.value.den) ps),
  common_multiple_each (multiple e p.value.den) ps,
)

-- the same of entries with their places
abbrev common_from : ℕ → Place → List Rational → ℕ
common_from e p qs = common_multiple e (placed_from p qs)

common_each : (e : ℕ) (p : Place) (qs : List Rational) → AllByRecursion (λ q. q.den ∣ common_from e p qs) qs
unfolding common_multiple placed_from
common_each e p [] = tt
common_each e p (q ∷ qs) = (
  dvd_trans q.den (multiple_second e q.den (den_positive q)) (common_multiple_first (multiple e q.den) (placed_from (next_place p) qs)),
  common_each (multiple e q.den) (next_place p) qs,
)

common_least : (e : ℕ) (p : Place) (qs : List Rational) (m : ℕ) → e ∣ m → AllByRecursion (λ q. q.den ∣ m) qs → common_from e p qs ∣ m
unfolding common_multiple placed_from
common_least e p [] m h hs = h
common_least e p (q ∷ qs) m h hs = common_least (multiple e q.den) (next_place p) qs m (multiple_least e q.den m (den_positive q) h hs.0) hs.1

pub least_common : (p : Place) (qs : List Rational) → IsLeastCommon (common_multiple 1 (placed_from p qs)) qs
least_common p qs = record {
  positive = common_multiple_positive 1 (placed_from p qs) (omega arith);
  common = All-from_recursion (λ q. q.den ∣ common_from 1 p qs) qs (common_each 1 p qs);
  least = λ m h. common_least 1 p qs m (one-dvd m) (recursion_from_All (λ q. q.den ∣ m) qs h);
}

-- numerators over a common denominator are the fractions
pub over_common : (d : ℕ) (q : Rational) → 0 < d → q.den ∣ d → ratio (q.num *ℤ pos (d / q.den)) d ≡ q
over_common d q some h =
    ratio_same (q.num *ℤ pos (d / q.den)) q.num d q.den some (den_positive q) (mul_assoc_ℤ q.num (pos (d / q.den)) (pos q.den)
    ∙ ap (λ (n : ℕ). q.num *ℤ pos n) (div-mul_cancel q.den h)) ∙ ratio_parts q

pub numerators-over : (d : ℕ) (qs : List Rational) → 0 < d → AllByRecursion (λ q. q.den ∣ d) qs → map (λ z. ratio z d) (numerators_over d qs) ≡ qs
unfolding numerators_over
numerators-over d [] some h = refl
numerators-over d (q ∷ qs) some h = ap₂ (λ x xs. x ∷ xs) (over_common d q some h.0) (numerators-over d qs some h.1)

pub gcd_some : (a d : ℕ) → 0 < d → 0 < gcd_of a d
gcd_some a zero h = absurd (omega arith)
gcd_some a (suc d) h = gcd_positive a d

-- ---- the loops

next_row : (p : Place) (k : ℕ) → p.row ≤ k + 1 → (next_place p).row ≤ k + 1 + 1
next_row p k h =
    elim (cases_eq p.column p.row) [ inl same ↦ rw (eq-eqb p.column p.row same) (omega arith) | inr differ ↦ rw (ne_eqb p.column p.row differ) (omega arith) ]

next_column : (p : Place) → p.column ≤ p.row → (next_place p).column ≤ (next_place p).row
next_column p h =
    elim (cases_eq p.column p.row) [ inl same ↦ rw (eq-eqb p.column p.row same) (omega arith) | inr differ ↦ rw (ne_eqb p.column p.row differ) (omega arith) ]

-- a place within the triangle, after k entries
pub record IsWithin (p : Place) (k : ℕ) : Type 0 where
  pub row : p.row ≤ k + 1
  pub column : p.column ≤ p.row

pub within_after : (p next : Place) (k : ℕ) → next ≡ next_place p → IsWithin p k → IsWithin next (k + 1)
within_after p next k e w = record { row = rw e (next_row p k w.row); column = rw e (next_column p w.column) }

pub product_narrow : (x y z : ℤ) → is_owed (mul_op x y) ≡ false → z ≡ x *ℤ y → FitsInt z
product_narrow x y z h e = rw e (ltb-false (2 ^ 127 - 1) (nat_abs (x *ℤ y)) h)

pub denominator_more : (xs : List Rational) (k : ℕ) (p next : Place) (e m : ℤ) (q : Rational) → k < length xs → q ≡ get_or xs k q → pos 1 ≤ℤ e
    → is_owed (mul_op e (pos (q.den / gcd_of (nat_abs e) q.den))) ≡ false
    → m ≡ e *ℤ pos (q.den / gcd_of (nat_abs e) q.den) → next ≡ next_place p → denominator_left m next (drop (k + 1) xs) ≡ denominator_left e p (drop k xs)
denominator_more xs k p next e m q lt is h fits product after =
    denominator_step p next e (pos (q.den / gcd_of (nat_abs e) q.den)) m q (drop (k + 1) xs) h refl fits product after
    ∙ ap (denominator_left e p) (sym (drop_at xs k q lt is))

pub denominator_fails : (xs : List Rational) (k : ℕ) (p : Place) (e : ℤ) (q : Rational) → k < length xs → q ≡ get_or xs k q → pos 1 ≤ℤ e
    → is_owed (mul_op e (pos (q.den / gcd_of (nat_abs e) q.den))) ≡ true
    → denominator_left e p (drop k xs) ≡ Err (record { row = p.row; column = p.column; op = mul_op e (pos (q.den / gcd_of (nat_abs e) q.den)) })
denominator_fails xs k p e q lt is h owed =
    ap (denominator_left e p) (drop_at xs k q lt is) ∙ denominator_refused p e (pos (q.den / gcd_of (nat_abs e) q.den)) q (drop (k + 1) xs) h refl owed

pub denominator_done : (xs : List Rational) (k : ℕ) (p : Place) (e : ℤ) → length xs ≤ k → pos 1 ≤ℤ e → denominator_left e p (drop k xs) ≡ Ok e
denominator_done xs k p e le h = ap (denominator_left e p) (drop_all k xs le) ∙ denominator_end e p h

pub denominator_whole : (a : RationalMatrix) → IsRationalMatrix a
    → denominator_left (pos 1) top_left a.lower ≡ answer is_placed_owed (denominator_ops 1 (placed_entries a)) (pos (least_denominator a))
unfolding denominator_left
denominator_whole a is = ap (λ (ps : List PlacedEntry). answer is_placed_owed (denominator_ops 1 ps) (pos (common_multiple 1 ps))) (placed_lower a is.triangle)

pub numerator_more : (xs : List Rational) (k : ℕ) (p next : Place) (d : ℕ) (q : Rational) (value : List ℤ) → k < length xs → q ≡ get_or xs k q
    → is_owed (mul_op q.num (pos (d / q.den))) ≡ false → next ≡ next_place p
    → numerator_left d next (drop (k + 1) xs) value ≡ numerator_left d p (drop k xs) value
numerator_more xs k p next d q value lt is fits after =
    numerator_step d p next (pos (d / q.den)) q (drop (k + 1) xs) value refl fits after
    ∙ ap (λ (qs : List Rational). numerator_left d p qs value) (sym (drop_at xs k q lt is))

pub numerator_fails : (xs : List Rational) (k : ℕ) (p : Place) (d : ℕ) (q : Rational) (value : List ℤ) → k < length xs → q ≡ get_or xs k q
    → is_owed (mul_op q.num (pos (d / q.den))) ≡ true
    → numerator_left d p (drop k xs) value ≡ Err (record { row = p.row; column = p.column; op = mul_op q.num (pos (d / q.den)) })
numerator_fails xs k p d q value lt is owed =
    ap (λ (qs : List Rational). numerator_left d p qs value) (drop_at xs k q lt is)
    ∙ numerator_refused d p (pos (d / q.den)) q (drop (k + 1) xs) value refl owed

pub numerator_done : (xs : List Rational) (k : ℕ) (p : Place) (d : ℕ) (value : List ℤ) → length xs ≤ k → numerator_left d p (drop k xs) value ≡ Ok value
numerator_done xs k p d value le = ap (λ (qs : List Rational). numerator_left d p qs value) (drop_all k xs le) ∙ numerator_end d p value

pub numerator_whole : (a : RationalMatrix) (d : ℕ) (value : List ℤ) → IsRationalMatrix a
    → numerator_left d top_left a.lower value ≡ answer is_placed_owed (numerator_ops d (placed_entries a)) value
unfolding numerator_left
numerator_whole a d value is = ap (λ (ps : List PlacedEntry). answer is_placed_owed (numerator_ops d ps) value) (placed_lower a is.triangle)

pub over_none : (d : ℕ) (xs : List Rational) (new : List ℤ) → new ≡ [] → new ≡ numerators_over d (take 0 xs)
unfolding numerators_over
over_none d xs new e = e

pub over_more : (d : ℕ) (xs : List Rational) (k : ℕ) (q : Rational) (n : ℤ) (old new : List ℤ) → k < length xs → q ≡ get_or xs k q
    → n ≡ q.num *ℤ pos (d / q.den) → old ≡ numerators_over d (take k xs) → new ≡ old ++ n ∷ [] → new ≡ numerators_over d (take (k + 1) xs)
unfolding numerators_over
over_more d xs k q n old new lt is value e f =
    f ∙ ap₂ (λ (xs : List ℤ) (z : ℤ). xs ++ z ∷ []) e (value ∙ ap (λ (q : Rational). q.num *ℤ pos (d / q.den)) is)
    ∙ sym (map_more (λ (q : Rational). q.num *ℤ pos (d / q.den)) xs k q lt)

pub over_all : (d : ℕ) (xs : List Rational) (k : ℕ) (new : List ℤ) → length xs ≤ k → new ≡ numerators_over d (take k xs)
    → ◌≡◌ {A = Result (List ℤ) PlacedOp} (Ok (numerators_over d xs)) (Ok new)
over_all d xs k new le e = ap ok (sym (e ∙ ap (numerators_over d) (take_all k xs le)))
  where
    ok : List ℤ → Result (List ℤ) PlacedOp
    ok zs = Ok zs

pub narrow_more : (old new : List ℤ) (n : ℤ) → new ≡ old ++ n ∷ [] → FitsInt n → ((k : ℕ) → k < length old → FitsInt (get_or old k (pos 0))) → (k : ℕ)
    → k < length new → FitsInt (get_or new k (pos 0))
narrow_more old new n e h before k lt =
    let len : length new ≡ length old + 1 = ap (λ (xs : List ℤ). length xs) e ∙ length-append old (n ∷ []) in
    rw e (elim (cases_lt k (length old)) [
      | inl below ↦ rw (get_or_append_left old (n ∷ []) (pos 0) k below) (before k below)
      | inr le ↦ (let at : length old ≡ k = omega arith in rw (get_or_push old n (pos 0) k at) h)
    ])
