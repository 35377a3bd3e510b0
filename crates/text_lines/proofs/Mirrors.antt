-- A table is compared with its mirror image, place by place, and its lower triangle is taken.
use Rattle.std.proofs.Common.{◌≡◌, ℕ, zero, suc, ◌+◌, ◌-◌, ◌<◌, ◌≤◌, Bool, true, false, List, [], ◌∷◌, ◌++◌, length, get_or, take, Some, None, find, refl, sym}
use Rattle.std.proofs.Common.{append_assoc, arith}
use Rattle.std.specs.List.{AllByRecursion, list_all, range_with_len}
use Rattle.std.proofs.lemmas.List.{length-take-le, take_more, take_all, append-nil}
use Rattle.text_lines.specs.Square.{entry_at, lower_from, lower_of}

-- ---- what is left to test

pub left_more : (p : ℕ → Bool) (i n : ℕ) → i < n → p i ≡ true → list_all p (range_with_len (i + 1) (n - (i + 1))) ≡ list_all p (range_with_len i (n - i))
left_more p i n lt e = (let k : n - i ≡ suc (n - (i + 1)) = omega arith in rw (k, e) refl)

pub left_fails : (p : ℕ → Bool) (i n : ℕ) → i < n → p i ≡ false → list_all p (range_with_len i (n - i)) ≡ false
left_fails p i n lt e = (let k : n - i ≡ suc (n - (i + 1)) = omega arith in rw (k, e) refl)

pub left_none : (p : ℕ → Bool) (i n : ℕ) → n ≤ i → list_all p (range_with_len i (n - i)) ≡ true
left_none p i n le = (let k : n - i ≡ 0 = omega arith in rw k refl)

pub find_more : (p : ℕ → Bool) (i n : ℕ) → i < n → p i ≡ false → find p (range_with_len (i + 1) (n - (i + 1))) ≡ find p (range_with_len i (n - i))
find_more p i n lt e = (let k : n - i ≡ suc (n - (i + 1)) = omega arith in rw (k, e) refl)

pub find_here : (p : ℕ → Bool) (i n : ℕ) → i < n → p i ≡ true → find p (range_with_len i (n - i)) ≡ Some i
find_here p i n lt e = (let k : n - i ≡ suc (n - (i + 1)) = omega arith in rw (k, e) refl)

pub find_end : (p : ℕ → Bool) (i n : ℕ) → n ≤ i → find p (range_with_len i (n - i)) ≡ None
find_end p i n le = (let k : n - i ≡ 0 = omega arith in rw k refl)

-- ---- the lower triangle

pub lower_more : {A : Type 0} (n : ℕ) (rows : List (List A)) (row : List A) → lower_from n (rows ++ row ∷ []) ≡ lower_from n rows ++ take (n + length rows) row
unfolding lower_from
lower_more n [] row = (let k : n + 0 ≡ n = omega arith in rw k (append-nil (take n row)))
lower_more n (first ∷ rows) row =
    let k : n + suc (length rows) ≡ n + 1 + length rows = omega arith in
    rw (k, lower_more (n + 1) rows row) (sym (append_assoc (take n first) (lower_from (n + 1) rows) (take (n + 1 + length rows) row)))

-- an entry more of a row
pub front_more : {A : Type 0} (none : A) (rows : List (List A)) (i j : ℕ) (x : A) (old mid new : List A) → j < length (get_or rows i [])
    → x ≡ entry_at none rows i j → mid ≡ old ++ take j (get_or rows i []) → new ≡ mid ++ x ∷ [] → new ≡ old ++ take (j + 1) (get_or rows i [])
unfolding entry_at
front_more none rows i j x old mid new lt is e f =
    rw (f, e, take_more (get_or rows i []) j none lt, ← is) (append_assoc old (take j (get_or rows i [])) (x ∷ []))

-- no row yet, one row more, and all rows
pub lower_none : {A : Type 0} (new : List A) → new ≡ [] → new ≡ lower_of []
unfolding lower_from
lower_none new e = e

pub lower_step : {A : Type 0} (rows : List (List A)) (i : ℕ) (old new : List A) → i < length rows → old ≡ lower_of (take i rows)
    → new ≡ old ++ take (i + 1) (get_or rows i []) → new ≡ lower_of (take (i + 1) rows)
lower_step rows i old new lt e f =
    let len : length (take i rows) ≡ i = length-take-le i rows (omega arith) in
    let count : 1 + i ≡ i + 1 = omega arith in
    rw (f, e, take_more rows i [] lt, lower_more 1 (take i rows) (get_or rows i []), len, count) refl

pub lower_end : {A : Type 0} (rows : List (List A)) (i : ℕ) (new : List A) → length rows ≤ i → new ≡ lower_of (take i rows) → new ≡ lower_of rows
lower_end rows i new le e = (let all = take_all i rows le in rw (e, all) refl)

-- what holds of each entry of the rows
take-each : {A : Type 0} (P : A → Type 0) (n : ℕ) (xs : List A) → AllByRecursion P xs → AllByRecursion P (take n xs)
take-each P zero xs h = tt
take-each P (suc n) [] h = tt
take-each P (suc n) (x ∷ xs) h = (h.0, take-each P n xs h.1)

append-each : {A : Type 0} (P : A → Type 0) (xs ys : List A) → AllByRecursion P xs → AllByRecursion P ys → AllByRecursion P (xs ++ ys)
append-each P [] ys h k = k
append-each P (x ∷ xs) ys h k = (h.0, append-each P xs ys h.1 k)

pub lower-each : {A : Type 0} (P : A → Type 0) (n : ℕ) (rows : List (List A)) → AllByRecursion (AllByRecursion P) rows → AllByRecursion P (lower_from n rows)
unfolding lower_from
lower-each P n [] h = tt
lower-each P n (row ∷ rows) h = append-each P (take n row) (lower_from (n + 1) rows) (take-each P n row h.0) (lower-each P (n + 1) rows h.1)
