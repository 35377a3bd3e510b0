-- From the rows of a symmetric matrix to its lower triangle, and back.
use Rattle.std.proofs.Common.{◌≡◌, ℕ, zero, suc, ◌+◌, ◌-◌, ◌<◌, ◌≤◌, Bool, true, false, not, cond, if◌then◌else◌, nat_lt, List, [], ◌∷◌, ◌++◌, length, get_or}
use Rattle.std.proofs.Common.{take, drop, map, Option, Some, None, find, refl, sym, ap, subst, ◌∙◌, inl, inr, arith, append_assoc, length-append}
use Rattle.std.specs.List.{list_all, range_with_len}
use Rattle.std.specs.Bool.{Decides}
use Rattle.std.proofs.lemmas.Bool.{and_parts, cases_eq, cases_lt, le-ltb}
use Rattle.std.proofs.lemmas.List.{ext_get_or, get_or_append_left, get_or-append_right, get_or-take, length-take-le, drop_more, drop_all}
use Rattle.std.proofs.lemmas.List.FromFn.{get_or-map-range_with_len, length-map-range_with_len, take-map-range_with_len, map-range_with_len_more}
use Rattle.commutative_ring.proofs.SmallCases.{not_false}
use Rattle.exact_forms.specs.Triangles.{triangle, entry_in}
use Rattle.exact_forms.proofs.Triangles.{triangle_more, triangle_grows, entry_in_symmetric}
use Rattle.text_lines.specs.Square.{entry_at, lower_from, lower_of, full, mirrors, first_unlike}

-- ---- what is tested at each place of a range

all-range : (p : ℕ → Bool) (a n : ℕ) → list_all p (range_with_len a n) ≡ true → (k : ℕ) → a ≤ k → k < a + n → p k ≡ true
all-range p a zero e k low high = absurd (omega arith)
all-range p a (suc n) e k low high =
    let h = and_parts _ _ e in
    elim (cases_eq a k) [ inl same ↦ subst (λ (m : ℕ). p m ≡ true) same h.0 | inr differ ↦ all-range p (a + 1) n h.1 k (omega arith) (omega arith) ]

range-all : (p : ℕ → Bool) (a n : ℕ) → ((k : ℕ) → a ≤ k → k < a + n → p k ≡ true) → list_all p (range_with_len a n) ≡ true
range-all p a zero h = refl
range-all p a (suc n) h = rw (h a (omega arith) (omega arith), range-all p (a + 1) n (λ k low high. h k (omega arith) (omega arith))) refl

none_parts : {A : Type 0} (b : Bool) (x : A) (r : Option A) → cond b (Some x) r ≡ None → (b ≡ false) × (r ≡ None)
none_parts true x r e = absurd cc
none_parts false x r e = (refl, e)

pub find-none : (p : ℕ → Bool) (a n : ℕ) → find p (range_with_len a n) ≡ None → (k : ℕ) → a ≤ k → k < a + n → p k ≡ false
find-none p a zero e k low high = absurd (omega arith)
find-none p a (suc n) e k low high =
    let h = none_parts (p a) a _ e in
    elim (cases_eq a k) [ inl same ↦ subst (λ (m : ℕ). p m ≡ false) same h.0 | inr differ ↦ find-none p (a + 1) n h.1 k (omega arith) (omega arith) ]

pub none-find : (p : ℕ → Bool) (a n : ℕ) → ((k : ℕ) → a ≤ k → k < a + n → p k ≡ false) → find p (range_with_len a n) ≡ None
none-find p a zero h = refl
none-find p a (suc n) h = rw (h a (omega arith) (omega arith), none-find p (a + 1) n (λ k low high. h k (omega arith) (omega arith))) refl

-- ---- the full rows of a lower triangle

pub record IsSquare {A : Type 0} (n : ℕ) (rows : List (List A)) : Type 0 where
  pub len : length rows ≡ n
  pub each : (i : ℕ) → i < n → length (get_or rows i []) ≡ n

-- an entry is as its mirror image
pub IsMirrored : {A : Type 0} → A → ℕ → List (List A) → Type 0
IsMirrored none n rows = (i j : ℕ) → i < n → j < i → entry_at none rows i j ≡ entry_at none rows j i

pub square-full : {A : Type 0} (none : A) (n : ℕ) (lower : List A) → IsSquare n (full none n lower)
unfolding full
square-full none n lower = record {
  len = length-map-range_with_len (λ i. map (λ j. entry_in none lower i j) (range_with_len 0 n)) 0 n;
  each = λ i lt. rw (get_or-map-range_with_len (λ i. map (λ j. entry_in none lower i j) (range_with_len 0 n)) 0 n i i [] lt (omega arith))
      (length-map-range_with_len (λ j. entry_in none lower i j) 0 n);
}

pub entry_at-full : {A : Type 0} (none : A) (n : ℕ) (lower : List A) (i j : ℕ) → i < n → j < n → entry_at none (full none n lower) i j ≡ entry_in none lower i j
unfolding full entry_at
entry_at-full none n lower i j a b =
    rw (get_or-map-range_with_len (λ i. map (λ j. entry_in none lower i j) (range_with_len 0 n)) 0 n i i [] a (omega arith))
    (get_or-map-range_with_len (λ j. entry_in none lower i j) 0 n j j none b (omega arith))

-- the rows of a lower triangle are mirrored
pub full-mirrored : {A : Type 0} (none : A) (n : ℕ) (lower : List A) → IsMirrored none n (full none n lower)
unfolding IsMirrored
full-mirrored none n lower i j lt left = entry_at-full none n lower i j lt (omega arith) ∙ entry_in_symmetric none lower i j
    ∙ sym (entry_at-full none n lower j i (omega arith) lt)

-- ---- the lower triangle of rows

-- an entry up to the diagonal stands in the lower triangle; s rows stand before these
lower-entry : {A : Type 0} (none : A) (s : ℕ) (rows : List (List A)) (i j p : ℕ) → i < length rows
    → ((k : ℕ) → k < length rows → s + length rows ≤ length (get_or rows k []))
    → j ≤ s + i → p + triangle s ≡ triangle (s + i) → get_or (lower_from (s + 1) rows) (p + j) none ≡ entry_at none rows i j
unfolding lower_from entry_at
lower-entry none s [] i j p lt long le at = absurd (omega arith)
lower-entry none s (row ∷ rows) zero j p lt long le at =
    let first : s + suc (length rows) ≤ length row = long 0 (omega arith) in
    let here : p + j ≡ j = (let same : s + 0 ≡ s = omega arith in let k = rw same at at in omega arith) in
    let front : length (take (s + 1) row) ≡ s + 1 = length-take-le (s + 1) row (omega arith) in
    rw here (get_or_append_left (take (s + 1) row) (lower_from (s + 1 + 1) rows) none j (omega arith) ∙ get_or-take (s + 1) row j none (omega arith))
lower-entry none s (row ∷ rows) (suc i) j p lt long le at =
    let first : s + suc (length rows) ≤ length row = long 0 (omega arith) in
    let front : length (take (s + 1) row) ≡ s + 1 = length-take-le (s + 1) row (omega arith) in
    let same : s + suc i ≡ s + 1 + i = omega arith in
    let there : p + triangle s ≡ triangle (s + 1 + i) = rw same at at in
    let grows = triangle_grows (s + 1) (s + 1 + i) (omega arith) in
    let next = triangle_more s in
    let far : s + 1 ≤ p = omega (arith, there, grows, next) in
    let rest : p - (s + 1) + triangle (s + 1) ≡ triangle (s + 1 + i) = omega (arith, there, grows, next) in
    let moved : p + j - (s + 1) ≡ p - (s + 1) + j = omega arith in
    get_or-append_right (take (s + 1) row) (lower_from (s + 1 + 1) rows) (s + 1) (p + j) none front (omega arith)
    ∙ ap (λ (q : ℕ). get_or (lower_from (s + 1 + 1) rows) q none) moved
    ∙ lower-entry none (s + 1) rows i j (p - (s + 1)) (omega arith) (λ k below. let h = long (suc k) (omega arith) in omega (arith, h)) (omega arith) rest

lower-length : {A : Type 0} (s : ℕ) (rows : List (List A)) → ((k : ℕ) → k < length rows → s + length rows ≤ length (get_or rows k []))
    → length (lower_from (s + 1) rows) + triangle s ≡ triangle (s + length rows)
unfolding lower_from
lower-length s [] long = (let same : s + 0 ≡ s = omega arith in rw same (omega arith))
lower-length s (row ∷ rows) long =
    let first : s + suc (length rows) ≤ length row = long 0 (omega arith) in
    let front : length (take (s + 1) row) ≡ s + 1 = length-take-le (s + 1) row (omega arith) in
    let rest = lower-length (s + 1) rows (λ k below. let h = long (suc k) (omega arith) in omega (arith, h)) in
    let next = triangle_more s in
    let same : s + suc (length rows) ≡ s + 1 + length rows = omega arith in
    rw (length-append (take (s + 1) row) (lower_from (s + 1 + 1) rows), front, same) (omega (arith, rest, next))

-- the lower triangle of n rows of n entries has so many
pub length-lower : {A : Type 0} (n : ℕ) (rows : List (List A)) → IsSquare n rows → length (lower_of rows) ≡ triangle n
unfolding triangle
length-lower n rows square =
    let h = lower-length 0 rows (λ k below. let e : length (get_or rows k []) ≡ n = square.each k (omega (arith, square.len)) in
    omega (arith, e, square.len)) in
    let l = square.len in
    let same : 0 + length rows ≡ n = omega (arith, l) in
    (let k = rw same at h in omega (arith, k))

pub entry_in-lower : {A : Type 0} (none : A) (n : ℕ) (rows : List (List A)) (i j : ℕ) → IsSquare n rows → i < n → j ≤ i
    → entry_in none (lower_of rows) i j ≡ entry_at none rows i j
unfolding entry_in triangle
entry_in-lower none n rows i j square lt le =
    let l = square.len in
    let zeros : 0 + i ≡ i = omega arith in
    let at : triangle i + triangle 0 ≡ triangle (0 + i) = rw zeros (omega arith) in
    rw (le-ltb i j le)
    (lower-entry none 0 rows i j (triangle i) (omega (arith, l)) (λ k below. let e : length (get_or rows k []) ≡ n = square.each k (omega (arith, l)) in
    omega (arith, e, l)) (omega arith) at)

-- rows that are mirrored are those of their lower triangle
pub full-lower : {A : Type 0} (none : A) (n : ℕ) (rows : List (List A)) → IsSquare n rows → IsMirrored none n rows → full none n (lower_of rows) ≡ rows
unfolding IsMirrored entry_at
full-lower none n rows square mirror =
    let whole = square-full none n (lower_of rows) in
    ext_get_or [] (full none n (lower_of rows)) rows (whole.len ∙ sym square.len) (λ i low.
    let lt : i < n = (let l = whole.len in omega (arith, l)) in
    ext_get_or none (get_or (full none n (lower_of rows)) i []) (get_or rows i []) (whole.each i lt ∙ sym (square.each i lt)) (λ j lower.
    let left : j < n = (let l = whole.each i lt in omega (arith, l)) in
    entries i j lt left))
  where
    here : (i j : ℕ) → i < n → j < n → entry_in none (lower_of rows) i j ≡ entry_at none rows i j
    here i j lt left = elim (cases_lt i j) [
      | inl above ↦ entry_in_symmetric none (lower_of rows) i j ∙ entry_in-lower none n rows j i square left (omega arith) ∙ mirror j i left above
      | inr le ↦ entry_in-lower none n rows i j square lt le
    ]

    entries : (i j : ℕ) → i < n → j < n → get_or (get_or (full none n (lower_of rows)) i []) j none ≡ get_or (get_or rows i []) j none
    entries i j lt left = entry_at-full none n (lower_of rows) i j lt left ∙ here i j lt left

part-more : {A : Type 0} (d : A) (xs : List A) (a n : ℕ) → a + n < length xs
    → map (λ j. get_or xs (a + j) d) (range_with_len 0 n) ++ drop (a + n) xs ≡ drop a xs
    → map (λ j. get_or xs (a + j) d) (range_with_len 0 (n + 1)) ++ drop (a + (n + 1)) xs ≡ drop a xs
part-more {A} d xs a n lt e =
    let same : a + (n + 1) ≡ a + n + 1 = omega arith in
    rw (
      map-range_with_len_more (λ j. get_or xs (a + j) d) 0 n n (omega arith),
      append_assoc,
      same,
    ) (ap (λ (t : List A). map (λ j. get_or xs (a + j) d) (range_with_len 0 n) ++ t) (sym (drop_more xs (a + n) d lt)) ∙ e)

part : {A : Type 0} (d : A) (xs : List A) (a n : ℕ) → a + n ≤ length xs → map (λ j. get_or xs (a + j) d) (range_with_len 0 n) ++ drop (a + n) xs ≡ drop a xs
part d xs a zero le = (let same : a + 0 ≡ a = omega arith in rw same refl)
part {A} d xs a (suc n) le =
    let one : n + 1 ≡ suc n = omega arith in
    subst (λ (m : ℕ). map (λ j. get_or xs (a + j) d) (range_with_len 0 m) ++ drop (a + m) xs ≡ drop a xs) one
    (part-more d xs a n (omega arith) (part d xs a n (omega arith)))

map-range : {A : Type 0} (f g : ℕ → A) (a n : ℕ) → ((k : ℕ) → a ≤ k → k < a + n → f k ≡ g k) → map f (range_with_len a n) ≡ map g (range_with_len a n)
map-range f g a zero h = refl
map-range f g a (suc n) h = rw (h a (omega arith) (omega arith), map-range f g (a + 1) n (λ k low high. h k (omega arith) (omega arith))) refl

row-part : {A : Type 0} (none : A) (lower : List A) (s n : ℕ) → s < n
    → take (s + 1) (map (λ j. entry_in none lower s j) (range_with_len 0 n)) ≡ map (λ j. get_or lower (triangle s + j) none) (range_with_len 0 (s + 1))
unfolding entry_in
row-part none lower s n lt =
    take-map-range_with_len (λ j. if nat_lt s j then get_or lower (triangle j + s) none else get_or lower (triangle s + j) none) 0 n (s + 1) (omega arith)
    ∙ map-range (λ j. if nat_lt s j then get_or lower (triangle j + s) none else get_or lower (triangle s + j) none) (λ j. get_or lower (triangle s + j) none) 0
    (s + 1) (λ j low high. rw (le-ltb s j (omega arith)) refl)

lower-full_from : {A : Type 0} (none : A) (lower : List A) (n s m : ℕ) → s + m ≡ n → length lower ≡ triangle n
    → lower_from (s + 1) (map (λ i. map (λ j. entry_in none lower i j) (range_with_len 0 n)) (range_with_len s m)) ≡ drop (triangle s) lower
unfolding lower_from
lower-full_from none lower n s zero e len = (let same : s ≡ n = omega arith in rw same (sym (drop_all (triangle n) lower (omega (arith, len)))))
lower-full_from none lower n s (suc m) e len =
    let next : triangle (s + 1) ≡ triangle s + (s + 1) = (let more = triangle_more s in omega (arith, more)) in
    let grows : triangle (s + 1) ≤ triangle (s + 1 + m) = triangle_grows (s + 1) (s + 1 + m) (omega arith) in
    let last : s + 1 + m ≡ n = omega arith in
    let fits : triangle (s + 1) ≤ triangle n = rw last at grows in
    rw (
      row-part none lower s n (omega arith),
      lower-full_from none lower n (s + 1) m last len,
      next,
    ) (part none lower (triangle s) (s + 1) (omega (arith, next, fits, len)))

-- the lower triangle of its rows is the lower triangle
pub lower-full : {A : Type 0} (none : A) (n : ℕ) (lower : List A) → length lower ≡ triangle n → lower_of (full none n lower) ≡ lower
unfolding full triangle
lower-full none n lower len = lower-full_from none lower n 0 n (omega arith) len

-- ---- the test
-- a row has an entry that isn't the mirrored one
abbrev is_alike : {A : Type 0} → (A → A → Bool) → A → List (List A) → ℕ → ℕ → Bool
is_alike same none rows i j = same (entry_at none rows i j) (entry_at none rows j i)

abbrev is_unlike : {A : Type 0} → (A → A → Bool) → A → List (List A) → ℕ → Bool
is_unlike same none rows i = not (list_all (λ j. is_alike same none rows i j) (range_with_len 0 i))

pub alike-mirrored : {A : Type 0} (same : A → A → Bool) (none : A) (n : ℕ) (rows : List (List A)) → ((x y : A) → Decides (same x y) (x ≡ y)) → length rows ≡ n
    → first_unlike same none rows ≡ None → IsMirrored none n rows
unfolding first_unlike mirrors IsMirrored
alike-mirrored same none n rows decides len e i j lt left =
    let passes = find-none (λ i. is_unlike same none rows i) 0 (length rows) e i (omega arith) (omega (arith, len)) in
    (decides (entry_at none rows i j) (entry_at none rows j i)).0
    (all-range (λ j. is_alike same none rows i j) 0 i (not_false _ passes) j (omega arith) (omega arith))

pub mirrored-alike : {A : Type 0} (same : A → A → Bool) (none : A) (n : ℕ) (rows : List (List A)) → ((x y : A) → Decides (same x y) (x ≡ y)) → length rows ≡ n
    → IsMirrored none n rows → first_unlike same none rows ≡ None
unfolding first_unlike mirrors IsMirrored
mirrored-alike same none n rows decides len mirror =
    none-find (λ i. is_unlike same none rows i) 0 (length rows) (λ i low lt.
    ap not (range-all (λ j. is_alike same none rows i j) 0 i
    (λ j low left. (decides (entry_at none rows i j) (entry_at none rows j i)).1 (mirror i j (omega (arith, len)) (omega arith)))))
