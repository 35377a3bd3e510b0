-- A path's digits in words, and back.
use Rattle.std.specs.Prelude.{◌≡◌, ℕ, zero, suc, ◌<◌, ◌≤◌, ◌+◌, ◌-◌, ◌*◌, ◌/◌, ◌%◌, ◌^◌, nat_le, nat_eq, cond, Bool, true, false, List, [], ◌∷◌, ◌++◌, length}
use Rattle.std.specs.Prelude.{take, drop, slice_set, slice_index_or}
use Rattle.std.proofs.Common.{arith, sym, ◌∙◌, ap, ap₂, refl, subst, length-append, length-drop}
use Rattle.std.proofs.Math.Nat.{pow-suc, add-mod_left, mod-eq_of_lt, div-eq_of_lt, mul-add-div, mul-add-mod_self_right}
use Rattle.std.proofs.lemmas.Nat.{div-mul-add, pow-add, pow_below}
use Rattle.std.proofs.lemmas.List.{get_or-drop, get_or-set_same}
use Rattle.std.proofs.lemmas.Bool.Decides.{nat_tests}
use Rattle.commutative_ring.proofs.SmallCases.{zero_plus}
use Rattle.unimodular_cone.specs.declared.path.Path.TheInside.{Inside}
use Rattle.unimodular_cone.specs.Paths.{digit_of}
use Rattle.unimodular_cone.specs.PackedDigits.{binary, packed, unpacked, unpacked_words, digits_of, fields_of, IsPacked}

pub binary_below : (k : ℕ) (d : List Bool) → binary k d < 2 ^ k
unfolding binary
binary_below zero d = omega arith
binary_below (suc k) [] = let h : binary k [] < 2 ^ k = binary_below k [] in omega (arith, pow-suc 2 k)
binary_below (suc k) (true ∷ d) = let h : binary k d < 2 ^ k = binary_below k d in omega (arith, pow-suc 2 k)
binary_below (suc k) (false ∷ d) = let h : binary k d < 2 ^ k = binary_below k d in omega (arith, pow-suc 2 k)

binary_none : (k : ℕ) → binary k [] ≡ 0
unfolding binary
binary_none zero = refl
binary_none (suc k) = refl

-- ---- the digits of a word
-- the first digit, and what is left
first_digit : (p m : ℕ) (b : Bool) → m < p → (nat_le p (cond b p 0 + m) ≡ b) × ((cond b p 0 + m) % p ≡ m)
first_digit p m true h = (grind (arith, nat_tests), add-mod_left p m ∙ mod-eq_of_lt h)
first_digit p m false h = (grind (arith, nat_tests), ap (λ (w : ℕ). w % p) (zero_plus m) ∙ mod-eq_of_lt h)

-- the digits of the first k, then those of the rest
unpacked-binary : (k : ℕ) (d rest : List Bool) → take (length (drop k d)) rest ≡ drop k d → take (length d) (unpacked k (binary k d) ++ rest) ≡ d
unfolding binary unpacked
unpacked-binary zero d rest h = h
unpacked-binary (suc k) [] rest h = refl
unpacked-binary (suc k) (b ∷ d) rest h =
    let f = first_digit (2 ^ k) (binary k d) b (binary_below k d) in
    ap₂ (λ (c : Bool) (w : ℕ). c ∷ take (length d) (unpacked k w ++ rest)) f.0 f.1
    ∙ ap (λ (w : List Bool). b ∷ w) (unpacked-binary k d rest h)

unpacked-packed : (m : ℕ) (d : List Bool) → length d ≤ 64 * m → take (length d) (unpacked_words (packed m d)) ≡ d
unfolding packed unpacked_words
unpacked-packed zero [] l = refl
unpacked-packed zero (b ∷ d) l = absurd (omega arith)
unpacked-packed (suc m) d l =
    unpacked-binary 64 d (unpacked_words (packed m (drop 64 d))) (unpacked-packed m (drop 64 d) (omega (arith, length-drop 64 d)))

pub digits_back : (d : List Bool) → length d ≤ 200 → digits_of (fields_of d) ≡ d
digits_back d l = unpacked-packed 4 d (omega arith)

pub is_packed : (d : List Bool) → length d ≤ 200 → IsPacked (fields_of d)
is_packed d l = record { room = l; packs = ap fields_of (digits_back d l) }

-- ---- one more digit
binary-push : (k e : ℕ) (d : List Bool) (s : Bool) → suc (length d + e) ≡ k → binary k (d ++ s ∷ []) ≡ binary k d + digit_of s * 2 ^ e
unfolding binary
binary-push zero e d s h = absurd (omega arith)
binary-push (suc k) e [] true h = let same : e ≡ k = omega arith in let z = binary_none k in rw same (omega arith)
binary-push (suc k) e [] false h = let z = binary_none k in omega arith
binary-push (suc k) e (b ∷ d) s h = let r = binary-push k e d s (omega arith) in omega arith

binary-full : (k : ℕ) (d r : List Bool) → k ≤ length d → binary k (d ++ r) ≡ binary k d
unfolding binary
binary-full zero d r h = refl
binary-full (suc k) [] r h = absurd (omega arith)
binary-full (suc k) (b ∷ d) r h = ap (λ (w : ℕ). cond b (2 ^ k) 0 + w) (binary-full k d r (omega arith))

drop-short : (k : ℕ) (d : List Bool) → length d ≤ k → drop k d ≡ []
drop-short zero [] h = refl
drop-short (suc k) [] h = refl
drop-short zero (b ∷ d) h = absurd (omega arith)
drop-short (suc k) (b ∷ d) h = drop-short k d (omega arith)

drop-push : (k : ℕ) (d r : List Bool) → k ≤ length d → drop k (d ++ r) ≡ drop k d ++ r
drop-push zero d r h = refl
drop-push (suc k) [] r h = absurd (omega arith)
drop-push (suc k) (b ∷ d) r h = drop-push k d r (omega arith)

pub packed-push : (m i r : ℕ) (d : List Bool) (s : Bool) → length d ≡ 64 * i + r → r < 64 → i < m
    → packed m (d ++ s ∷ []) ≡ slice_set (packed m d) i (slice_index_or (packed m d) i 0 + digit_of s * 2 ^ (63 - r))
unfolding packed
packed-push zero i r d s e l h = absurd (omega arith)
packed-push (suc m) zero r d s e l h =
    ap₂ (λ (w : ℕ) (t : List Bool). w ∷ packed m t) (binary-push 64 (63 - r) d s (omega arith))
    (drop-short 64 (d ++ s ∷ []) (omega (arith, length-append {A = Bool})) ∙ sym (drop-short 64 d (omega arith)))
packed-push (suc m) (suc i) r d s e l h =
    ap₂ (λ (w : ℕ) (t : List ℕ). w ∷ t) (binary-full 64 d (s ∷ []) (omega arith))
    (ap (packed m) (drop-push 64 d (s ∷ []) (omega arith)) ∙ packed-push m i r (drop 64 d) s (omega (arith, length-drop 64 d)) l (omega arith))

pub packed_below : (m i : ℕ) (d : List Bool) → slice_index_or (packed m d) i 0 < 2 ^ 64
unfolding packed
packed_below zero i d = omega arith
packed_below (suc m) zero d = binary_below 64 d
packed_below (suc m) (suc i) d = packed_below m i (drop 64 d)

-- ---- a digit
digit_here : (p m : ℕ) (b : Bool) → m < p → ((cond b p 0 + m) / p) % 2 ≡ digit_of b
digit_here p m true h = let e : p + m ≡ 1 * p + m = omega arith in ap (λ (w : ℕ). w % 2) (ap (λ (w : ℕ). w / p) e ∙ div-mul-add 1 p m h)
digit_here p m false h = let e : 0 + m ≡ m = omega arith in ap (λ (w : ℕ). w % 2) (ap (λ (w : ℕ). w / p) e ∙ div-eq_of_lt h)

digit_later : (p q m : ℕ) (b : Bool) → 0 < p → ((cond b (p * (q * 2)) 0 + m) / p) % 2 ≡ (m / p) % 2
digit_later p q m true h = ap (λ (w : ℕ). w % 2) (mul-add-div h (q * 2) m) ∙ mul-add-mod_self_right q 2 (m / p)
digit_later p q m false h = let e : 0 + m ≡ m = omega arith in ap (λ (w : ℕ). (w / p) % 2) e

power_positive : (e : ℕ) → 0 < 2 ^ e
power_positive e = let h : binary e [] < 2 ^ e = binary_below e [] in omega arith

binary-digit : (k r e : ℕ) (d : List Bool) → suc (r + e) ≡ k → (binary k d / 2 ^ e) % 2 ≡ digit_of (slice_index_or d r false)
unfolding binary
binary-digit zero r e d h = absurd (omega arith)
binary-digit (suc k) r e [] h = ap (λ (w : ℕ). w % 2) (div-eq_of_lt (power_positive e))
binary-digit (suc k) zero e (b ∷ d) h = let same : e ≡ k = omega arith in rw same (digit_here (2 ^ k) (binary k d) b (binary_below k d))
binary-digit (suc k) (suc r) e (b ∷ d) h =
    let same : k ≡ e + suc r = omega arith in
    let power : 2 ^ k ≡ 2 ^ e * (2 ^ r * 2) = ap (λ (w : ℕ). 2 ^ w) same ∙ pow-add 2 e (suc r) ∙ ap (λ (w : ℕ). 2 ^ e * w) (pow-suc 2 r) in
    ap (λ (w : ℕ). ((cond b w 0 + binary k d) / 2 ^ e) % 2) power
    ∙ digit_later (2 ^ e) (2 ^ r) (binary k d) b (power_positive e)
    ∙ binary-digit k r e d (omega arith)

pub packed-digit : (m i r : ℕ) (d : List Bool) → r < 64 → i < m
    → (slice_index_or (packed m d) i 0 / 2 ^ (63 - r)) % 2 ≡ digit_of (slice_index_or d (64 * i + r) false)
unfolding packed
packed-digit zero i r d l h = absurd (omega arith)
packed-digit (suc m) zero r d l h = let e : 64 * 0 + r ≡ r = omega arith in rw e (binary-digit 64 r (63 - r) d (omega arith))
packed-digit (suc m) (suc i) r d l h =
    let e : 64 + (64 * i + r) ≡ 64 * suc i + r = omega arith in
    packed-digit m i r (drop 64 d) l (omega arith) ∙ ap digit_of (get_or-drop 64 d (64 * i + r) false ∙ ap (λ (w : ℕ). slice_index_or d w false) e)

-- ---- a path's fields
pub words_are : (p : Inside) → IsPacked p → p.words ≡ packed 4 (digits_of p)
words_are p h = ap (λ (w : Inside). w.words) (sym h.packs)

pub len_is : (p : Inside) → IsPacked p → p.len ≡ length (digits_of p)
len_is p h = ap (λ (w : Inside). w.len) (sym h.packs)

length-packed : (m : ℕ) (d : List Bool) → length (packed m d) ≡ m
unfolding packed
length-packed zero d = refl
length-packed (suc m) d = ap suc (length-packed m (drop 64 d))

-- a digit in its place of a word
digit_placed : (side x : ℕ) → side < 2 → x < 64 → side * 2 ^ x % 2 ^ 64 ≡ digit_of (nat_eq side 1) * 2 ^ x
digit_placed zero x h l = let z : 0 * 2 ^ x ≡ 0 = omega arith in rw z refl
digit_placed (suc zero) x h l = let p : 2 ^ x < 2 ^ 64 = pow_below x 64 l in let q : 1 * 2 ^ x < 2 ^ 64 = omega arith in mod-eq_of_lt q
digit_placed (suc (suc n)) x h l = absurd (omega arith)

-- the word with one more digit
abbrev pushed : Inside → ℕ → ℕ → ℕ
pushed p word side = slice_index_or p.words word 0 + side * 2 ^ (63 - p.len % 64) % 2 ^ 64

pushed_words : (p : Inside) (word side : ℕ) → IsPacked p → p.len < 200 → side < 2 → word ≡ p.len / 64
    → slice_set p.words word (pushed p word side) ≡ packed 4 (digits_of p ++ nat_eq side 1 ∷ [])
pushed_words p word side h room bit at =
    let l : p.len ≡ length (digits_of p) = len_is p h in
    let r : p.len % 64 < 64 = omega arith in
    let w : length (digits_of p) ≡ 64 * word + p.len % 64 = omega arith in
    let v : pushed p word side ≡ slice_index_or (packed 4 (digits_of p)) word 0 + digit_of (nat_eq side 1) * 2 ^ (63 - p.len % 64) =
    ap₂ (λ (ws : List ℕ) (b : ℕ). slice_index_or ws word 0 + b) (words_are p h) (digit_placed side (63 - p.len % 64) bit (omega arith)) in
    ap₂ (λ (ws : List ℕ) (b : ℕ). slice_set ws word b) (words_are p h) v
    ∙ sym (packed-push 4 word (p.len % 64) (digits_of p) (nat_eq side 1) w r (omega arith))

pub pushed_fits : (p : Inside) (word side : ℕ) → IsPacked p → p.len < 200 → side < 2 → word ≡ p.len / 64 → pushed p word side < 2 ^ 64
pushed_fits p word side h room bit at =
    let lw : length p.words ≡ 4 = ap length (words_are p h) ∙ length-packed 4 (digits_of p) in
    let here : slice_index_or (slice_set p.words word (pushed p word side)) word 0 ≡ pushed p word side =
    get_or-set_same p.words word (pushed p word side) 0 (omega arith) in
    let there : slice_index_or (packed 4 (digits_of p ++ nat_eq side 1 ∷ [])) word 0 < 2 ^ 64 = packed_below 4 word (digits_of p ++ nat_eq side 1 ∷ []) in
    subst (λ (w : ℕ). w < 2 ^ 64) (ap (λ (ws : List ℕ). slice_index_or ws word 0) (sym (pushed_words p word side h room bit at)) ∙ here) there

pushed_fields : (p : Inside) (word side : ℕ) → IsPacked p → p.len < 200 → side < 2 → word ≡ p.len / 64
    → record { words = slice_set p.words word (pushed p word side); len = p.len + 1 } ≡ fields_of (digits_of p ++ nat_eq side 1 ∷ [])
pushed_fields p word side h room bit at =
    let l : p.len ≡ length (digits_of p) = len_is p h in
    let longer : p.len + 1 ≡ length (digits_of p ++ nat_eq side 1 ∷ []) = omega (arith, length-append {A = Bool}) in
    ap₂ (λ (ws : List ℕ) (n : ℕ). let i : Inside = record { words = ws; len = n } in i) (pushed_words p word side h room bit at) longer

longer_fits : (p : Inside) (b : Bool) → IsPacked p → p.len < 200 → length (digits_of p ++ b ∷ []) ≤ 200
longer_fits p b h room = let l : p.len ≡ length (digits_of p) = len_is p h in omega (arith, length-append {A = Bool})

pub pushed_packed : (p : Inside) (word side : ℕ) → IsPacked p → p.len < 200 → side < 2 → word ≡ p.len / 64
    → IsPacked (record { words = slice_set p.words word (pushed p word side); len = p.len + 1 })
pushed_packed p word side h room bit at =
    subst IsPacked (sym (pushed_fields p word side h room bit at)) (is_packed (digits_of p ++ nat_eq side 1 ∷ []) (longer_fits p _ h room))

pub pushed_digits : (p : Inside) (word side : ℕ) → IsPacked p → p.len < 200 → side < 2 → word ≡ p.len / 64
    → digits_of (record { words = slice_set p.words word (pushed p word side); len = p.len + 1 }) ≡ digits_of p ++ nat_eq side 1 ∷ []
pushed_digits p word side h room bit at =
    ap digits_of (pushed_fields p word side h room bit at) ∙ digits_back (digits_of p ++ nat_eq side 1 ∷ []) (longer_fits p _ h room)

pub field_digit : (p : Inside) (word k : ℕ) → IsPacked p → k < p.len → word ≡ k / 64
    → (slice_index_or p.words word 0 / 2 ^ (63 - k % 64)) % 2 ≡ digit_of (slice_index_or (digits_of p) k false)
field_digit p word k h lt at =
    let r : k % 64 < 64 = omega arith in
    let room : p.len ≤ 200 = h.room in
    let e : 64 * word + k % 64 ≡ k = omega arith in
    ap (λ (ws : List ℕ). (slice_index_or ws word 0 / 2 ^ (63 - k % 64)) % 2) (words_are p h)
    ∙ packed-digit 4 word (k % 64) (digits_of p) r (omega arith)
    ∙ ap (λ (w : ℕ). digit_of (slice_index_or (digits_of p) w false)) e
