-- A text that grows at its end, word by word.
use Rattle.std.proofs.Common.{◌≡◌, ℕ, zero, suc, ◌+◌, ◌≤◌, List, [], ◌∷◌, ◌++◌, length, map, take, refl, sym, ap, ◌∙◌, append_assoc, arith}
use Rattle.std.specs.List.{join_with_byte, flat_map, range_with_len}
use Rattle.std.proofs.lemmas.List.{append-nil, flat_map_more, take_at, take_all, take-take, length-take}
use Rattle.std.proofs.lemmas.List.FromFn.{length-map-range_with_len, map-range_with_len_more}
use Rattle.text_lines.specs.Spelling.{Extends, spaced_word, line_of_words}

pub Extends-same : (xs ys : List ℕ) → ys ≡ xs → Extends xs ys
Extends-same xs ys e = rw e (take_all (length xs) xs (omega arith))

pub Extends-append : (xs ys zs : List ℕ) → zs ≡ xs ++ ys → Extends xs zs
Extends-append xs ys zs e = rw e (take_at xs ys (length xs) refl)

long : (xs ys : List ℕ) → Extends xs ys → length xs ≤ length ys
long xs ys h = omega (arith, ap length h, length-take (length xs) ys)

pub Extends-then : (xs ys zs : List ℕ) → Extends xs ys → Extends ys zs → Extends xs zs
Extends-then xs ys zs h k =
    let e : take (length xs) (take (length ys) zs) ≡ take (length xs) zs = take-take (length xs) (length ys) zs (long xs ys h) in
    sym e ∙ ap (take (length xs)) k ∙ h

-- ---- a loop that writes
-- what stood there, with what is written after it
pub record IsWriting (before now written : List ℕ) : Type 0 where
  pub so_far : now ≡ before ++ written
  pub kept : Extends before now

pub still_kept : (before now written new : List ℕ) → IsWriting before now written → Extends now new → Extends before new
still_kept before now written new w e = Extends-then before now new w.kept e

-- ---- a column
pub first_column : (column : ℕ) (word old new : List ℕ) → column ≡ 0 → new ≡ old ++ word → new ≡ old ++ spaced_word column word
unfolding spaced_word
first_column column word old new z e = rw z e

pub later_column : (column : ℕ) (word old mid new : List ℕ) → (column ≡ 0 → ⊥) → mid ≡ old ++ 32 ∷ [] → new ≡ mid ++ word → new ≡ old ++ spaced_word column word
unfolding spaced_word
later_column zero word old mid new z e f = absurd (z refl)
later_column (suc column) word old mid new z e f = rw (f, e) (append_assoc old (32 ∷ []) word)

pub join_push : (ws : List (List ℕ)) (w : List ℕ) → join_with_byte 32 (ws ++ w ∷ []) ≡ join_with_byte 32 ws ++ spaced_word (length ws) w
unfolding spaced_word
join_push [] w = refl
join_push (v ∷ []) w = refl
join_push (v ∷ u ∷ ws) w = ap (λ t. v ++ 32 ∷ t) (join_push (u ∷ ws) w)
    ∙ sym (append_assoc v (32 ∷ join_with_byte 32 (u ∷ ws)) (spaced_word (length (u ∷ ws)) w))

-- the words of the first columns
unfoldable pub columns : (ℕ → List ℕ) → ℕ → List ℕ
columns word n = join_with_byte 32 (map word (range_with_len 0 n))

pub column_none : (word : ℕ → List ℕ) (old : List ℕ) → old ≡ old ++ columns word 0
unfolding columns
column_none word old = sym (append-nil old)

pub column_more : (word : ℕ → List ℕ) (j : ℕ) (text old mid new : List ℕ) → text ≡ word j → mid ≡ old ++ columns word j → new ≡ mid ++ spaced_word j text
    → new ≡ old ++ columns word (j + 1)
unfolding columns
column_more word j text old mid new is e f =
    let len : length (map word (range_with_len 0 j)) ≡ j = length-map-range_with_len word 0 j in
    let joined : join_with_byte 32 (map word (range_with_len 0 (j + 1))) ≡ join_with_byte 32 (map word (range_with_len 0 j)) ++ spaced_word j (word j) =
    ap (join_with_byte 32) (map-range_with_len_more word 0 j j (omega arith))
    ∙ join_push (map word (range_with_len 0 j)) (word j)
    ∙ ap (λ (k : ℕ). join_with_byte 32 (map word (range_with_len 0 j)) ++ spaced_word k (word j)) len in
    rw (f, e, joined, is) (append_assoc old (join_with_byte 32 (map word (range_with_len 0 j))) (spaced_word j (word j)))

pub column_end : (word : ℕ → List ℕ) (n : ℕ) (old mid new : List ℕ) → mid ≡ old ++ columns word n → new ≡ mid ++ 10 ∷ []
    → new ≡ old ++ line_of_words (map word (range_with_len 0 n))
unfolding columns
column_end word n old mid new e f = rw (f, e) (append_assoc old (join_with_byte 32 (map word (range_with_len 0 n))) (10 ∷ []))

pub map-map : {A B C : Type 0} (f : A → B) (g : B → C) (xs : List A) → map g (map f xs) ≡ map (λ x. g (f x)) xs
map-map f g [] = refl
map-map f g (x ∷ xs) = ap (λ ys. g (f x) ∷ ys) (map-map f g xs)

-- the words after the first, each with a space before it
unfoldable pub spaced : List (List ℕ) → List ℕ
spaced ws = flat_map (λ w. 32 ∷ w) ws

pub join_spaced : (w : List ℕ) (ws : List (List ℕ)) → join_with_byte 32 (w ∷ ws) ≡ w ++ spaced ws
unfolding spaced
join_spaced w [] = sym (append-nil w)
join_spaced w (v ∷ ws) = ap (λ t. w ++ 32 ∷ t) (join_spaced v ws)

pub spaced_none : (old : List ℕ) → old ≡ old ++ spaced []
unfolding spaced
spaced_none old = sym (append-nil old)

pub spaced_more : (front : List (List ℕ)) (w old mid one new : List ℕ) → mid ≡ old ++ spaced front → one ≡ mid ++ 32 ∷ [] → new ≡ one ++ w
    → new ≡ old ++ spaced (front ++ w ∷ [])
unfolding spaced
spaced_more front w old mid one new e f g =
    rw (g, f, e) (append_assoc (old ++ spaced front) (32 ∷ []) w ∙ append_assoc old (spaced front) (32 ∷ w)
    ∙ ap (λ (t : List ℕ). old ++ t) (flat_map_more (λ (v : List ℕ). 32 ∷ v) [] front w))
