-- The lines of a verdict, one after the other, as they are written.
use Rattle.std.proofs.Common.{◌≡◌, ℕ, ◌+◌, ◌<◌, ◌≤◌, List, [], ◌∷◌, ◌++◌, length, get_or, map, take, Some, codes, ℤ, pos, refl, sym, ap, subst, ◌∙◌}
use Rattle.std.proofs.Common.{append_assoc, arith}
use Rattle.std.specs.Prelude.{slice_get}
use Rattle.std.specs.List.{All, flat_map, range_with_len}
use Rattle.std.proofs.lemmas.List.Elements.{All-append, All-cons, All-nil}
use Rattle.std.specs.Fmt.{decimal, signed_decimal}
use Rattle.std.proofs.lemmas.List.{append-nil, flat_map_more, take_more, take_all, map_push}
use Rattle.std.proofs.lemmas.Option.{slice_get_within, get_or_from_slice_get}
use Rattle.std.proofs.lemmas.List.FromFn.{map-range_with_len_more}
use Rattle.exact_forms.specs.Rational.{Rational}
use Rattle.exact_forms.specs.Factors.{WeightedVector}
use Rattle.symmetric_matrix.specs.Symmetric.{Symmetric, entry}
use Rattle.exact_forms.specs.Triangles.{entry_in}
use Rattle.exact_forms.proofs.Lists.{six_joined}
use Rattle.text_lines.specs.Square.{full}
use Rattle.text_lines.specs.Spelling.{line_of_words, quotient_word}
use Rattle.text_lines.proofs.Written.{join_spaced, spaced, spaced_more, map-map}
use Rattle.cone_tree_certificate.specs.declared.verdict.Verdict.TheVariants.{Factors, Separator}
use Rattle.cone_tree_certificate.specs.Trees.{Lines}
use Rattle.cone_tree_certificate.specs.VerdictText.{term_words, written_terms, written_rows, written_tree, verdict_text}

pub flat_none : {X : Type 0} (f : X → List ℕ) (old : List ℕ) → old ≡ old ++ flat_map f []
flat_none f old = sym (append-nil old)

-- a line more of a list
pub flat_more : {X : Type 0} (f : X → List ℕ) (xs : List X) (i : ℕ) (x : X) (old mid new : List ℕ) → slice_get xs i ≡ Some x
    → mid ≡ old ++ flat_map f (take i xs) → new ≡ mid ++ f x → new ≡ old ++ flat_map f (take (i + 1) xs)
flat_more f xs i x old mid new at e g =
    let more : take (i + 1) xs ≡ take i xs ++ x ∷ [] = take_more xs i x (slice_get_within xs i x at)
    ∙ ap (λ y. take i xs ++ y ∷ []) (get_or_from_slice_get xs i x x at) in
    rw (g, e, more) (append_assoc old (flat_map f (take i xs)) (f x) ∙ ap (λ (t : List ℕ). old ++ t) (flat_map_more f [] (take i xs) x))

pub flat_all : {X : Type 0} (f : X → List ℕ) (xs : List X) (i : ℕ) (old new : List ℕ) → length xs ≤ i → new ≡ old ++ flat_map f (take i xs)
    → new ≡ old ++ flat_map f xs
flat_all f xs i old new le e = rw (e, take_all i xs le) refl

-- what holds of each item that was written holds of the items so far
pub all_taken_more : {X : Type 0} (P : X → Type 0) (xs : List X) (i : ℕ) (x : X) → slice_get xs i ≡ Some x → All P (take i xs) → P x → All P (take (i + 1) xs)
all_taken_more {X} P xs i x at before here =
    let more : take (i + 1) xs ≡ take i xs ++ x ∷ [] = take_more xs i x (slice_get_within xs i x at)
    ∙ ap (λ (y : X). take i xs ++ y ∷ []) (get_or_from_slice_get xs i x x at) in
    rw more (All-append P (take i xs) (x ∷ []) before (All-cons P x [] here (All-nil P)))

pub all_taken : {X : Type 0} (P : X → Type 0) (xs : List X) (i : ℕ) → length xs ≤ i → All P (take i xs) → All P xs
all_taken {X} P xs i le h = subst (λ (ys : List X). All P ys) (take_all i xs le) h

-- ---- a term

pub coordinates_none : (xs : List ℕ) (old : List ℕ) → old ≡ old ++ spaced (map decimal (take 0 xs))
unfolding spaced
coordinates_none xs old = sym (append-nil old)

pub coordinates_more : (xs : List ℕ) (i x : ℕ) (old mid one new : List ℕ) → i < length xs → x ≡ get_or xs i 0 → mid ≡ old ++ spaced (map decimal (take i xs))
    → one ≡ mid ++ 32 ∷ [] → new ≡ one ++ decimal x → new ≡ old ++ spaced (map decimal (take (i + 1) xs))
coordinates_more xs i x old mid one new lt is e f g =
    rw (take_more xs i 0 lt, map_push decimal (take i xs) (get_or xs i 0), ← is) (spaced_more (map decimal (take i xs)) (decimal x) old mid one new e f g)

pub term_end : (term : WeightedVector) (i : ℕ) (xs old one mid new : List ℕ) → xs ≡ term.vector → length xs ≤ i → one ≡ old ++ quotient_word term.weight
    → mid ≡ one ++ spaced (map decimal (take i xs)) → new ≡ mid ++ 10 ∷ [] → new ≡ old ++ line_of_words (term_words term)
term_end term i xs old one mid new is le e f g =
    rw (g, f, e, take_all i xs le, is, join_spaced (quotient_word term.weight) (map decimal term.vector))
    (append_assoc (old ++ quotient_word term.weight) (spaced (map decimal term.vector)) (10 ∷ [])
    ∙ append_assoc old (quotient_word term.weight) (spaced (map decimal term.vector) ++ 10 ∷ [])
    ∙ ap (λ (t : List ℕ). old ++ t) (sym (append_assoc (quotient_word term.weight) (spaced (map decimal term.vector)) (10 ∷ []))))

-- ---- W

-- the words of a row, and its line
abbrev pub entry_word : Symmetric → ℕ → ℕ → List ℕ
entry_word w i j = signed_decimal (entry w i j)

abbrev pub row_line : Symmetric → ℕ → List ℕ
row_line w i = line_of_words (map (entry_word w i) (range_with_len 0 w.size))

pub rows_more : (w : Symmetric) (i : ℕ) (old mid new : List ℕ) → mid ≡ old ++ flat_map (row_line w) (range_with_len 0 i) → new ≡ mid ++ row_line w i
    → new ≡ old ++ flat_map (row_line w) (range_with_len 0 (i + 1))
rows_more w i old mid new e f =
    let more : range_with_len 0 (i + 1) ≡ range_with_len 0 i ++ i ∷ [] = sym (map-id (range_with_len 0 (i + 1)))
    ∙ map-range_with_len_more (λ k. k) 0 i i (omega arith) ∙ ap (λ (t : List ℕ). t ++ i ∷ []) (map-id (range_with_len 0 i)) in
    rw (f, e, more) (append_assoc old (flat_map (row_line w) (range_with_len 0 i)) (row_line w i)
    ∙ ap (λ (t : List ℕ). old ++ t) (flat_map_more (row_line w) [] (range_with_len 0 i) i))
  where
    map-id : (xs : List ℕ) → map (λ k. k) xs ≡ xs
    map-id [] = refl
    map-id (x ∷ xs) = ap (λ (t : List ℕ). x ∷ t) (map-id xs)

flat_map-map : {A B : Type 0} (f : A → B) (g : B → List ℕ) (xs : List A) → flat_map g (map f xs) ≡ flat_map (λ x. g (f x)) xs
flat_map-map f g [] = refl
flat_map-map f g (x ∷ xs) = ap (λ (t : List ℕ). g (f x) ++ t) (flat_map-map f g xs)

pub rows_end : (w : Symmetric) (old new : List ℕ) → new ≡ old ++ flat_map (row_line w) (range_with_len 0 w.size) → new ≡ old ++ written_rows w
unfolding written_rows full entry
rows_end w old new e =
    rw (
      e,
      flat_map-map (λ i. map (λ j. entry_in (pos 0) w.lower i j) (range_with_len 0 w.size)) (λ row. line_of_words (map signed_decimal row))
          (range_with_len 0 w.size),
    ) (ap (λ (t : List ℕ). old ++ t) (each (range_with_len 0 w.size)))
  where
    each : (is : List ℕ)
        → flat_map (row_line w) is ≡ flat_map (λ i. line_of_words (map signed_decimal (map (λ j. entry_in (pos 0) w.lower i j) (range_with_len 0 w.size)))) is
    each [] = refl
    each (i ∷ is) = rw (map-map (λ j. entry_in (pos 0) w.lower i j) signed_decimal (range_with_len 0 w.size), each is) refl

-- ---- a verdict

pub factors_made : (n : ℕ) (terms : List WeightedVector) (k : ℕ) (old one new : List ℕ) → k ≡ length terms
    → one ≡ old ++ line_of_words (codes "factored" ∷ decimal n ∷ decimal k ∷ []) → new ≡ one ++ written_terms terms
    → new ≡ old ++ verdict_text (Factors n terms)
unfolding verdict_text
factors_made n terms k old one new is e f =
    rw (f, e, is) (append_assoc old (line_of_words (codes "factored" ∷ decimal n ∷ decimal (length terms) ∷ [])) (written_terms terms))

pub separator_made : (w : Symmetric) (value : Rational) (tree : Lines) (n k : ℕ) (old a b d e new : List ℕ) → n ≡ w.size → k ≡ length tree
    → a ≡ old ++ line_of_words (codes "separated" ∷ decimal n ∷ []) → b ≡ a ++ written_rows w
    → d ≡ b ++ line_of_words (codes "value" ∷ quotient_word value ∷ []) → e ≡ d ++ line_of_words (codes "tree" ∷ decimal k ∷ []) → new ≡ e ++ written_tree tree
    → new ≡ old ++ verdict_text (Separator w value tree)
unfolding verdict_text
separator_made w value tree n k old a b d e new is at f g h i j =
    rw (
      j,
      i,
      h,
      g,
      f,
      is,
      at,
    ) (six_joined old (line_of_words (codes "separated" ∷ decimal w.size ∷ [])) (written_rows w)
    (line_of_words (codes "value" ∷ quotient_word value ∷ [])) (line_of_words (codes "tree" ∷ decimal (length tree) ∷ [])) (written_tree tree))
