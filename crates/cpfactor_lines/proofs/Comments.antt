-- The comments of a trace, one after the other, as they are written.
use Rattle.std.proofs.Common.{◌≡◌, ℕ, suc, ◌+◌, List, [], ◌∷◌, ◌++◌, length, map, take, Some, codes, pos, refl, sym, ap, ◌∙◌, append_assoc, arith}
use Rattle.std.specs.Prelude.{slice_get}
use Rattle.std.specs.List.{flat_map, range_with_len}
use Rattle.std.specs.Fmt.{decimal, signed_decimal}
use Rattle.std.proofs.lemmas.List.{append-nil, flat_map_more, take_more, length-take}
use Rattle.std.proofs.lemmas.List.FromFn.{map-range_with_len_more}
use Rattle.std.proofs.lemmas.Option.{slice_get_within, get_or_from_slice_get}
use Rattle.exact_forms.specs.Triangles.{entry_in}
use Rattle.exact_forms.proofs.Lists.{six_joined}
use Rattle.symmetric_matrix.specs.Symmetric.{Symmetric, entry}
use Rattle.symmetric_matrix.proofs.Runs.{range_more}
use Rattle.text_lines.specs.Square.{full}
use Rattle.text_lines.proofs.Written.{spaced, join_spaced, spaced_more, map-map}
use Rattle.cone_tree_certificate.proofs.WrittenLines.{entry_word}
use Rattle.perfect_walk.specs.declared.journal.Visit.{Visit}
use Rattle.cpfactor_lines.specs.Lines.{line}
use Rattle.cpfactor_lines.specs.Traces.{comment, matrix_comments, vector_comments, visit_text, visits_text}

-- ---- a row
abbrev pub cells : (ℕ → List ℕ) → ℕ → List ℕ
cells word j = spaced (map word (range_with_len 0 j))

pub cells_none : (word : ℕ → List ℕ) (old : List ℕ) → old ≡ old ++ cells word 0
unfolding spaced
cells_none word old = sym (append-nil old)

pub cells_more : (word : ℕ → List ℕ) (j : ℕ) (text old mid one new : List ℕ) → text ≡ word j → mid ≡ old ++ cells word j → one ≡ mid ++ 32 ∷ []
    → new ≡ one ++ text → new ≡ old ++ cells word (j + 1)
cells_more word j text old mid one new is e f g =
    let more : map word (range_with_len 0 (j + 1)) ≡ map word (range_with_len 0 j) ++ word j ∷ [] = map-range_with_len_more word 0 j j (omega arith) in
    rw more (spaced_more (map word (range_with_len 0 j)) (word j) old mid one new e f (g ∙ ap (λ (t : List ℕ). one ++ t) is))

pub comment_end : (words : List (List ℕ)) (old first mid new : List ℕ) → first ≡ old ++ 35 ∷ [] → mid ≡ first ++ spaced words → new ≡ mid ++ 10 ∷ []
    → new ≡ old ++ comment words
unfolding line
comment_end words old first mid new e f g =
    rw (g, f, e, join_spaced (codes "#") words) (append_assoc (old ++ 35 ∷ []) (spaced words) (10 ∷ []) ∙ append_assoc old (35 ∷ []) (spaced words ++ 10 ∷ []))

-- ---- a matrix
abbrev pub row_comment : Symmetric → ℕ → List ℕ
row_comment m i = comment (map (entry_word m i) (range_with_len 0 m.size))

pub rows_more : (m : Symmetric) (i : ℕ) (old mid new : List ℕ) → mid ≡ old ++ flat_map (row_comment m) (range_with_len 0 i) → new ≡ mid ++ row_comment m i
    → new ≡ old ++ flat_map (row_comment m) (range_with_len 0 (i + 1))
rows_more m i old mid new e f =
    rw (f, e, range_more i) (append_assoc old (flat_map (row_comment m) (range_with_len 0 i)) (row_comment m i)
    ∙ ap (λ (t : List ℕ). old ++ t) (flat_map_more (row_comment m) [] (range_with_len 0 i) i))

pub rows_end : (m : Symmetric) (old new : List ℕ) → new ≡ old ++ flat_map (row_comment m) (range_with_len 0 m.size) → new ≡ old ++ matrix_comments m
unfolding matrix_comments full entry
rows_end m old new e = e ∙ ap (λ (t : List ℕ). old ++ t) (sym (each (range_with_len 0 m.size)))
  where
    each : (is : List ℕ) → flat_map (λ row. comment (map signed_decimal row))
        (map (λ i. map (λ j. entry_in (pos 0) m.lower i j) (range_with_len 0 m.size)) is) ≡ flat_map (row_comment m) is
    each [] = refl
    each (i ∷ is) = rw (map-map (λ j. entry_in (pos 0) m.lower i j) signed_decimal (range_with_len 0 m.size), each is) refl

-- ---- a visit
pub visit_made : (k count : ℕ) (v : Visit) (old a b d e new : List ℕ) → count ≡ length v.vectors → a ≡ old ++ comment (codes "visit" ∷ decimal k ∷ [])
    → b ≡ a ++ matrix_comments v.matrix
    → d ≡ b ++ comment (codes "minimum" ∷ signed_decimal v.mu ∷ []) → e ≡ d ++ comment (codes "vectors" ∷ decimal count ∷ [])
    → new ≡ e ++ vector_comments v.vectors → new ≡ old ++ visit_text k v
unfolding visit_text
visit_made k count v old a b d e new is f g h i j =
    rw (j, i, h, g, f, is) (six_joined old (comment (codes "visit" ∷ decimal k ∷ [])) (matrix_comments v.matrix)
    (comment (codes "minimum" ∷ signed_decimal v.mu ∷ [])) (comment (codes "vectors" ∷ decimal (length v.vectors) ∷ [])) (vector_comments v.vectors))

-- ---- visits
visits_push : (k : ℕ) (visits : List Visit) (v : Visit) → visits_text k (visits ++ v ∷ []) ≡ visits_text k visits ++ visit_text (k + length visits) v
unfolding visits_text
visits_push k [] v = (let same : k + 0 ≡ k = omega arith in rw same (append-nil (visit_text k v)))
visits_push k (u ∷ visits) v =
    let same : k + 1 + length visits ≡ k + suc (length visits) = omega arith in
    rw (visits_push (k + 1) visits v, same) (sym (append_assoc (visit_text k u) (visits_text (k + 1) visits) (visit_text (k + suc (length visits)) v)))

pub visits_none : (old : List ℕ) → old ≡ old ++ visits_text 0 []
unfolding visits_text
visits_none old = sym (append-nil old)

pub visits_more : (visits : List Visit) (i : ℕ) (v : Visit) (old mid new : List ℕ) → slice_get visits i ≡ Some v
    → mid ≡ old ++ visits_text 0 (take i visits) → new ≡ mid ++ visit_text i v → new ≡ old ++ visits_text 0 (take (i + 1) visits)
visits_more visits i v old mid new at e f =
    let lt = slice_get_within visits i v at in
    let more : take (i + 1) visits ≡ take i visits ++ v ∷ [] = take_more visits i v lt
    ∙ ap (λ (u : Visit). take i visits ++ u ∷ []) (get_or_from_slice_get visits i v v at) in
    let len : 0 + length (take i visits) ≡ i = rw length-take (omega arith) in
    rw (f, e, more, visits_push 0 (take i visits) v, len) (append_assoc old (visits_text 0 (take i visits)) (visit_text i v))
