-- A line, word by word.
use Rattle.std.specs.Prelude.{map, false}
use Rattle.std.proofs.Common.{◌≡◌, ℕ, ◌+◌, ◌<◌, ◌≤◌, List, [], ◌∷◌, ◌++◌, length, get_or, take, refl, sym, ap, ap₂, ◌∙◌, append_assoc, length-append, arith}
use Rattle.std.specs.Fmt.{decimal}
use Rattle.unimodular_cone.specs.Paths.{Path, digit_of, digit_at}
use Rattle.std.specs.List.{join_with_byte}
use Rattle.std.proofs.lemmas.List.{append-nil, map_more, take_all, length-take, length-map}
use Rattle.cpfactor_lines.specs.declared.line.Word.{Word}
use Rattle.text_lines.specs.Spelling.{spaced_word}
use Rattle.text_lines.proofs.Written.{join_push}
use Rattle.cpfactor_lines.specs.Lines.{line, word_text, words_text, path_word, digits_text}

pub word_more : (words : List Word) (i : ℕ) (d : Word) (old mid new : List ℕ) → i < length words → mid ≡ old ++ join_with_byte 32 (words_text (take i words))
    → new ≡ mid ++ spaced_word i (word_text (get_or words i d))
    → new ≡ old ++ join_with_byte 32 (words_text (take (i + 1) words))
word_more words i d old mid new lt e f =
    let w = get_or words i d in
    let len : length (words_text (take i words)) ≡ i = length-map (take i words) word_text ∙ (rw length-take (omega arith)) in
    let more : words_text (take (i + 1) words) ≡ words_text (take i words) ++ word_text (get_or words i d) ∷ [] = map_more word_text words i d lt in
    let joined : join_with_byte 32 (words_text (take (i + 1) words)) ≡ join_with_byte 32 (words_text (take i words))
    ++ spaced_word i (word_text (get_or words i d)) =
    ap (join_with_byte 32) more ∙ join_push (words_text (take i words)) (word_text (get_or words i d))
    ∙ ap (λ k. join_with_byte 32 (words_text (take i words)) ++ spaced_word k (word_text (get_or words i d))) len in
    rw (f, e, joined) (append_assoc old (join_with_byte 32 (words_text (take i words))) (spaced_word i (word_text (get_or words i d))))

pub words_end : (words : List Word) (i : ℕ) (old mid : List ℕ) → length words ≤ i → mid ≡ old ++ join_with_byte 32 (words_text (take i words))
    → mid ≡ old ++ join_with_byte 32 (words_text words)
words_end words i old mid le e = let all = take_all i words le in rw e (rw all refl)

pub words_start : (words : List Word) (old : List ℕ) → old ≡ old ++ join_with_byte 32 (words_text (take 0 words))
words_start words old = sym (append-nil old)

pub ruleset word_steps = (word_more, words_end, words_start)

pub line_of_spelled : (words : List (List ℕ)) (old mid new : List ℕ) → mid ≡ old ++ join_with_byte 32 words → new ≡ mid ++ 10 ∷ [] → new ≡ old ++ line words
unfolding line
line_of_spelled words old mid new e f = rw (f, e) (append_assoc old (join_with_byte 32 words) (10 ∷ []))

-- ---- numbers behind words
pub number_more : (words : List Word) (xs : List ℕ) (k : ℕ) (old mid new : List ℕ) → k < length xs
    → mid ≡ old ++ join_with_byte 32 (words_text words ++ map decimal (take k xs))
    → new ≡ mid ++ spaced_word (length words + k) (decimal (get_or xs k 0)) → new ≡ old ++ join_with_byte 32 (words_text words ++ map decimal (take (k + 1) xs))
number_more words xs k old mid new lt e f =
    let front = words_text words ++ map decimal (take k xs) in
    let len : length front ≡ length words + k = length-append (words_text words) (map decimal (take k xs))
    ∙ ap₂ (λ (a : ℕ) (b : ℕ). a + b) (length-map words word_text) (length-map (take k xs) decimal ∙ (rw length-take (omega arith))) in
    let more : words_text words ++ map decimal (take (k + 1) xs) ≡ front ++ decimal (get_or xs k 0) ∷ [] =
    ap (λ t. words_text words ++ t) (map_more decimal xs k 0 lt)
    ∙ sym (append_assoc (words_text words) (map decimal (take k xs)) (decimal (get_or xs k 0) ∷ [])) in
    let joined : join_with_byte 32 (words_text words ++ map decimal (take (k + 1) xs)) ≡ join_with_byte 32 front
    ++ spaced_word (length words + k) (decimal (get_or xs k 0)) =
    ap (join_with_byte 32) more ∙ join_push front (decimal (get_or xs k 0))
    ∙ ap (λ n. join_with_byte 32 front ++ spaced_word n (decimal (get_or xs k 0))) len in
    rw (f, e, joined) (append_assoc old (join_with_byte 32 front) (spaced_word (length words + k) (decimal (get_or xs k 0))))

pub numbers_start : (words : List Word) (xs : List ℕ) (old new : List ℕ) → new ≡ old ++ join_with_byte 32 (words_text words)
    → new ≡ old ++ join_with_byte 32 (words_text words ++ map decimal (take 0 xs))
numbers_start words xs old new e = e ∙ ap (λ t. old ++ join_with_byte 32 t) (sym (append-nil (words_text words)))

pub numbers_end : (words : List Word) (xs : List ℕ) (k : ℕ) (old mid new : List ℕ) → length xs ≤ k
    → mid ≡ old ++ join_with_byte 32 (words_text words ++ map decimal (take k xs)) → new ≡ mid ++ 10 ∷ []
    → new ≡ old ++ line (words_text words ++ map decimal xs)
numbers_end words xs k old mid new le e f =
    line_of_spelled (words_text words ++ map decimal xs) old mid new (e
    ∙ ap (λ t. old ++ join_with_byte 32 (words_text words ++ map decimal t)) (take_all k xs le)) f

-- ---- paths
pub no_digits : (path : Path) (n : ℕ) (old new : List ℕ) → n ≡ 0 → n ≡ length path → new ≡ old ++ 45 ∷ [] → new ≡ old ++ path_word path
unfolding path_word
no_digits [] n old new z e f = f
no_digits (side ∷ path) n old new z e f = absurd (omega arith)

pub some_digits : (path : Path) (n : ℕ) → (n ≡ 0 → ⊥) → n ≡ length path → digits_text path ≡ path_word path
unfolding path_word
some_digits [] n z e = absurd (z e)
some_digits (side ∷ path) n z e = refl

pub digits_start : (path : Path) (old : List ℕ) → old ≡ old ++ digits_text (take 0 path)
unfolding digits_text
digits_start path old = sym (append-nil old)

pub digit_more : (path : Path) (k : ℕ) (old mid new : List ℕ) → k < length path → mid ≡ old ++ digits_text (take k path)
    → new ≡ mid ++ (48 + digit_of (digit_at path k)) ∷ [] → new ≡ old ++ digits_text (take (k + 1) path)
unfolding digits_text
digit_more path k old mid new lt e f =
    let more : map (λ side. 48 + digit_of side) (take (k + 1) path) ≡ map (λ side. 48 + digit_of side) (take k path)
    ++ (48 + digit_of (get_or path k false)) ∷ [] = map_more (λ side. 48 + digit_of side) path k false lt in
    rw (f, e, more) (append_assoc old (map (λ side. 48 + digit_of side) (take k path)) ((48 + digit_of (digit_at path k)) ∷ []))

pub digits_end : (path : Path) (k : ℕ) (old mid : List ℕ) → length path ≤ k → mid ≡ old ++ digits_text (take k path) → mid ≡ old ++ digits_text path
digits_end path k old mid le e = let all = take_all k path le in rw e (rw all refl)
