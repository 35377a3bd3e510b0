-- The lines of lists.
use Rattle.std.specs.Prelude.{◌≡◌, ℕ, zero, suc, ◌≤◌, ℤ, pos, List, [], ◌∷◌, ◌++◌, length, map, take, Some, slice_get, slice_index_or, codes}
use Rattle.std.proofs.Common.{refl, ap, ap₂, ◌∙◌, append_assoc}
use Rattle.std.specs.List.{flat_map}
use Rattle.std.proofs.lemmas.List.{take_all}
use Rattle.std.specs.Fmt.{decimal, signed_decimal}
use Rattle.exact_forms.specs.Factors.{WeightedVector}
use Rattle.unimodular_cone.specs.Paths.{Path}
use Rattle.cpfactor_lines.specs.Lines.{line, path_word}
use Rattle.cpfactor_lines.specs.Texts.{term_line, vector_line, value_text, factored_text, factorization_text, least_text, vectors_text, minimum_text, low_text}

-- the line of the item at an index
item_line : {X : Type 0} (f : X → List ℕ) (xs : List X) (k : ℕ) (item : X) → slice_get xs k ≡ Some item → f item ≡ slice_index_or (map f xs) k []
item_line f [] k item is = absurd cc
item_line f (x ∷ xs) zero item is = let e : Some x ≡ Some item = is in ap f (let s : item ≡ x = cc in s)
item_line f (x ∷ xs) (suc k) item is = item_line f xs k item is

pub term_line_at : (terms : List WeightedVector) (k : ℕ) (item : WeightedVector) → slice_get terms k ≡ Some item
    → term_line item ≡ slice_index_or (map term_line terms) k []
term_line_at terms k item is = item_line term_line terms k item is

-- the words of a term's line
pub term_words_are : (term : WeightedVector) (num den : ℤ) (xs : List ℕ) → num ≡ term.weight.num → den ≡ pos term.weight.den → xs ≡ term.vector
    → line ((signed_decimal num ++ 47 ∷ signed_decimal den) ∷ map decimal xs) ≡ term_line term
unfolding term_line
term_words_are term num den xs n d v =
    ap₂ (λ (word : List ℕ) (xs : List ℕ). line (word ∷ map decimal xs)) (ap₂ (λ (n : ℤ) (d : ℤ). signed_decimal n ++ 47 ∷ signed_decimal d) n d) v

pub vector_line_at : (vectors : List (List ℕ)) (k : ℕ) (item xs : List ℕ) → slice_get vectors k ≡ Some item → xs ≡ item
    → line (map decimal xs) ≡ slice_index_or (map vector_line vectors) k []
unfolding vector_line
vector_line_at vectors k item xs is v = ap (λ (xs : List ℕ). line (map decimal xs)) v ∙ item_line vector_line vectors k item is

-- ---- headed lists
pub flat_map-map : {X : Type 0} (f : X → List ℕ) (xs : List X) → flat_map (λ (l : List ℕ). l) (map f xs) ≡ flat_map f xs
flat_map-map f [] = refl
flat_map-map f (x ∷ xs) = ap (λ t. f x ++ t) (flat_map-map f xs)

pub factorization_lines : (n : ℕ) (terms : List WeightedVector) (head : List ℕ) → head ≡ factored_text n (length terms)
    → head ++ flat_map (λ (l : List ℕ). l) (map term_line terms) ≡ factorization_text n terms
unfolding factorization_text
factorization_lines n terms head is = ap₂ (λ (a : List ℕ) (b : List ℕ). a ++ b) is (flat_map-map term_line terms)

-- the lines of the terms, appended behind the line that counts them
pub terms_appended : (n : ℕ) (terms : List WeightedVector) (count k : ℕ) (old mid new : List ℕ) → count ≡ length terms → length terms ≤ k
    → mid ≡ old ++ factored_text n count → new ≡ mid ++ flat_map term_line (take k terms)
    → new ≡ old ++ factorization_text n terms
unfolding factorization_text
terms_appended n terms count k old mid new is all e f =
    rw (f, e, is, take_all k terms all) (append_assoc old (factored_text n (length terms)) (flat_map term_line terms))

abbrev pub count_line : ℕ → List ℕ
count_line count = line (codes "vectors" ∷ decimal count ∷ [])

pub vectors_lines : (vectors : List (List ℕ)) (head : List ℕ) → head ≡ count_line (length vectors)
    → head ++ flat_map (λ (l : List ℕ). l) (map vector_line vectors) ≡ vectors_text vectors
vectors_lines vectors head is = ap₂ (λ (a : List ℕ) (b : List ℕ). a ++ b) is (flat_map-map vector_line vectors)

pub minimum_lines : (d m : ℤ) (vectors : List (List ℕ)) (head : List ℕ) → head ≡ least_text d m → head ++ vectors_text vectors ≡ minimum_text d m vectors
unfolding minimum_text
minimum_lines d m vectors head is = ap (λ (h : List ℕ). h ++ vectors_text vectors) is

pub low_words : (d z : ℤ) (x xs word : List ℕ) (path : Path) → word ≡ value_text z d → xs ≡ x
    → line (codes "low" ∷ codes "value" ∷ word ∷ codes "path" ∷ path_word path ∷ codes "vector" ∷ map decimal xs) ≡ low_text d x z path
unfolding low_text
low_words d z x xs word path same is =
    ap₂ (λ (w : List ℕ) (xs : List ℕ). line (codes "low" ∷ codes "value" ∷ w ∷ codes "path" ∷ path_word path ∷ codes "vector" ∷ map decimal xs)) same is
