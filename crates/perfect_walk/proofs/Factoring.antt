-- The terms of the positive weights, one after the other.
use Rattle.std.specs.Prelude.{◌≡◌, ℕ, ◌+◌, ◌<◌, ◌≤◌, List, [], ◌∷◌, ◌++◌, map, length, slice_index_or, filter, cond}
use Rattle.std.specs.List.{All, range_with_len}
use Rattle.std.proofs.Common.{arith, sym, ◌∙◌, ap, ap₂, refl, subst}
use Rattle.std.proofs.lemmas.List.{length-map, get_or-map}
use Rattle.std.proofs.lemmas.List.Elements.{All-filter}
use Rattle.std.proofs.lemmas.List.FromFn.{length-map-range_with_len, get_or-map-range_with_len, filter_of_map_range_with_len_more}
use Rattle.exact_forms.specs.Rational.{Rational}
use Rattle.exact_forms.specs.Vectors.{ComesBefore, IsIncreasing}
use Rattle.exact_forms.specs.Factors.{WeightedVector}
use Rattle.exact_forms.specs.PositiveTerms.{has_weight, positive_terms}
use Rattle.exact_forms.proofs.Vectors.{increasing_places}
use Rattle.exact_linear.specs.Squares.{vector_at}
use Rattle.exact_lp.specs.Weights.{weight_in}
use Rattle.fraction128.specs.Terms.{IsAfter}
use Rattle.perfect_walk.specs.Ends.{terms_of}
use Rattle.perfect_walk.specs.Parts.{kept_term}

abbrev term_at : List (List ℕ) → List Rational → ℕ → WeightedVector
term_at vectors found k = record { weight = weight_in found k; vector = vector_at vectors k }

abbrev pub made : List (List ℕ) → List Rational → ℕ → List WeightedVector
made vectors found k = filter has_weight (map (term_at vectors found) (range_with_len 0 k))

pub one_more : (vectors : List (List ℕ)) (found : List Rational) (k : ℕ) (w : Rational) (x : List ℕ) (before now : List WeightedVector) → w ≡ weight_in found k
    → x ≡ vector_at vectors k
    → before ≡ made vectors found k → now ≡ before ++ kept_term w x → now ≡ made vectors found (k + 1)
one_more vectors found k w x before now weight vector is next =
    next ∙ ap₂ (λ (ts : List WeightedVector) (us : List WeightedVector). ts ++ us) is (ap₂ (λ (w : Rational) (x : List ℕ). kept_term w x) weight vector)
    ∙ sym (filter_of_map_range_with_len_more has_weight (term_at vectors found) 0 k k (omega arith))

pub all_made : (vectors : List (List ℕ)) (found : List Rational) (k : ℕ) (now : List WeightedVector) → k ≡ length vectors → now ≡ made vectors found k
    → now ≡ terms_of vectors found
unfolding terms_of positive_terms
all_made vectors found k now e is = is ∙ ap (λ (k : ℕ). made vectors found k) e

pub is_after : (vectors : List (List ℕ)) (found : List Rational) (k : ℕ) (now : List WeightedVector) (x : List ℕ) → IsIncreasing vectors → k < length vectors
    → x ≡ vector_at vectors k → now ≡ made vectors found k → IsAfter now x
is_after vectors found k now x increasing l vector is =
    let before : All (λ t. ComesBefore t.vector x) (map (term_at vectors found) (range_with_len 0 k)) = λ i none li.
    let low : i < k = omega (arith, length-map-range_with_len (term_at vectors found) 0 k) in
    let at : slice_index_or (map (term_at vectors found) (range_with_len 0 k)) i none ≡ term_at vectors found i = get_or-map-range_with_len
    (term_at vectors found) 0 k i i none low (omega arith) in
    subst (λ (t : WeightedVector). ComesBefore t.vector x) (sym at)
    (subst (λ (y : List ℕ). ComesBefore (vector_at vectors i) y) (sym vector) (increasing_places vectors [] increasing i k low l)) in
    let kept : All (λ t. ComesBefore t.vector x) now = subst (λ (ts : List WeightedVector). All (λ t. ComesBefore t.vector x) ts) (sym is)
    (All-filter has_weight (λ t. ComesBefore t.vector x) (map (term_at vectors found) (range_with_len 0 k)) before) in
    record {
      greater = λ i last. subst (λ (y : List ℕ). ComesBefore y x)
          (sym (get_or-map (λ (t : WeightedVector). t.vector) now i (term_at vectors found 0) [] (omega arith)))
          (kept i (term_at vectors found 0) (omega arith));
    }
