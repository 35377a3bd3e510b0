-- Lists of weighted vectors.
use Rattle.std.specs.Prelude.{◌≡◌, ℕ, ◌+◌, ◌-◌, ◌<◌, ◌⊎◌, List, [], ◌∷◌, ◌++◌, length, slice_index_or}
use Rattle.std.specs.List.{Contains}
use Rattle.std.proofs.Common.{arith, ◌∙◌, subst, inl, inr}
use Rattle.std.proofs.lemmas.List.{get_or_default, map-append, length-map}
use Rattle.std.proofs.lemmas.List.Elements.{All-push}
use Rattle.exact_forms.specs.Signs.{IsPositive}
use Rattle.exact_forms.specs.Vectors.{ComesBefore, IsIncreasing}
use Rattle.exact_forms.specs.Factors.{WeightedVector}
use Rattle.exact_forms.proofs.Vectors.{before_transitive, increasing_push, increasing_places}
use Rattle.fraction128.specs.Terms.{vectors_of, IsTermList, IsAfter}

-- a vector that is after the last one is after each
pub after_each : (xs : List (List ℕ)) (x : List ℕ) → IsIncreasing xs → ((k : ℕ) → k + 1 ≡ length xs → ComesBefore (slice_index_or xs k []) x) → (z : List ℕ)
    → Contains xs z → ComesBefore z x
after_each xs x increasing last z (k, l, e) = subst (λ (w : List ℕ). ComesBefore w x) (get_or_default xs k [] z l ∙ e) (by (places k (length xs) l))
  where
    places : (k n : ℕ) → k < n → (k + 1 ≡ n) ⊎ (k + 1 < n)
    places k n l = grind arith

    by : ((k + 1 ≡ length xs) ⊎ (k + 1 < length xs)) → ComesBefore (slice_index_or xs k []) x
    by (inl e) = last k e
    by (inr more) =
        before_transitive (slice_index_or xs k []) (slice_index_or xs (length xs - 1) []) x
        (increasing_places xs [] increasing k (length xs - 1) (omega arith) (omega arith)) (last (length xs - 1) (omega arith))

-- a term that comes after the last one keeps the list
pub terms_push : (terms : List WeightedVector) (term : WeightedVector) → IsTermList terms → IsPositive term.weight → IsAfter terms term.vector
    → IsTermList (terms ++ term ∷ [])
terms_push terms term list positive after = record {
  positive = All-push (λ term. IsPositive term.weight) terms term list.positive positive;
  increasing = rw (map-append (λ (t : WeightedVector). t.vector))
      (increasing_push (vectors_of terms) term.vector list.increasing
      (after_each (vectors_of terms) term.vector list.increasing (λ k e. after.greater k (e ∙ length-map terms (λ (t : WeightedVector). t.vector)))));
}
