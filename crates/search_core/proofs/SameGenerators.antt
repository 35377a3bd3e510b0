-- A generator that several cones have.
--
-- | same_itself, same_value, has_same | the relation |
-- | first_other, second_other | a child's generators beside the mediant are its parent's |
-- | second_mediant | the mediant is a generator of both children |
use Rattle.std.specs.Prelude.{◌≡◌, ◌≢◌, ℕ, ◌<◌, ◌+ℤ◌, Some, true, false, List, [], ◌∷◌, ◌++◌}
use Rattle.std.proofs.Common.{arith, refl, sym, ap, ◌∙◌}
use Rattle.std.proofs.lemmas.Int.{ints}
use Rattle.exact_forms.proofs.Forms.{form_same}
use Rattle.unimodular_cone.specs.Paths.{Path}
use Rattle.unimodular_cone.specs.Cones.{Matrix, Generators, gram, value, child, pair_of, cone_at}
use Rattle.unimodular_cone.proofs.Additions.{child_row, child_row_other}
use Rattle.unimodular_cone.proofs.Tree.{cone_at-side}
use Rattle.search_core.specs.Fair.{Judged, IsSameGenerator, HasGenerator}

pub same_itself : (n : ℕ) (q : Matrix) (path : Path) (k : ℕ) → k < n → IsSameGenerator n q path k path k
same_itself n q path k l = record { range = l; same = λ p lp. refl }

pub same_value : (n : ℕ) (q : Matrix) (path other : Path) (k l : ℕ) → IsSameGenerator n q path k other l
    → value n q (cone_at n q other) l ≡ value n q (cone_at n q path) k
same_value n q path other k l s = form_same n q q (cone_at n q other l) (cone_at n q path k) (λ i j li lj. refl) s.same

pub has_same : (n : ℕ) (q : Matrix) (judged : List Judged) (path other : Path) (k l : ℕ) → IsSameGenerator n q path k other l
    → HasGenerator n q judged other l → HasGenerator n q judged path k
has_same n q judged path other k l s (j, i, c, t) = (j, i, c, record { range = t.range; same = λ p lp. t.same p lp ∙ s.same p lp })

-- ---- the children at the pair
module _ (n : ℕ) (q : Matrix) (path : Path) (i j : ℕ) (pair : pair_of n (gram n q (cone_at n q path)) ≡ Some (i, j)) where
  first_is : cone_at n q (path ++ false ∷ []) ≡ child (cone_at n q path) i j
  first_is = cone_at-side n q path false (Some (i, j)) pair

  second_is : cone_at n q (path ++ true ∷ []) ≡ child (cone_at n q path) j i
  second_is = cone_at-side n q path true (Some (i, j)) pair

  pub first_other : (k : ℕ) → k < n → k ≢ i → IsSameGenerator n q (path ++ false ∷ []) k path k
  first_other k l ne = record {
    range = l;
    same = λ p lp. sym (ap (λ (v : Generators). v k p) first_is ∙ child_row_other (cone_at n q path) i j k p ne);
  }

  pub second_other : (k : ℕ) → k < n → k ≢ j → IsSameGenerator n q (path ++ true ∷ []) k path k
  second_other k l ne = record {
    range = l;
    same = λ p lp. sym (ap (λ (v : Generators). v k p) second_is ∙ child_row_other (cone_at n q path) j i k p ne);
  }

  pub second_mediant : i < n → (k : ℕ) → k ≡ j → IsSameGenerator n q (path ++ true ∷ []) k (path ++ false ∷ []) i
  second_mediant l k e = record {
    range = l;
    same = λ p lp.
        let first : cone_at n q (path ++ false ∷ []) i p ≡ cone_at n q path i p +ℤ cone_at n q path j p =
        ap (λ (v : Generators). v i p) first_is ∙ child_row (cone_at n q path) i j i p refl in
        let second : cone_at n q (path ++ true ∷ []) k p ≡ cone_at n q path j p +ℤ cone_at n q path i p =
        ap (λ (v : Generators). v k p) second_is ∙ child_row (cone_at n q path) j i k p e in
        omega (arith, ints);
  }
