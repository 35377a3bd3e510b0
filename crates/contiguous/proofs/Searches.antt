-- What the search of a candidate leaves.
use Rattle.std.specs.Prelude.{◌≡◌, ◌≢◌, ℕ, ℤ, pos, ◌≤ℤ◌, ◌<ℤ◌, List, [], ◌∷◌, Some, slice_get}
use Rattle.std.specs.List.{Contains}
use Rattle.std.proofs.Common.{arith, sym, refl, subst}
use Rattle.std.proofs.lemmas.Int.{ints}
use Rattle.symmetric_matrix.specs.Symmetric.{Symmetric, entry}
use Rattle.exact_forms.specs.Copositive.{IsMinimum}
use Rattle.unimodular_cone.specs.declared.Mode.{Mode}
use Rattle.unimodular_cone.specs.Paths.{Path}
use Rattle.unimodular_cone.specs.Answer.{Found, Low, IsSearchAnswer, IsLowVector}
use Rattle.contiguous.specs.Tightenings.{first_vector}
use Rattle.contiguous.specs.Making.{IsCandidateReached, LeavesVector, IsPerfectFound}

module _ (c : Symmetric) (z : ℤ) (D : ℕ) where
  pub perfect_found : (m : ℤ) (vectors : List (List ℕ)) → m ≡ z → IsSearchAnswer Mode.Least c.size (entry c) D (Found m vectors)
      → IsMinimum c.size (entry c) m vectors → IsPerfectFound c z D vectors
  perfect_found m vectors e a h = record {
    answers = subst (λ (m : ℤ). IsSearchAnswer Mode.Least c.size (entry c) D (Found m vectors)) e a;
    minimum = subst (λ (m : ℤ). IsMinimum c.size (entry c) m vectors) e h;
  }

  less : (m y : ℤ) → m ≤ℤ y → m ≢ y → m <ℤ y
  less m y h e = grind (arith, ints)

  first_of : (vectors : List (List ℕ)) (x : List ℕ) → slice_get vectors 0 ≡ Some x → x ≡ first_vector vectors
  first_of [] x e = absurd cc
  first_of (y ∷ ys) x e = cc

  contains_first : (vectors : List (List ℕ)) (x : List ℕ) → slice_get vectors 0 ≡ Some x → Contains vectors x
  contains_first [] x e = absurd cc
  contains_first (y ∷ ys) x e = (0, omega arith, cc)

  pub first_left : (m : ℤ) (vectors : List (List ℕ)) (x : List ℕ) → IsCandidateReached c z → m ≢ z
      → IsSearchAnswer Mode.Least c.size (entry c) D (Found m vectors)
      → IsMinimum c.size (entry c) m vectors
      → slice_get vectors 0 ≡ Some x → LeavesVector c z D x
  first_left m vectors x r e a h at =
      let attains = h.lists.each x (contains_first vectors x at) in
      let below : m <ℤ z = less m z (subst (λ (y : ℤ). m ≤ℤ y) r.value (h.least r.vector r.size r.nonzero)) e in
      record {
        answer = Found m vectors;
        answers = a;
        calls = (below, first_of vectors x at);
        size = attains.size;
        nonzero = attains.nonzero;
        below = subst (λ (y : ℤ). y <ℤ z) (sym attains.value) below;
      }

  pub low_left : (x : List ℕ) (v : ℤ) (path : Path) → pos 1 ≤ℤ z → IsSearchAnswer Mode.Least c.size (entry c) D (Low x v path)
      → IsLowVector Mode.Least c.size (entry c) x v → LeavesVector c z D x
  low_left x v path positive a h = record {
    answer = Low x v path;
    answers = a;
    calls = refl;
    size = h.size;
    nonzero = h.nonzero;
    below = subst (λ (y : ℤ). y <ℤ z) (sym h.value) (under v z h.low positive);
  }
    where
      under : (v z : ℤ) → v ≤ℤ pos 0 → pos 1 ≤ℤ z → v <ℤ z
      under v z a b = grind (arith, ints)
