-- Paths that are put or kept, and cones that are added.
use Rattle.std.proofs.Common.{◌≡◌, ℕ, ◌+◌, ◌≤◌, ◌⊎◌, List, [], ◌∷◌, ◌++◌, length, refl, sym, ap, ◌∙◌, subst, inl, inr, arith, length-append}
use Rattle.std.specs.List.{Contains}
use Rattle.std.proofs.lemmas.List.Elements.{Contains-push_cases}
use Rattle.unimodular_cone.specs.Paths.{Path}
use Rattle.unimodular_cone.specs.Cones.{Matrix}
use Rattle.unimodular_cone.specs.Shown.{ShownCone, IsConeAt}
use Rattle.search_core.specs.Machine.{times}
use Rattle.search_core.proofs.Times.{times-append, times_cons}
use Rattle.cone_pool.specs.Lots.{Lot, IsPushed}
use Rattle.cone_pool.specs.Parts.{AreCones, IsSafe}

pub put_it : (path : Path) (s t : Lot) (k : List Path) → IsPushed path s t → IsSafe (path ∷ []) s k t k
put_it path s t k h = subst (λ (x : Lot). IsSafe (path ∷ []) s k x k) (sym h) record {
  counts = λ p. omega (arith, times-append p s.put (path ∷ []));
  deque = refl;
  popped = refl;
  out = refl;
  tokens = refl;
  few = omega arith;
}

pub kept_it : (path back : Path) (s t : Lot) (k l : List Path) → back ≡ path → t ≡ s → l ≡ k ++ back ∷ [] → IsSafe (path ∷ []) s k t l
kept_it path back s t k l e same is = subst (λ (x : Lot). IsSafe (path ∷ []) s k x l) (sym same) record {
  counts = λ p.
      let a : times p l ≡ times p (k ++ path ∷ []) = ap (times p) (is ∙ ap (λ (b : Path). k ++ b ∷ []) e) in
      omega (arith, times-append p k (path ∷ []));
  deque = refl;
  popped = refl;
  out = refl;
  tokens = refl;
  few = (let a : length l ≡ length k + 1 = ap length is ∙ length-append k (back ∷ []) in omega arith);
}

pub both : (a b : Path) (s t u : Lot) (k l m : List Path) → IsSafe (b ∷ []) s k t l → IsSafe (a ∷ []) t l u m → IsSafe (a ∷ b ∷ []) s k u m
both a b s t u k l m h g = record {
  counts = λ p. (let x = h.counts p in let y = g.counts p in omega (arith, times_cons p a (b ∷ [])));
  deque = g.deque ∙ h.deque;
  popped = g.popped ∙ h.popped;
  out = g.out ∙ h.out;
  tokens = g.tokens ∙ h.tokens;
  few = (let x = h.few in let y = g.few in omega arith);
}

pub more_cones : (n : ℕ) (q : Matrix) (d : ℕ) (path : Path) (c : ShownCone) (cones : List ShownCone) → AreCones n q d cones → IsConeAt n q path c
    → length path ≤ d → AreCones n q d (cones ++ c ∷ [])
more_cones n q d path c cones each at short k there = by (Contains-push_cases cones c k there)
  where
    by : (Contains cones k ⊎ (c ≡ k)) → IsConeAt n q k.path k × (length k.path ≤ d)
    by (inl old) = each k old
    by (inr e) = subst (λ (x : ShownCone). IsConeAt n q x.path x × (length x.path ≤ d)) e
        ((subst (λ (p : Path). IsConeAt n q p c) (sym at.path_is) at), (let l : length c.path ≡ length path = ap length at.path_is in omega arith))
