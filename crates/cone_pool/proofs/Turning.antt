-- The stack after a judgement, and the children that are put into the deque.
use Rattle.std.proofs.Common.{◌≡◌, ◌≢◌, ℕ, ◌+◌, ◌-◌, ◌<◌, ◌≤◌, ◌⊎◌, true, false, Bool, List, [], ◌∷◌, length, refl, sym, ap, ◌∙◌, subst, inl, inr, arith}
use Rattle.std.proofs.Common.{length-append}
use Rattle.std.specs.List.{Contains}
use Rattle.std.proofs.lemmas.List.Elements.{Contains-append_left, Contains-append_cases}
use Rattle.commutative_ring.proofs.SmallCases.{below_unless_same}
use Rattle.exact_forms.proofs.Vectors.{contains_cons}
use Rattle.exact_forms.proofs.Lists.{top_in}
use Rattle.unimodular_cone.specs.declared.Mode.{Mode}
use Rattle.unimodular_cone.specs.Paths.{Path}
use Rattle.unimodular_cone.specs.Cones.{Matrix}
use Rattle.unimodular_cone.specs.Shown.{ShownCone, IsConeAt, IsChild}
use Rattle.unimodular_cone.proofs.ShownAt.{child_at_path}
use Rattle.search_core.specs.declared.Fate.{Fate}
use Rattle.search_core.specs.declared.Fate.TheVariants.{Closed, Split, Low, Dropped, AtLimit, Wide}
use Rattle.search_core.specs.Judging.{IsShownFate}
use Rattle.search_core.specs.Machine.{times}
use Rattle.search_core.proofs.Times.{times_none}
use Rattle.cone_pool.specs.Lots.{Lot, token_taken}
use Rattle.cone_pool.specs.Turns.{SplitsAt, TopSplits, AreStacked, IsTopTurned, IsTopAt}
use Rattle.cone_pool.specs.Parts.{Member, AreCones, IsWorkerPart, IsSameMember, IsSafe, IsFateOnTop}

-- a worker with nothing in its hand, as it stands between two turns
pub record IsBetweenTurns (m : Mode) (n : ℕ) (q : Matrix) (d : ℕ) (old new : Member) : Type 0 where
  pub part : IsWorkerPart m n q d [] new
  pub same : IsSameMember old new
  pub none : new.kept ≡ []

pub top_splits : (m : Mode) (n : ℕ) (q : Matrix) (d : ℕ) (f : Fate) (cones : List ShownCone) → d ≤ 200 → AreCones n q d cones → IsFateOnTop m d f cones
    → TopSplits f cones
top_splits m n q d f cones small each (word, fate) c rest is = by f (fate c rest is) (each c (top_in cones rest c is)).1
  where
    by : (f : Fate) → IsShownFate m c d word f → length c.path ≤ d → SplitsAt c f
    by (Split a b w) (e, u, ne, pair, fits) le = (pair, fits, less (length c.path) d le ne small)
      where
        less : (x y : ℕ) → x ≤ y → x ≢ y → y ≤ 200 → x < 200
        less x y le ne bound = grind arith
    by (Closed w) g le = tt
    by (Low k) g le = tt
    by (Dropped w) g le = tt
    by (AtLimit w) g le = tt
    by (Wide w a) g le = tt

pub turned_cones : (m : Mode) (n : ℕ) (q : Matrix) (d : ℕ) (path : Path) (f : Fate) (cones new : List ShownCone) → AreCones n q d cones
    → IsFateOnTop m d f cones → IsTopAt path cones → IsTopTurned f cones new → AreCones n q d new
turned_cones m n q d path f cones new each (word, fate) t turns k there =
    by f (fate t.top t.rest t.is) (turns t.top t.rest t.is)
  where
    c : ShownCone
    c = t.top

    here : IsConeAt n q c.path c × (length c.path ≤ d)
    here = each c (top_in cones t.rest c t.is)

    old : (x : ShownCone) → Contains t.rest x → IsConeAt n q x.path x × (length x.path ≤ d)
    old x r = each x (subst (λ (s : List ShownCone). Contains s x) (sym t.is) (Contains-append_left t.rest (c ∷ []) x r))

    by : (f : Fate) → IsShownFate m c d word f → AreStacked c f t.rest new → IsConeAt n q k.path k × (length k.path ≤ d)
    by (Split a b w) (e, u, ne, pair, fits) s = cases (Contains-append_cases t.rest (s.second ∷ s.first ∷ []) k
        (subst (λ (x : List ShownCone). Contains x k) s.stack there))
      where
        short : length c.path < d
        short = below_unless_same (length c.path) d here.1 ne

        a_child : (side : Bool) (r : ShownCone) → IsChild c (a - 1) (b - 1) side r → IsConeAt n q r.path r × (length r.path ≤ d)
        a_child side r is = (
          subst (λ (p : Path). IsConeAt n q p r) (sym is.path_is) (child_at_path n q c.path c here.0 (a - 1) (b - 1) side r pair.1 is),
          (let l : length r.path ≡ length c.path + 1 = ap length is.path_is ∙ length-append c.path (side ∷ []) in let sh : length c.path < d = short in
              omega arith),
        )

        of_two : ((s.second ≡ k) ⊎ Contains (s.first ∷ []) k) → IsConeAt n q k.path k × (length k.path ≤ d)
        of_two (inl e) = subst (λ (r : ShownCone). IsConeAt n q r.path r × (length r.path ≤ d)) e (a_child true s.second s.is_second)
        of_two (inr z) = of_one (contains_cons s.first [] k z)
          where
            of_one : ((s.first ≡ k) ⊎ Contains [] k) → IsConeAt n q k.path k × (length k.path ≤ d)
            of_one (inl e) = subst (λ (r : ShownCone). IsConeAt n q r.path r × (length r.path ≤ d)) e (a_child false s.first s.is_first)
            of_one (inr (i, l, e)) = absurd (omega arith)

        cases : (Contains t.rest k ⊎ Contains (s.second ∷ s.first ∷ []) k) → IsConeAt n q k.path k × (length k.path ≤ d)
        cases (inl z) = old k z
        cases (inr z) = of_two (contains_cons s.second (s.first ∷ []) k z)
    by (Closed w) g s = old k (subst (λ (x : List ShownCone). Contains x k) s there)
    by (Low i) g s = old k (subst (λ (x : List ShownCone). Contains x k) s there)
    by (Dropped w) g s = old k (subst (λ (x : List ShownCone). Contains x k) s there)
    by (AtLimit w) g s = old k (subst (λ (x : List ShownCone). Contains x k) s there)
    by (Wide w a) g s = old k (subst (λ (x : List ShownCone). Contains x k) s there)

abbrev pub with_all : Member → Lot → List Path → List ShownCone → Member
with_all w lot kept cones = record { number = w.number; lot = lot; seat = w.seat; judged = w.judged; kept = kept; cones = cones }

pub children_put : (m : Mode) (n : ℕ) (q : Matrix) (d : ℕ) (paths : List Path) (w : Member) (lot : Lot) (kept : List Path) (cones : List ShownCone)
    → IsWorkerPart m n q d paths w → IsSafe paths w.lot w.kept lot kept → AreCones n q d cones → IsWorkerPart m n q d [] (with_all w lot kept cones)
children_put m n q d paths w lot kept cones part safe each = record {
  counts = λ p.
      let a = part.counts p in
      let b = safe.counts p in
      let c : times p lot.popped ≡ times p w.lot.popped = ap (times p) safe.popped in
      let e : token_taken p lot.tokens ≡ token_taken p w.lot.tokens = ap (token_taken p) safe.tokens in
      omega (arith, times_none p);
  judged = part.judged;
  cones = each;
  room = (let a = part.room in let b = safe.few in omega arith);
}

pub nothing_put : (s : Lot) (k : List Path) → IsSafe [] s k s k
nothing_put s k = record {
  counts = λ p. omega (arith, times_none p);
  deque = refl;
  popped = refl;
  out = refl;
  tokens = refl;
  few = omega arith;
}
