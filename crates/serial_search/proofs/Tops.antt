-- The top of an arena's list, and the room above it.
use Rattle.std.specs.Prelude.{◌≡◌, ℕ, suc, ◌<◌, ◌≤◌, ◌+◌, ◌-◌, true, false, List, [], ◌∷◌, ◌++◌, length, take, slice_index_or}
use Rattle.std.proofs.Common.{arith, sym, ◌∙◌, ap, subst, length-append}
use Rattle.std.proofs.Math.Seq.{get_or-append_seam, take-append_seam}
use Rattle.std.specs.List.{Contains}
use Rattle.std.proofs.lemmas.List.Elements.{Contains-push}
use Rattle.commutative_ring.proofs.SmallCases.{below_unless_same}
use Rattle.unimodular_cone.specs.declared.Mode.{Mode}
use Rattle.unimodular_cone.specs.Shown.{ShownCone, FitsOnBothSides, IsChild}
use Rattle.cone_arena.specs.Arena.{ShownArena, IsTopReplaced, IsDropped}
use Rattle.search_core.specs.declared.Fate.{Fate}
use Rattle.search_core.specs.declared.Fate.TheVariants.{Closed, Split, Low, Dropped, AtLimit, Wide}
use Rattle.search_core.specs.Judging.{IsShownFate}
use Rattle.serial_search.specs.Turns.{IsOnTop, AreStacked, MayTurn, IsTurnOf}

pub same_top : (cones rest other : List ShownCone) (c d : ShownCone) → IsOnTop c rest cones → IsOnTop d other cones → c ≡ d
same_top cones rest other c d a b =
    let l : length cones ≡ length rest + 1 = ap length a ∙ length-append rest (c ∷ []) in
    let k : length cones ≡ length other + 1 = ap length b ∙ length-append other (d ∷ []) in
    let same : length rest ≡ length other = omega (arith, l, k) in
    sym (get_or-append_seam rest c [] c)
    ∙ ap (λ (s : List ShownCone). slice_index_or s (length rest) c) (sym a ∙ b)
    ∙ ap (λ (k : ℕ). slice_index_or (other ++ d ∷ []) k c) same
    ∙ get_or-append_seam other d [] c

pub same_rest : (cones rest other : List ShownCone) (c d : ShownCone) → IsOnTop c rest cones → IsOnTop d other cones → rest ≡ other
same_rest cones rest other c d a b =
    let l : length cones ≡ length rest + 1 = ap length a ∙ length-append rest (c ∷ []) in
    let k : length cones ≡ length other + 1 = ap length b ∙ length-append other (d ∷ []) in
    let same : length rest ≡ length other = omega (arith, l, k) in
    sym (take-append_seam rest (c ∷ []))
    ∙ ap (take (length rest)) (sym a ∙ b)
    ∙ ap (λ (k : ℕ). take k (other ++ d ∷ [])) same
    ∙ take-append_seam other (d ∷ [])

pub dropped_is : (a b : ShownArena) (rest : List ShownCone) (c : ShownCone) → IsOnTop c rest a.cones → IsDropped a b → b.cones ≡ rest
dropped_is a b rest c top dropped =
    let l : length a.cones ≡ length rest + 1 = ap length top ∙ length-append rest (c ∷ []) in
    let one_fewer : length a.cones - 1 ≡ length rest = omega (arith, l) in
    dropped.cones ∙ ap (λ (k : ℕ). take k a.cones) one_fewer ∙ ap (take (length rest)) top ∙ take-append_seam rest (c ∷ [])

-- an arena whose top was replaced by its children is turned
pub split_turned : (a b : ShownArena) (i j w : ℕ) → IsTopReplaced a i j b → IsTurnOf a (Split i j w) b
split_turned a b i j w s = record {
  size = s.size;
  depth = s.depth;
  turned = λ c rest top. record {
    second = s.second;
    first = s.first;
    is_second = subst (λ (d : ShownCone). IsChild d (i - 1) (j - 1) true s.second) (same_top a.cones s.rest rest s.top c s.was top) s.is_second;
    is_first = subst (λ (d : ShownCone). IsChild d (i - 1) (j - 1) false s.first) (same_top a.cones s.rest rest s.top c s.was top) s.is_first;
    stack = s.cones ∙ ap (λ (r : List ShownCone). r ++ s.second ∷ s.first ∷ []) (same_rest a.cones s.rest rest s.top c s.was top);
  };
}

pub top_there : (cones rest : List ShownCone) (c : ShownCone) → IsOnTop c rest cones → Contains cones c
top_there cones rest c e = subst (λ (s : List ShownCone). Contains s c) (sym e) (Contains-push rest c)

-- ---- a cone has at least as many digits as there are cones below it
abbrev pub AreDeep : ℕ → List ShownCone → Type 0
AreDeep k [] = Unit {0}
AreDeep k (c ∷ cones) = (k ≤ length c.path) × AreDeep (suc k) cones

pub deep_front : (k : ℕ) (a b : List ShownCone) → AreDeep k (a ++ b) → AreDeep k a
deep_front k [] b h = tt
deep_front k (c ∷ a) b (le, h) = (le, deep_front (suc k) a b h)

deep_last : (k : ℕ) (a : List ShownCone) (c : ShownCone) → AreDeep k (a ++ c ∷ []) → k + length a ≤ length c.path
deep_last k [] c (le, h) = omega (arith, le)
deep_last k (x ∷ a) c (le, h) = let l : suc k + length a ≤ length c.path = deep_last (suc k) a c h in omega (arith, l)

deep_two : (k : ℕ) (a : List ShownCone) (c d : ShownCone) → AreDeep k a → k + length a ≤ length c.path → k + length a + 1 ≤ length d.path
    → AreDeep k (a ++ c ∷ d ∷ [])
deep_two k [] c d h lc ld = (omega (arith, lc), (omega (arith, ld), tt))
deep_two k (x ∷ a) c d (le, h) lc ld = (le, deep_two (suc k) a c d h (omega (arith, lc)) (omega (arith, ld)))

pub deep_turned : (cones rest new : List ShownCone) (c : ShownCone) (f : Fate) → AreDeep 0 cones → IsOnTop c rest cones → AreStacked c f rest new
    → AreDeep 0 new
deep_turned cones rest new c f deep top stacks = by f stacks
  where
    below : AreDeep 0 (rest ++ c ∷ [])
    below = subst (AreDeep 0) top deep

    gone : new ≡ rest → AreDeep 0 new
    gone e = subst (AreDeep 0) (sym e) (deep_front 0 rest (c ∷ []) below)

    by : (f : Fate) → AreStacked c f rest new → AreDeep 0 new
    by (Split i j w) s =
        let l : 0 + length rest ≤ length c.path = deep_last 0 rest c below in
        let p : length s.second.path ≡ length c.path + 1 = ap length s.is_second.path_is ∙ length-append c.path (true ∷ []) in
        let q : length s.first.path ≡ length c.path + 1 = ap length s.is_first.path_is ∙ length-append c.path (false ∷ []) in
        subst (AreDeep 0) (sym s.stack) (deep_two 0 rest s.second s.first (deep_front 0 rest (c ∷ []) below) (omega (arith, l, p)) (omega (arith, l, q)))
    by (Closed w) s = gone s
    by (Low k) s = gone s
    by (Dropped w) s = gone s
    by (AtLimit w) s = gone s
    by (Wide w a) s = gone s

-- a top that is to be split may be: the arena has room for one cone more
pub may_turn : (m : Mode) (a : ShownArena) (rest : List ShownCone) (c : ShownCone) (d word : ℕ) (f : Fate) → IsOnTop c rest a.cones → c.size ≡ a.size
    → AreDeep 0 a.cones → d ≤ a.depth → length c.path ≤ d → IsShownFate m c d word f → MayTurn a f
may_turn m a rest c d word f top size deep made within fate = by f fate
  where
    by : (f : Fate) → IsShownFate m c d word f → MayTurn a f
    by (Split i j w) (e, u, ne, pair, fits) =
        let short : length c.path < d = below_unless_same (length c.path) d within ne in
        let count : length a.cones ≡ length rest + 1 = ap length top ∙ length-append rest (c ∷ []) in
        let below : 0 + length rest ≤ length c.path = deep_last 0 rest c (subst (AreDeep 0) top deep) in
        let order : i - 1 < j - 1 = pair.1.order in
        let range : j - 1 < c.size = pair.1.range in (
          record {
            first = pair.0;
            order = omega (arith, order, pair.0);
            last = omega (arith, range, size);
            some = omega (arith, count);
            room = omega (arith, count, below, short, made);
            short = λ x is. subst (λ (y : ShownCone). length y.path < a.depth) (same_top a.cones rest is.0 c x top is.1) (omega (arith, short, made));
          },
          λ x is. subst (λ (y : ShownCone). FitsOnBothSides y (i - 1) (j - 1)) (same_top a.cones rest is.0 c x top is.1) fits,
        )
    by (Closed w) g = tt
    by (Low k) g = tt
    by (Dropped w) g = tt
    by (AtLimit w) g = tt
    by (Wide w at) g = tt
