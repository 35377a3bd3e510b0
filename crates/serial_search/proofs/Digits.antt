-- The second walk: in the order of digits under the final word, to the first open cone.
use Rattle.std.specs.Prelude.{◌≡◌, ◌≢◌, ◌⊎◌, ℕ, ◌<◌, ◌≤◌, ◌+◌, ◌-◌, ◌^◌, min, nat_abs, ℤ, pos, ◌≤ℤ◌, Bool, true, false, List, [], ◌∷◌, ◌++◌, length}
use Rattle.std.specs.List.{Contains}
use Rattle.std.proofs.Common.{arith, sym, ◌∙◌, ap, refl, inl, inr, subst, append_assoc}
use Rattle.std.proofs.lemmas.Int.{ints}
use Rattle.std.proofs.lemmas.List.Elements.{Contains-push, Contains-append_left, Contains-append_right, Contains-append_cases}
use Rattle.commutative_ring.proofs.SmallCases.{below_unless_same}
use Rattle.exact_forms.proofs.Lists.{nothing_in}
use Rattle.exact_forms.proofs.Vectors.{contains_cons, contains_here, contains_there}
use Rattle.unimodular_cone.specs.declared.Mode.TheVariants.{Least}
use Rattle.unimodular_cone.specs.declared.WideAt.{WideAt}
use Rattle.unimodular_cone.specs.Paths.{Path, IsAbove, IsNoLater}
use Rattle.unimodular_cone.specs.Cones.{Matrix, cone_at}
use Rattle.unimodular_cone.specs.Tree.{CanSplit, IsInTree, IsClosedAt, HasWideChild, IsOpen, IsFirstOpen, IsFirstOverBelow}
use Rattle.unimodular_cone.specs.Answer.{SearchAnswer, IsSearchAnswer, IsOpenAnswer, IsClosedAnswer}
use Rattle.unimodular_cone.specs.Shown.{ShownCone, IsConeAt, IsChild}
use Rattle.unimodular_cone.proofs.ShownAt.{child_at_path}
use Rattle.unimodular_cone.proofs.Tree.{above_child, none_above_root, in_tree_root, in_tree_child}
use Rattle.unimodular_cone.proofs.Minimum.{IsWayDown, not_low_Least}
use Rattle.search_core.specs.declared.Fate.{Fate}
use Rattle.search_core.specs.declared.Fate.TheVariants.{Closed, Split, Low, Dropped, AtLimit, Wide}
use Rattle.search_core.specs.Fair.{bound_under, least_value, IsSplit, IsEndFate}
use Rattle.search_core.specs.Judging.{shown_code, IsShownFate}
use Rattle.search_core.proofs.PathFates.{IsPathFate}
use Rattle.search_core.proofs.ShownFates.{fate_at, path_fate, shown_code_at}
use Rattle.search_core.proofs.LeastValues.{least_value_attained, code_not_low}
use Rattle.search_core.proofs.Settle.{split_can, split_not_wide}
use Rattle.search_core.proofs.Fairness.{append_nil}
use Rattle.serial_search.specs.Turns.{IsOnTop, AreChildrenOn, AreStacked}
use Rattle.serial_search.specs.Walks.{IsClearWord}
use Rattle.serial_search.proofs.Stacks.{cones_left, fewer_cones}
use Rattle.serial_search.proofs.Lefts.{IsInOrder, left_no_later, front_no_later, one_in_order, order_below, top_is_left, split_in_order}

-- the path p begins with the path a
abbrev Begins : Path → Path → Type 0
Begins a p = (more : Path) × (p ≡ a ++ more)

-- a cone on the way, and no cone above it closed at the bound
pub record IsOnTheWay (n : ℕ) (q : Matrix) (d : ℕ) (b : ℤ) (c : ShownCone) : Type 0 where
  pub at : IsConeAt n q c.path c
  pub way : IsWayDown n q d b c.path

-- the path is that of a cone of the stack, or lies below it
pub record IsUnder (stack : List ShownCone) (p : Path) : Type 0 where
  pub cone : ShownCone
  pub member : Contains stack cone
  pub more : Path
  pub is : p ≡ cone.path ++ more

-- each open path is still to come
pub record IsWalking (n : ℕ) (q : Matrix) (d : ℕ) (b : ℤ) (stack : List ShownCone) : Type 0 where
  pub cones : (c : ShownCone) → Contains stack c → IsOnTheWay n q d b c
  pub order : IsInOrder stack
  pub still : (p : Path) → IsOpen n q d b p → IsUnder stack p

pub walk_from_root : (n : ℕ) (q : Matrix) (d : ℕ) (b : ℤ) (root : ShownCone) → IsConeAt n q [] root → IsWalking n q d b (root ∷ [])
walk_from_root n q d b root at = record {
  cones = λ c h. by c (contains_cons root [] c h);
  order = one_in_order root;
  still = λ p o. record { cone = root; member = contains_here root []; more = p; is = rw at.path_is refl };
}
  where
    start : IsOnTheWay n q d b root
    start = record {
      at = subst (λ (p : Path). IsConeAt n q p root) (sym at.path_is) at;
      way = subst (IsWayDown n q d b) (sym at.path_is) (record { in_tree = in_tree_root n q d; above = λ a h. absurd (none_above_root a h) });
    }

    by : (c : ShownCone) → ((root ≡ c) ⊎ Contains [] c) → IsOnTheWay n q d b c
    by c (inl e) = subst (IsOnTheWay n q d b) e start
    by c (inr h) = absurd (nothing_in c h)

-- a code is at least the final word
pub word_below_code : (n : ℕ) (q : Matrix) (d word : ℕ) (c : ShownCone) → 0 < n → word < 2 ^ 64 → IsClearWord n q d word → IsConeAt n q c.path c
    → IsInTree n q d c.path → word ≤ shown_code Least c
word_below_code n q d word c some fits w at t =
    let r = least_value_attained n q (cone_at n q c.path) some in
    let positive : pos 1 ≤ℤ least_value n q (cone_at n q c.path) =
    subst (λ (z : ℤ). pos 1 ≤ℤ z) r.2 (not_low_Least _ (λ h. w.clear.none_low c.path t (r.0, r.1, h))) in
    let least : bound_under Least word ≤ℤ least_value n q (cone_at n q c.path) =
    subst (λ (z : ℤ). bound_under Least word ≤ℤ z) r.2 (w.bound.least c.path r.0 t r.1) in
    let is : shown_code Least c ≡ min (256 + nat_abs (least_value n q (cone_at n q c.path))) (2 ^ 64 - 1) =
    shown_code_at Least n q c.path c some at ∙ code_not_low (length c.path) _ positive in
    let below : word ≤ 256 + nat_abs (least_value n q (cone_at n q c.path)) = within word _ positive least w.past in
    omega arith
  where
    within : (x : ℕ) (z : ℤ) → pos 1 ≤ℤ z → bound_under Least x ≤ℤ z → 257 ≤ x → x ≤ 256 + nat_abs z
    within x z p l h = omega (arith, ints)

-- a turn of the walk: the top of the stack, and its fate
pub record IsWalkTurn (n : ℕ) (q : Matrix) (d word : ℕ) (stack front : List ShownCone) (cone : ShownCone) (f : Fate) : Type 0 where
  pub final : IsClearWord n q d word
  pub walking : IsWalking n q d (bound_under Least word) stack
  pub popped : IsOnTop cone front stack
  pub shown : IsShownFate Least cone d word f

module _ {n : ℕ} {q : Matrix} {d word : ℕ} {stack front : List ShownCone} {cone : ShownCone} {f : Fate}
    (turn : IsWalkTurn n q d word stack front cone f) where
  here : IsOnTheWay n q d (bound_under Least word) cone
  here = turn.walking.cones cone (subst (λ (s : List ShownCone). Contains s cone) (sym turn.popped) (Contains-push front cone))

  fate : IsPathFate Least n q d cone.path word f
  fate = path_fate Least n q d cone.path word f (fate_at Least n q d word cone.path cone f here.at turn.shown)

  in_order : IsInOrder (front ++ cone ∷ [])
  in_order = subst IsInOrder turn.popped turn.walking.order

  below_cone : (c : ShownCone) → Contains front c → IsOnTheWay n q d (bound_under Least word) c
  below_cone c k = turn.walking.cones c (subst (λ (s : List ShownCone). Contains s c) (sym turn.popped) (Contains-append_left front (cone ∷ []) c k))

  -- an open path lies under the top, or under what stands below it
  under_top_or : (p : Path) → IsOpen n q d (bound_under Least word) p → Begins cone.path p ⊎ IsUnder front p
  under_top_or p o = at_member (turn.walking.still p o)
    where
      at_member : IsUnder stack p → Begins cone.path p ⊎ IsUnder front p
      at_member u = by (Contains-append_cases front (cone ∷ []) u.cone (subst (λ (s : List ShownCone). Contains s u.cone) turn.popped u.member))
        where
          last : ((cone ≡ u.cone) ⊎ Contains [] u.cone) → Begins cone.path p ⊎ IsUnder front p
          last (inl e) = inl (u.more, u.is ∙ ap (λ (c : ShownCone). c.path ++ u.more) (sym e))
          last (inr k) = absurd (nothing_in u.cone k)

          by : (Contains front u.cone ⊎ Contains (cone ∷ []) u.cone) → Begins cone.path p ⊎ IsUnder front p
          by (inl k) = inr (record { cone = u.cone; member = k; more = u.more; is = u.is })
          by (inr k) = last (contains_cons cone [] u.cone k)

  -- ---- an open top comes first of all
  first_open : IsOpen n q d (bound_under Least word) cone.path → IsFirstOpen n q d (bound_under Least word) cone.path
  first_open o = record { open_path = o; first = λ p op. by p (under_top_or p op) }
    where
      by : (p : Path) → (Begins cone.path p ⊎ IsUnder front p) → IsNoLater cone.path p
      by p (inl (more, e)) = subst (IsNoLater cone.path) (sym e) (front_no_later cone.path more)
      by p (inr u) = subst (IsNoLater cone.path) (sym u.is) (left_no_later cone.path u.cone.path u.more (top_is_left front cone u.cone in_order u.member))

  open_answer : (¬ IsClosedAt n q cone.path (bound_under Least word)) → ((length cone.path ≡ d) ⊎ HasWideChild n q cone.path)
      → IsOpenAnswer Least n q d cone.path
  open_answer itself ends = record {
    clear = turn.final.clear;
    bound = bound_under Least word;
    is_bound = turn.final.bound;
    first_open = first_open (record { in_tree = here.way.in_tree; ends = ends; itself = itself; above = here.way.above });
  }

  pub depth_is_due : (w : ℕ) → f ≡ AtLimit w → IsSearchAnswer Least n q d (SearchAnswer.Depth cone.path)
  depth_is_due w e = by (subst (IsPathFate Least n q d cone.path word) e fate)
    where
      by : IsPathFate Least n q d cone.path word (AtLimit w) → IsSearchAnswer Least n q d (SearchAnswer.Depth cone.path)
      by (is, u, l) = (open_answer u.not_closed (inl l), l)

  pub wide_is_due : (w : ℕ) (at : WideAt) → f ≡ Wide w at → IsSearchAnswer Least n q d (SearchAnswer.Wide at.path at.entry)
  wide_is_due w at e = by (subst (IsPathFate Least n q d cone.path word) e fate)
    where
      by : IsPathFate Least n q d cone.path word (Wide w at) → IsSearchAnswer Least n q d (SearchAnswer.Wide at.path at.entry)
      by (is, u, ne, wide) =
          inr (cone.path, open_answer u.not_closed (inr (at.path, at.entry, wide)), below_unless_same (length cone.path) d here.way.in_tree.short ne, wide)

  -- ---- the walk goes on
  -- no open path lies under a closed top
  none_under : IsClosedAt n q cone.path (bound_under Least word) → (p : Path) → IsOpen n q d (bound_under Least word) p → (more : Path)
      → p ≡ cone.path ++ more → ⊥
  none_under closed p o [] e = o.itself (subst (λ (r : Path). IsClosedAt n q r (bound_under Least word)) (sym (e ∙ append_nil cone.path)) closed)
  none_under closed p o (side ∷ more) e = o.above cone.path (side, more, e) closed

  dropped : (new : List ShownCone) → new ≡ front → IsClosedAt n q cone.path (bound_under Least word) → IsWalking n q d (bound_under Least word) new
  dropped new e closed = subst (IsWalking n q d (bound_under Least word)) (sym e) (record {
    cones = below_cone;
    order = order_below front cone in_order;
    still = λ p o. by p o (under_top_or p o);
  })
    where
      by : (p : Path) → IsOpen n q d (bound_under Least word) p → (Begins cone.path p ⊎ IsUnder front p) → IsUnder front p
      by p o (inl (more, is)) = absurd (none_under closed p o more is)
      by p o (inr u) = u

  -- ---- a split top
  module _ (i j w : ℕ) (is : f ≡ Split i j w) where
    split_fate : IsPathFate Least n q d cone.path word (Split i j w)
    split_fate = subst (IsPathFate Least n q d cone.path word) is fate

    split_shown : IsShownFate Least cone d word (Split i j w)
    split_shown = subst (IsShownFate Least cone d word) is turn.shown

    can : CanSplit n q (cone_at n q cone.path)
    can = (split_can Least n q d cone.path (Split i j w)
        (subst (λ (x : ℕ). IsPathFate Least n q d cone.path x (Split i j w)) (sym split_fate.0) split_fate) tt).0

    short : length cone.path < d
    short = below_unless_same (length cone.path) d here.way.in_tree.short split_fate.2

    child_way : (side : Bool) → IsWayDown n q d (bound_under Least word) (cone.path ++ side ∷ [])
    child_way side = record {
      in_tree = in_tree_child n q d cone.path side here.way.in_tree short can;
      above = λ a k. by a (above_child a cone.path side k);
    }
      where
        by : (a : Path) → ((a ≡ cone.path) ⊎ IsAbove a cone.path) → ¬ IsClosedAt n q a (bound_under Least word)
        by a (inl e) closed = split_fate.1.not_closed (subst (λ (p : Path). IsClosedAt n q p (bound_under Least word)) e closed)
        by a (inr k) closed = here.way.above a k closed

    a_child : (side : Bool) (r : ShownCone) → IsChild cone (i - 1) (j - 1) side r → IsOnTheWay n q d (bound_under Least word) r
    a_child side r c = record {
      at = subst (λ (p : Path). IsConeAt n q p r) (sym c.path_is) (child_at_path n q cone.path cone here.at (i - 1) (j - 1) side r split_shown.3.1 c);
      way = subst (IsWayDown n q d (bound_under Least word)) (sym c.path_is) (child_way side);
    }

    no_end : (p : Path) → p ≡ cone.path → ((length p ≡ d) ⊎ HasWideChild n q p) → ⊥
    no_end p e (inl l) = split_fate.2 (ap length (sym e) ∙ l)
    no_end p e (inr (at_path, entry, wide)) = split_not_wide n q cone.path at_path entry can (subst (λ (r : Path). IsFirstOverBelow n q r at_path entry) e wide)

    pub walk_splits : (new : List ShownCone) → AreChildrenOn cone (i - 1) (j - 1) front new → IsWalking n q d (bound_under Least word) new
    walk_splits new s = subst (IsWalking n q d (bound_under Least word)) (sym s.stack) (record {
      cones = λ c k. on_way c (Contains-append_cases front (s.second ∷ s.first ∷ []) c k);
      order = split_in_order front cone s.second s.first s.is_second.path_is s.is_first.path_is in_order;
      still = λ p o. by p o (under_top_or p o);
    })
      where
        of_first : (c : ShownCone) → ((s.first ≡ c) ⊎ Contains [] c) → IsOnTheWay n q d (bound_under Least word) c
        of_first c (inl e) = subst (IsOnTheWay n q d (bound_under Least word)) e (a_child false s.first s.is_first)
        of_first c (inr k) = absurd (nothing_in c k)

        of_two : (c : ShownCone) → ((s.second ≡ c) ⊎ Contains (s.first ∷ []) c) → IsOnTheWay n q d (bound_under Least word) c
        of_two c (inl e) = subst (IsOnTheWay n q d (bound_under Least word)) e (a_child true s.second s.is_second)
        of_two c (inr k) = of_first c (contains_cons s.first [] c k)

        on_way : (c : ShownCone) → (Contains front c ⊎ Contains (s.second ∷ s.first ∷ []) c) → IsOnTheWay n q d (bound_under Least word) c
        on_way c (inl k) = below_cone c k
        on_way c (inr k) = of_two c (contains_cons s.second (s.first ∷ []) c k)

        second_there : Contains (front ++ s.second ∷ s.first ∷ []) s.second
        second_there = Contains-append_right front (s.second ∷ s.first ∷ []) s.second (contains_here s.second (s.first ∷ []))

        first_there : Contains (front ++ s.second ∷ s.first ∷ []) s.first
        first_there = Contains-append_right front (s.second ∷ s.first ∷ []) s.first (contains_there s.second (s.first ∷ []) s.first (contains_here s.first []))

        side_of : (p : Path) (side : Bool) (more : Path) → p ≡ cone.path ++ side ∷ more → IsUnder (front ++ s.second ∷ s.first ∷ []) p
        side_of p true more e = record {
          cone = s.second;
          member = second_there;
          more = more;
          is = rw s.is_second.path_is (e ∙ sym (append_assoc cone.path (true ∷ []) more));
        }
        side_of p false more e = record {
          cone = s.first;
          member = first_there;
          more = more;
          is = rw s.is_first.path_is (e ∙ sym (append_assoc cone.path (false ∷ []) more));
        }

        under : (p : Path) → IsOpen n q d (bound_under Least word) p → (more : Path) → p ≡ cone.path ++ more → IsUnder (front ++ s.second ∷ s.first ∷ []) p
        under p o [] e = absurd (no_end p (e ∙ append_nil cone.path) o.ends)
        under p o (side ∷ more) e = side_of p side more e

        by : (p : Path) → IsOpen n q d (bound_under Least word) p → (Begins cone.path p ⊎ IsUnder front p) → IsUnder (front ++ s.second ∷ s.first ∷ []) p
        by p o (inl (more, e)) = under p o more e
        by p o (inr u) = record { cone = u.cone; member = Contains-append_left front (s.second ∷ s.first ∷ []) u.cone u.member; more = u.more; is = u.is }

  -- ---- one turn, of a top that is no end
  pub walks_on : (new : List ShownCone) → AreStacked cone f front new → (¬ IsEndFate f) → IsWalking n q d (bound_under Least word) new
  walks_on new stacks no_end = by f refl stacks no_end
    where
      by : (g : Fate) → f ≡ g → AreStacked cone g front new → (¬ IsEndFate g) → IsWalking n q d (bound_under Least word) new
      by (Split i j w) e s none = walk_splits i j w e new s
      by (Closed w) e s none = dropped new s (subst (IsPathFate Least n q d cone.path word) e fate).3
      by (Low k) e s none = absurd (no_low k (subst (IsPathFate Least n q d cone.path word) e fate))
        where
          no_low : (k : ℕ) → IsPathFate Least n q d cone.path word (Low k) → ⊥
          no_low k (l, (i, is, at)) = turn.final.clear.none_low cone.path here.way.in_tree (i, at.range, at.low)
      by (Dropped w) e s none = absurd (no_drop w (subst (IsPathFate Least n q d cone.path word) e fate))
        where
          no_drop : (w : ℕ) → IsPathFate Least n q d cone.path word (Dropped w) → ⊥
          no_drop w (is, lt, why) = let p : 257 ≤ word = turn.final.past in omega arith
      by (AtLimit w) e s none = absurd (none tt)
      by (Wide w at) e s none = absurd (none tt)

  pub walk_shortens : (new : List ShownCone) → AreStacked cone f front new → cones_left d new < cones_left d stack
  walk_shortens new stacks = fewer_cones d stack front new cone here.way.in_tree.short turn.popped f (λ split. apart f refl split) stacks
    where
      apart : (g : Fate) → f ≡ g → IsSplit g → length cone.path ≢ d
      apart (Split i j w) e split = (subst (IsPathFate Least n q d cone.path word) e fate).2
      apart (Closed w) e split = absurd split
      apart (Low k) e split = absurd split
      apart (Dropped w) e split = absurd split
      apart (AtLimit w) e split = absurd split
      apart (Wide w at) e split = absurd split

pub none_left : (n : ℕ) (q : Matrix) (d word : ℕ) (stack : List ShownCone) → stack ≡ [] → IsClearWord n q d word
    → IsWalking n q d (bound_under Least word) stack → IsClosedAnswer Least n q d (bound_under Least word)
none_left n q d word stack e final h = record {
  clear = final.clear;
  is_bound = final.bound;
  none_open = λ p o. by (h.still p o);
}
  where
    by : {p : Path} → IsUnder stack p → ⊥
    by u = nothing_in u.cone (subst (λ (s : List ShownCone). Contains s u.cone) e u.member)
