-- The first low cone of the judgements so far, and what a first walk ends with.
use Rattle.std.specs.Prelude.{◌≡◌, ℕ, zero, suc, ◌<◌, ◌≤◌, ◌-◌, min, ℤ, pos, negsuc, ◌⊎◌, Option, Some, None, List, [], ◌∷◌, length}
use Rattle.std.specs.List.{Contains}
use Rattle.std.specs.Bool.{MatchBool}
use Rattle.std.specs.Cmp.{ranks}
use Rattle.std.specs.Ordering.{MatchOrdering, is_lt, nat_cmp, ordering_then}
use Rattle.std.specs.declared.cmp.Ordering.{Ordering}
use Rattle.std.specs.declared.cmp.Ordering.TheVariants.{Less, Equal, Greater}
use Rattle.std.proofs.Common.{arith, sym, ◌∙◌, ap, refl, inl, inr, subst}
use Rattle.exact_forms.specs.Forms.{IsSymmetric}
use Rattle.commutative_ring.proofs.SmallCases.{below_or_not}
use Rattle.exact_forms.proofs.Lists.{nothing_in}
use Rattle.exact_forms.proofs.Vectors.{contains_cons, contains_here, contains_there}
use Rattle.unimodular_cone.specs.declared.Mode.TheVariants.{Least}
use Rattle.unimodular_cone.specs.Paths.{Path, IsNoLater, IsNoDeeper, place_order, depth_order}
use Rattle.unimodular_cone.specs.Cones.{Matrix, cone_at, unit_vectors, Fits}
use Rattle.unimodular_cone.specs.Tree.{IsFirstLow, IsFirstLowAt}
use Rattle.unimodular_cone.specs.Shown.{ShownCone, IsConeAt}
use Rattle.unimodular_cone.specs.Answer.{BoundFits}
use Rattle.unimodular_cone.proofs.Orders.{place_order_is, no_later_self, no_later_trans}
use Rattle.search_core.specs.declared.Fate.{Fate}
use Rattle.search_core.specs.declared.Fate.TheVariants.{Closed, Split, Low, Dropped, AtLimit, Wide}
use Rattle.search_core.specs.declared.Judged.{Judged}
use Rattle.search_core.specs.Fair.{word_of, code, code_of, start_of, start_word, least_value, IsLowFate, IsFair}
use Rattle.search_core.specs.Judging.{shown_code, shown_least, IsShownFate}
use Rattle.search_core.proofs.PathFates.{IsPathFate}
use Rattle.search_core.proofs.ShownFates.{judged_fate}
use Rattle.search_core.proofs.Fairness.{judged_in_tree, none_low, settles_low}
use Rattle.search_core.proofs.Answers.{some_low, final_bound}
use Rattle.serial_search.specs.declared.values.LowCone.{LowCone}
use Rattle.serial_search.specs.Turns.{IsOnTop, AreStacked}
use Rattle.serial_search.specs.Walks.{ComesFirst, ComesBehind, IsLowNoted, IsFirstLowCone, IsClearWord}
use Rattle.serial_search.specs.Searching.{IsSearchedPlainly}
use Rattle.serial_search.proofs.Stacks.{plain_starts, plain_step, plain_ends, cones_left}

-- ---- the order by depth
no_deeper_self : (p : Path) → IsNoDeeper p p
no_deeper_self p = inr (refl, no_later_self p)

no_deeper_trans : (p r t : Path) → IsNoDeeper p r → IsNoDeeper r t → IsNoDeeper p t
no_deeper_trans p r t (inl a) (inl b) = inl (omega arith)
no_deeper_trans p r t (inl a) (inr (f, k)) = inl (omega arith)
no_deeper_trans p r t (inr (e, h)) (inl b) = inl (omega arith)
no_deeper_trans p r t (inr (e, h)) (inr (f, k)) = inr (e ∙ f, no_later_trans p r t h k)

pub shallower_is : (p r : Path) → MatchBool (is_lt (depth_order p r)) (IsNoDeeper p r) (IsNoDeeper r p)
unfolding depth_order
shallower_is p r = by (nat_cmp (length p) (length r)) (ranks (length p) (length r)) (place_order p r) (place_order_is p r)
  where
    by : (o : Ordering) → MatchOrdering o (length p < length r) (length p ≡ length r) (length r < length p)
        → (w : Ordering) → MatchOrdering w (IsNoLater p r × (¬ IsNoLater r p)) (p ≡ r) (IsNoLater r p × (¬ IsNoLater p r))
        → MatchBool (is_lt (ordering_then o w)) (IsNoDeeper p r) (IsNoDeeper r p)
    by Less l w h = inl l
    by Greater l w h = inl l
    by Equal l Less h = inr (l, h.0)
    by Equal l Equal h = subst (IsNoDeeper r) (sym h) (no_deeper_self r)
    by Equal l Greater h = inr (sym l, h.0)

-- ---- the first low one of some judgements
pub record IsFirstOfLow (judged : List Judged) (low : LowCone) : Type 0 where
  pub j : Judged
  pub member : Contains judged j
  pub path_is : j.path ≡ low.path
  pub fate_is : j.fate ≡ Low low.which
  pub first : (k : Judged) → Contains judged k → IsLowFate k.fate → IsNoDeeper low.path k.path

abbrev pub HasFirstLow : List Judged → Option LowCone → Type 0
HasFirstLow judged None = (k : Judged) → Contains judged k → ¬ IsLowFate k.fate
HasFirstLow judged (Some low) = IsFirstOfLow judged low

-- one more, which is not low, or comes behind
stays_first : (judged : List Judged) (j : Judged) (l : LowCone) → (IsLowFate j.fate → IsNoDeeper l.path j.path) → IsFirstOfLow judged l
    → IsFirstOfLow (j ∷ judged) l
stays_first judged j l comes h = record {
  j = h.j;
  member = contains_there j judged h.j h.member;
  path_is = h.path_is;
  fate_is = h.fate_is;
  first = λ k c low. by k low (contains_cons j judged k c);
}
  where
    by : (k : Judged) → IsLowFate k.fate → ((j ≡ k) ⊎ Contains judged k) → IsNoDeeper l.path k.path
    by k low (inl e) = subst (λ (i : Judged). IsNoDeeper l.path i.path) e (comes (subst (λ (i : Judged). IsLowFate i.fate) (sym e) low))
    by k low (inr d) = h.first k d low

not_noted : (judged : List Judged) (j : Judged) (first : Option LowCone) → (¬ IsLowFate j.fate) → HasFirstLow judged first → HasFirstLow (j ∷ judged) first
not_noted judged j None not_low h = λ k c low. by k low (contains_cons j judged k c)
  where
    by : (k : Judged) → IsLowFate k.fate → ((j ≡ k) ⊎ Contains judged k) → ⊥
    by k low (inl e) = not_low (subst (λ (i : Judged). IsLowFate i.fate) (sym e) low)
    by k low (inr d) = h k d low
not_noted judged j (Some l) not_low h = stays_first judged j l (λ low. absurd (not_low low)) h

behind : (judged : List Judged) (j : Judged) (first : Option LowCone) → HasFirstLow judged first → ComesBehind j.path first → HasFirstLow (j ∷ judged) first
behind judged j None h comes = absurd comes
behind judged j (Some l) h comes = stays_first judged j l (λ low. comes) h

-- one more, which is low and comes first
noted : (judged : List Judged) (j : Judged) (which : ℕ) (first : Option LowCone) → j.fate ≡ Low which → HasFirstLow judged first → ComesFirst j.path first
    → IsFirstOfLow (j ∷ judged) (record { path = j.path; which = which })
noted judged j which first e h comes = record {
  j = j;
  member = contains_here j judged;
  path_is = refl;
  fate_is = e;
  first = λ k c low. by k low (contains_cons j judged k c) first h comes;
}
  where
    by : (k : Judged) → IsLowFate k.fate → ((j ≡ k) ⊎ Contains judged k) → (first : Option LowCone) → HasFirstLow judged first
        → ComesFirst j.path first → IsNoDeeper j.path k.path
    by k low (inl e) first h comes = subst (λ (i : Judged). IsNoDeeper j.path i.path) e (no_deeper_self j.path)
    by k low (inr d) None h comes = absurd (h k d low)
    by k low (inr d) (Some l) h comes = no_deeper_trans j.path l.path k.path comes (h.first k d low)

abbrev judgement : ShownCone → Fate → ℤ → Judged
judgement c f z = record { path = c.path; fate = f; least = z }

more_noted : (judged : List Judged) (c : ShownCone) (f : Fate) (z : ℤ) (first new : Option LowCone) → HasFirstLow judged first → IsLowNoted c f first new
    → HasFirstLow (judgement c f z ∷ judged) new
more_noted judged c (Low k) z first new h (inl (comes, e)) = rw e (noted judged (judgement c (Low k) z) k first refl h comes)
more_noted judged c (Low k) z first new h (inr (comes, e)) = rw e (behind judged (judgement c (Low k) z) first h comes)
more_noted judged c (Closed w) z first new h e = rw e (not_noted judged (judgement c (Closed w) z) first (λ x. x) h)
more_noted judged c (Split a b w) z first new h e = rw e (not_noted judged (judgement c (Split a b w) z) first (λ x. x) h)
more_noted judged c (Dropped w) z first new h e = rw e (not_noted judged (judgement c (Dropped w) z) first (λ x. x) h)
more_noted judged c (AtLimit w) z first new h e = rw e (not_noted judged (judgement c (AtLimit w) z) first (λ x. x) h)
more_noted judged c (Wide w at) z first new h e = rw e (not_noted judged (judgement c (Wide w at) z) first (λ x. x) h)

-- ---- the first walk: the search that keeps every judgement, with a list that is nowhere kept
pub record IsFalling (n : ℕ) (q : Matrix) (d : ℕ) (stack : List ShownCone) (word : ℕ) (first : Option LowCone) : Type 0 where
  pub judged : List Judged
  pub search : IsSearchedPlainly Least n q d stack word judged
  pub low : HasFirstLow judged first

pub falls_from_root : (n : ℕ) (q : Matrix) (d : ℕ) (root : ShownCone) → IsConeAt n q [] root → IsFalling n q d (root ∷ []) (start_word Least n q) None
falls_from_root n q d root at = record { judged = []; search = plain_starts Least n q d root at; low = λ k c. absurd (nothing_in k c) }

-- one turn
pub record FallsOn (n : ℕ) (q : Matrix) (d : ℕ) (stack new : List ShownCone) (word : ℕ) (first : Option LowCone) : Type 0 where
  pub falling : IsFalling n q d new word first
  pub fewer : cones_left d new < cones_left d stack

pub falls_on : (n : ℕ) (q : Matrix) (d : ℕ) (stack front new : List ShownCone) (cone : ShownCone) (word : ℕ) (first next : Option LowCone) (f : Fate) → 1 ≤ n
    → IsFalling n q d stack word first → IsOnTop cone front stack → IsShownFate Least cone d (min word (shown_code Least cone)) f
    → AreStacked cone f front new → IsLowNoted cone f first next → FallsOn n q d stack new (min word (shown_code Least cone)) next
falls_on n q d stack front new cone word first next f some h popped fate stacks note =
    let j : Judged = judgement cone f (shown_least cone) in
    let step = plain_step Least n q d stack front new cone word h.judged j some h.search popped (record { path_is = refl; least_is = refl; fate = fate })
    stacks in
    record {
      falling = record { judged = j ∷ h.judged; search = step.0; low = more_noted h.judged cone f (shown_least cone) first next h.low note };
      fewer = step.1;
    }

-- ---- the end of the first walk
-- a code is a depth, or over 256
code_past : (depth : ℕ) (z : ℤ) → (code_of Least depth z ≡ depth) ⊎ (257 ≤ code_of Least depth z)
code_past depth (negsuc z) = inl refl
code_past depth (pos zero) = inl refl
code_past depth (pos (suc z)) = inr (omega arith)

start_past : (z : ℤ) → 257 ≤ start_of Least z
start_past (negsuc z) = omega arith
start_past (pos zero) = omega arith
start_past (pos (suc z)) = omega arith

module _ (n : ℕ) (q : Matrix) (d : ℕ) (judged : List Judged) (final : ℕ) (s : IsSymmetric n q) (fair : IsFair Least n q d judged final)
    (small : d ≤ 200) (some : 0 < n) where
  -- the first low judgement is of the first low cone
  low_end : (low : LowCone) → IsFirstOfLow judged low → IsFirstLowCone n q d low
  low_end low h = by fate.1
    where
      j : Judged
      j = h.j

      fate : IsPathFate Least n q d j.path (length j.path) (Low low.which)
      fate = subst (λ (f : Fate). IsPathFate Least n q d j.path (word_of j.path f) f) h.fate_is
          (judged_fate Least n q d final j (fair.judgements j h.member))

      above : final ≤ length j.path
      above = subst (λ (f : Fate). final ≤ word_of j.path f) h.fate_is (fair.judgements j h.member).above_final

      short : length j.path ≤ d
      short = (judged_in_tree Least n q d judged final s fair j h.member).short

      first : (k : Judged) → Contains judged k → IsLowFate k.fate → IsNoDeeper j.path k.path
      first k c l = subst (λ (p : Path). IsNoDeeper p k.path) (sym h.path_is) (h.first k c l)

      deep : length j.path ≡ final
      deep = at_word (some_low Least n q d judged final s fair small some (let a = above in let b = short in omega arith))
        where
          order : (p r : Path) → IsNoDeeper p r → length p ≤ length r
          order p r (inl l) = omega arith
          order p r (inr (e, l)) = omega arith

          at_word : ((k : Judged) × Contains judged k × IsLowFate k.fate × (length k.path ≡ final)) → length j.path ≡ final
          at_word (k, c, l, e) = let a = above in let b : length j.path ≤ length k.path = order j.path k.path (first k c l) in omega arith

      same_depth : (k : Judged) → Contains judged k → IsLowFate k.fate → length k.path ≡ final → IsNoLater j.path k.path
      same_depth k c l e = at_depth (first k c l)
        where
          at_depth : IsNoDeeper j.path k.path → IsNoLater j.path k.path
          at_depth (inl lt) = absurd (let e' : length j.path ≡ final = deep in omega arith)
          at_depth (inr (e', le)) = le

      by : ((k : ℕ) × (low.which ≡ suc k) × IsFirstLowAt Least n q (cone_at n q j.path) k) → IsFirstLowCone n q d low
      by (k, e, at) =
          let r = settles_low Least n q d judged final s fair j h.member k (h.fate_is ∙ ap Low e) deep same_depth in
          let same : k ≡ low.which - 1 = omega arith in
          record {
            path = subst (IsFirstLow Least n q d) h.path_is r.0;
            some = omega arith;
            which = subst (λ (p : Path). IsFirstLowAt Least n q (cone_at n q p) (low.which - 1)) h.path_is
                (subst (IsFirstLowAt Least n q (cone_at n q j.path)) same r.1);
          }

  -- with no low judgement the word is the final bound's
  word_end : BoundFits Least n q → Fits n q unit_vectors → HasFirstLow judged None → IsClearWord n q d final
  word_end narrow root_fits none = record {
    clear = record { bound_fits = narrow; root_fits = root_fits; none_low = none_low Least n q d judged final s fair small large };
    past = past fair.final_word.attained;
    bound = final_bound Least n q d judged final s fair small large some narrow;
  }
    where
      by : ((final < 256) ⊎ (256 ≤ final)) → 256 ≤ final
      by (inl lt) = absurd (let r = some_low Least n q d judged final s fair small some lt in none r.0 r.1 r.2)
      by (inr le) = le

      large : 256 ≤ final
      large = by (below_or_not final 256)

      past : ((final ≡ start_word Least n q) ⊎ ((j : Judged) × Contains judged j × (final ≡ code Least n q j.path))) → 257 ≤ final
      past (inl e) = let h : 257 ≤ start_word Least n q = start_past _ in omega arith
      past (inr (j, c, e)) = of_code (code_past (length j.path) (least_value n q (cone_at n q j.path)))
        where
          of_code : ((code Least n q j.path ≡ length j.path) ⊎ (257 ≤ code Least n q j.path)) → 257 ≤ final
          of_code (inl l) = absurd (let h = large in let t : length j.path ≤ d = (judged_in_tree Least n q d judged final s fair j c).short in omega arith)
          of_code (inr l) = omega arith

pub falls_to_low : (n : ℕ) (q : Matrix) (d : ℕ) (stack : List ShownCone) (word : ℕ) (low : LowCone) → IsSymmetric n q → d ≤ 200 → 0 < n → stack ≡ []
    → IsFalling n q d stack word (Some low) → IsFirstLowCone n q d low
falls_to_low n q d stack word low s small some e h =
    low_end n q d h.judged word s (plain_ends Least n q d stack word h.judged e h.search) small some low h.low

pub falls_to_word : (n : ℕ) (q : Matrix) (d : ℕ) (stack : List ShownCone) (word : ℕ) → IsSymmetric n q → d ≤ 200 → 0 < n → BoundFits Least n q
    → Fits n q unit_vectors → stack ≡ [] → IsFalling n q d stack word None → IsClearWord n q d word
falls_to_word n q d stack word s small some narrow root_fits e h =
    word_end n q d h.judged word s (plain_ends Least n q d stack word h.judged e h.search) small some narrow root_fits h.low
