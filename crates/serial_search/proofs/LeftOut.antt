-- A child that is left out of a split: it is closed at the word's bound, so it can be judged at once, under the same word.
--
-- | values_of_closed | the values of a closed cone are at least the bound |
-- | left_out | a closed cone of the stack is judged, and gone |
-- | none_new | a new generator of the top whose value is over the bound, or that is noted, is none that is new |
-- | fewer_without, deep_without | fewer cones are left without one of a list, and they are as deep |
use Rattle.std.specs.Prelude.{◌≡◌, ℕ, zero, suc, ◌<◌, ◌≤◌, ◌-◌, ◌^◌, min, ℤ, pos, negsuc, ◌≤ℤ◌, ◌<ℤ◌, ◌-ℤ◌, ◌⊎◌}
use Rattle.std.specs.Prelude.{Bool, true, false, cond, eqb, List, [], ◌∷◌, ◌++◌, length, map}
use Rattle.std.specs.List.{Contains}
use Rattle.std.proofs.Common.{arith, sym, refl, inl, inr, subst}
use Rattle.std.proofs.lemmas.Int.{ints}
use Rattle.std.proofs.lemmas.List.{map-append}
use Rattle.std.proofs.lemmas.List.Elements.{Contains-append_left, Contains-append_right, Contains-append_cases}
use Rattle.commutative_ring.proofs.SmallCases.{at_most_trans_ℤ}
use Rattle.exact_forms.specs.Slacks.{shortfall, slack}
use Rattle.exact_forms.specs.Sums.{sum_to}
use Rattle.exact_forms.proofs.Sums.{sum_to_nonneg}
use Rattle.exact_forms.proofs.Slacks.{shortfall_nonneg, slack_is_diagonal_less}
use Rattle.exact_forms.proofs.Lists.{top_in}
use Rattle.exact_forms.proofs.Vectors.{contains_cons, contains_here, contains_there}
use Rattle.unimodular_cone.specs.declared.Mode.{Mode}
use Rattle.unimodular_cone.specs.declared.Mode.TheVariants.{Sign, Least}
use Rattle.unimodular_cone.specs.Paths.{Path}
use Rattle.unimodular_cone.specs.Cones.{Matrix, value, cone_at}
use Rattle.unimodular_cone.specs.Tree.{IsLowValue}
use Rattle.unimodular_cone.specs.Shown.{ShownCone, shown_gram, IsConeAt}
use Rattle.unimodular_cone.proofs.ShownAt.{value_at}
use Rattle.search_core.specs.declared.Fate.TheVariants.{Closed}
use Rattle.search_core.specs.declared.Judged.{Judged}
use Rattle.search_core.specs.declared.NewGenerators.TheVariants.{One, NoOne}
use Rattle.search_core.specs.Fair.{code, code_of, start_word, bound_under, least_value, IsFate, IsLowFate, IsEndFate, IsSameGenerator}
use Rattle.search_core.specs.Attaining.{IsPadded}
use Rattle.search_core.specs.Judging.{IsLowShown, IsClosedShown}
use Rattle.search_core.specs.Machine.{IsKept, alone, times}
use Rattle.search_core.specs.Noting.{HasKey}
use Rattle.search_core.proofs.LeastValues.{least_value_attained}
use Rattle.search_core.proofs.SameGenerators.{same_value}
use Rattle.search_core.proofs.Times.{times-append, times_cons}
use Rattle.search_core.proofs.Serial.{alone_turn, reordered, same_judged}
use Rattle.serial_search.specs.Turns.{IsOnTop}
use Rattle.serial_search.specs.Searching.{path_of, IsCovered, IsNewOnTop, IsOfSearched, IsSearching}
use Rattle.serial_search.proofs.Tops.{AreDeep, same_top}
use Rattle.serial_search.proofs.Stacks.{cones_left, left-append, still_searched, has_key_same}

-- ---- no slack is over the value on the diagonal
slack_below : (n : ℕ) (g : Matrix) (i : ℕ) → slack n g i ≤ℤ g i i
slack_below n g i =
    let is : slack n g i ≡ g i i -ℤ sum_to n (λ j. cond (eqb j i) (pos 0) (shortfall (g i j))) = slack_is_diagonal_less n g i in
    let nonneg : pos 0 ≤ℤ sum_to n (λ j. cond (eqb j i) (pos 0) (shortfall (g i j))) = sum_to_nonneg n _ (λ j l. at (eqb j i) (g i j)) in
    omega (arith, ints)
  where
    at : (same : Bool) (z : ℤ) → pos 0 ≤ℤ cond same (pos 0) (shortfall z)
    at true z = omega (arith, ints)
    at false z = shortfall_nonneg z

-- ---- a value that is at least the bound is not low, and its code is at least the word
not_low_over : (m : Mode) (word : ℕ) (z : ℤ) → bound_under m word ≤ℤ z → ¬ IsLowValue m z
not_low_over Sign word z over low = omega (arith, ints)
not_low_over Least word z over low = omega (arith, ints)

word_under : (m : Mode) (n : ℕ) (q : Matrix) (word depth : ℕ) (z : ℤ) → word ≤ start_word m n q → word ≤ 2 ^ 64 - 1 → bound_under m word ≤ℤ z
    → word ≤ code_of m depth z
word_under Sign n q word depth (pos z) start fits over = start
word_under Sign n q word depth (negsuc z) start fits over = absurd (omega (arith, ints))
word_under Least n q word depth (pos zero) start fits over = absurd (omega (arith, ints))
word_under Least n q word depth (pos (suc z)) start fits over = omega (arith, ints)
word_under Least n q word depth (negsuc z) start fits over = absurd (omega (arith, ints))

pub values_of_closed : (m : Mode) (n : ℕ) (q : Matrix) (c : ShownCone) (word : ℕ) → IsConeAt n q c.path c → IsClosedShown m c word
    → (k : ℕ) → k < n → bound_under m word ≤ℤ value n q (cone_at n q c.path) k
values_of_closed m n q c word at closed k l =
    let least : bound_under m word ≤ℤ slack c.size (shown_gram c) k = closed k (rw at.cone.size l) in
    let below : slack c.size (shown_gram c) k ≤ℤ shown_gram c k k = slack_below c.size (shown_gram c) k in
    subst (λ (z : ℤ). bound_under m word ≤ℤ z) (value_at n q c.path c at k l) (at_most_trans_ℤ least below)

-- ---- a list without one of its cones
pub fewer_without : (d : ℕ) (front back : List ShownCone) (c : ShownCone) → cones_left d (front ++ back) ≤ cones_left d (front ++ c ∷ back)
fewer_without d front back c = omega (arith, left-append d front back, left-append d front (c ∷ back))

deep_less : (k : ℕ) (cones : List ShownCone) → AreDeep (suc k) cones → AreDeep k cones
deep_less k [] deep = tt
deep_less k (c ∷ cones) (l, deep) = (omega (arith, l), deep_less (suc k) cones deep)

pub deep_without : (k : ℕ) (front back : List ShownCone) (c : ShownCone) → AreDeep k (front ++ c ∷ back) → AreDeep k (front ++ back)
deep_without k [] back c (l, deep) = deep_less k back deep
deep_without k (x ∷ front) back c (l, deep) = (l, deep_without (suc k) front back c deep)

still_there : (front back : List ShownCone) (c x : ShownCone) → Contains (front ++ back) x → Contains (front ++ c ∷ back) x
still_there front back c x there = by (Contains-append_cases front back x there)
  where
    by : (Contains front x ⊎ Contains back x) → Contains (front ++ c ∷ back) x
    by (inl k) = Contains-append_left front (c ∷ back) x k
    by (inr k) = Contains-append_right front (c ∷ back) x (contains_there c back x k)

stands : (front back : List ShownCone) (c : ShownCone) → Contains (front ++ c ∷ back) c
stands front back c = Contains-append_right front (c ∷ back) c (contains_here c back)

still_or_this : (front back : List ShownCone) (c x : ShownCone) → Contains (front ++ c ∷ back) x → Contains (front ++ back) x ⊎ (c ≡ x)
still_or_this front back c x there = by (Contains-append_cases front (c ∷ back) x there)
  where
    behind : ((c ≡ x) ⊎ Contains back x) → Contains (front ++ back) x ⊎ (c ≡ x)
    behind (inl e) = inr e
    behind (inr k) = inl (Contains-append_right front back x k)

    by : (Contains front x ⊎ Contains (c ∷ back) x) → Contains (front ++ back) x ⊎ (c ≡ x)
    by (inl k) = inl (Contains-append_left front back x k)
    by (inr k) = behind (contains_cons c back x k)

-- ---- a closed cone of the stack is judged under the same word
module _ (m : Mode) (n : ℕ) (q : Matrix) (d : ℕ) (front back : List ShownCone) (c : ShownCone) (word : ℕ) (kept : List Judged) (keys : List (List ℕ))
    (some : 1 ≤ n) (h : IsSearching m n q d (front ++ c ∷ back) word NoOne kept keys)
    (fits : word ≤ 2 ^ 64 - 1) (short : word < 256 → length c.path ≤ word) (closed : IsClosedShown m c word) where
  at : IsConeAt n q c.path c
  at = (h.plain.cones c (stands front back c)).0

  values : (k : ℕ) → k < n → bound_under m word ≤ℤ value n q (cone_at n q c.path) k
  values = values_of_closed m n q c word at closed

  not_low : ¬ IsLowShown m c
  not_low (k, l, low) = let r : k < n = rw (sym at.cone.size) l in
      not_low_over m word _ (values k r) (subst (IsLowValue m) (value_at n q c.path c at k r) low)

  least_over : bound_under m word ≤ℤ least_value n q (cone_at n q c.path)
  least_over = let r = least_value_attained n q (cone_at n q c.path) some in subst (λ (z : ℤ). bound_under m word ≤ℤ z) r.2 (values r.0 r.1)

  below_code : word ≤ code m n q c.path
  below_code = word_under m n q word (length c.path) _ h.plain.state.below_start fits least_over

  same_word : min word (code m n q c.path) ≡ word
  same_word = let b : word ≤ code m n q c.path = below_code in omega arith

  abbrev j : Judged
  j = record { path = c.path; fate = Closed word; least = least_value n q (cone_at n q c.path) }

  first : IsKept m n q d (alone (c.path ∷ map path_of (front ++ back)) word h.all)
  first = reordered m n q d (map path_of (front ++ c ∷ back)) (c.path ∷ map path_of (front ++ back)) word h.all h.all same (same_judged h.all) h.plain.state
    where
      same : (x : Path) → times x (map path_of (front ++ c ∷ back)) ≡ times x (c.path ∷ map path_of (front ++ back))
      same x = rw (map-append path_of front (c ∷ back), map-append path_of front back) (omega (
        arith,
        times-append x (map path_of front) (c.path ∷ map path_of back),
        times-append x (map path_of front) (map path_of back),
        times_cons x c.path (map path_of back),
        times_cons x c.path (map path_of front ++ map path_of back),
      ))

  fate : IsFate m n q d c.path (min word (code m n q c.path)) (Closed word)
  fate = subst (λ (w : ℕ). IsFate m n q d c.path w (Closed word)) (sym same_word) (c, at, (refl, short, not_low, closed))

  turned : IsKept m n q d (alone (map path_of (front ++ back)) word (j ∷ h.all))
  turned = subst (λ (w : ℕ). IsKept m n q d (alone (map path_of (front ++ back)) w (j ∷ h.all))) same_word
      (alone_turn m n q d c.path (map path_of (front ++ back)) word h.all (Closed word) first fate)

  covered : (x : ShownCone) → Contains (front ++ c ∷ back) x → (k : ℕ) → k < n → IsCovered n q word keys x.path k
  covered x there k l = by (h.stack_is.waiting x there k l)
    where
      by : (IsCovered n q word keys x.path k ⊎ IsNewOnTop n q (front ++ c ∷ back) NoOne x.path k) → IsCovered n q word keys x.path k
      by (inl is) = is
      by (inr t) = absurd t.is_new

  low : (p : Judged) → ((j ≡ p) ⊎ Contains h.all p) → IsLowFate p.fate → Contains kept p
  low p (inl e) is = absurd (subst (λ (r : Judged). IsLowFate r.fate) (sym e) is)
  low p (inr there) is = h.has.low p there is

  ends : (p : Judged) → ((j ≡ p) ⊎ Contains h.all p) → IsEndFate p.fate → Contains kept p
  ends p (inl e) is = absurd (subst (λ (r : Judged). IsEndFate r.fate) (sym e) is)
  ends p (inr there) is = h.has.ends p there is

  all_covered : (p : Judged) (k : ℕ) → ((j ≡ p) ⊎ Contains h.all p) → k < n → IsCovered n q word keys p.path k
  all_covered p k (inl e) l = subst (λ (r : Judged). IsCovered n q word keys r.path k) e (covered c (stands front back c) k l)
  all_covered p k (inr there) l = h.noted.covered p k there l

  pub left_out : IsSearching m n q d (front ++ back) word NoOne kept keys
  left_out = record {
    all = j ∷ h.all;
    plain = record { state = turned; cones = λ x there. h.plain.cones x (still_there front back c x there) };
    has = record {
      within = λ p there. contains_there j h.all p (h.has.within p there);
      low = λ p there. low p (contains_cons j h.all p there);
      ends = λ p there. ends p (contains_cons j h.all p there);
    };
    noted = record {
      each = λ over x there.
          still_searched n q word h.all (front ++ c ∷ back) (front ++ back) c j refl (still_or_this front back c) x (h.noted.each over x there);
      covered = λ p k there. all_covered p k (contains_cons j h.all p there);
    };
    stack_is = record { waiting = λ x there k l. inl (covered x (still_there front back c x there) k l); named = tt };
  }

-- ---- a new generator of the top whose value is over the bound needs no note, and one that is noted needs none again
module _ (m : Mode) (n : ℕ) (q : Matrix) (d : ℕ) (stack rest : List ShownCone) (top : ShownCone) (word i : ℕ) (kept : List Judged) (keys keys' : List (List ℕ))
    (h : IsSearching m n q d stack word (One i) kept keys) (on_top : IsOnTop top rest stack)
    (seen : 256 < word → (l : ℕ) → i ≡ suc l → l < n → (bound_under Least word <ℤ value n q (cone_at n q top.path) l) ⊎ HasKey n q keys' top.path l)
    (more : (x : List ℕ) → Contains keys x → Contains keys' x)
    (only : 256 < word → (x : List ℕ) → Contains keys' x → Contains keys x
    ⊎ ((l : ℕ) × (l < n) × IsPadded n x (cone_at n q top.path l) × (value n q (cone_at n q top.path) l ≡ bound_under Least word))) where
  -- the keys that were noted are so still
  still_covered : (path : Path) (k : ℕ) → IsCovered n q word keys path k → IsCovered n q word keys' path k
  still_covered path k is high below = let has = is high below in (has.0, more has.0 has.1, has.2)

  now_covered : (x : ShownCone) (k : ℕ) → (IsCovered n q word keys x.path k ⊎ IsNewOnTop n q stack (One i) x.path k) → IsCovered n q word keys' x.path k
  now_covered x k (inl is) high below = still_covered x.path k is high below
  now_covered x k (inr t) high below = by (seen high t.l t.is_new same.range)
    where
      same : IsSameGenerator n q x.path k top.path t.l
      same = subst (λ (c : ShownCone). IsSameGenerator n q x.path k c.path t.l) (same_top stack t.rest rest t.top top t.on_top on_top) t.same

      by : ((bound_under Least word <ℤ value n q (cone_at n q top.path) t.l) ⊎ HasKey n q keys' top.path t.l) → HasKey n q keys' x.path k
      by (inl past) = absurd (omega (arith, ints, below, same_value n q x.path top.path k t.l same))
      by (inr has) = has_key_same n q keys' x.path top.path k t.l same has

  each : 256 < word → (x : List ℕ) → Contains keys' x → IsOfSearched n q word h.all stack x
  each high x there = by (only high x there)
    where
      by : (Contains keys x ⊎ ((l : ℕ) × (l < n) × IsPadded n x (cone_at n q top.path l) × (value n q (cone_at n q top.path) l ≡ bound_under Least word)))
          → IsOfSearched n q word h.all stack x
      by (inl old) = h.noted.each high x old
      by (inr (l, range, padded, attains)) = (top.path, l, inr (top, top_in stack rest top on_top, refl), range, padded, attains)

  pub none_new : IsSearching m n q d stack word NoOne kept keys'
  none_new = record {
    all = h.all;
    plain = h.plain;
    has = h.has;
    noted = record { each = each; covered = λ p k there l. still_covered p.path k (h.noted.covered p k there l) };
    stack_is = record { waiting = λ x there k l. inl (now_covered x k (h.stack_is.waiting x there k l)); named = tt };
  }
