-- A search with a stack is the machine with one hand.
--
-- | plain_starts, plain_step, plain_ends | the search that keeps every judgement |
-- | plain_within | what such a search knows of its top |
-- | search_starts, search_step, search_ends | the search that keeps what is needed, and notes what attains the bound |
-- | top_within, top_named, top_others | what such a search knows of its top |
-- | still_searched | the key of a cone that is judged or waits is so still, once a cone is judged |
use Rattle.std.specs.Prelude.{◌≡◌, ◌≢◌, ℕ, zero, suc, ◌<◌, ◌≤◌, ◌+◌, ◌-◌, ◌*◌, ◌^◌, min, ℤ, pos, ◌≤ℤ◌, ◌⊎◌, Bool, true, false, Some}
use Rattle.std.specs.Prelude.{List, [], ◌∷◌, ◌++◌, length, map}
use Rattle.std.specs.List.{Contains}
use Rattle.std.proofs.Common.{arith, sym, ◌∙◌, ap, ap₂, refl, inl, inr, subst, length-append, append_assoc}
use Rattle.std.proofs.Math.Nat.{pow-suc, one-le-pow}
use Rattle.std.proofs.lemmas.Int.{ints}
use Rattle.std.proofs.lemmas.List.{map-append, append-nil}
use Rattle.std.proofs.lemmas.List.Elements.{Contains-push, Contains-append_left, Contains-append_cases, Contains-push_cases}
use Rattle.commutative_ring.proofs.SmallCases.{below_unless_same, same_or_not}
use Rattle.unimodular_cone.specs.declared.Mode.{Mode}
use Rattle.unimodular_cone.specs.declared.Mode.TheVariants.{Sign, Least}
use Rattle.unimodular_cone.specs.Paths.{Path}
use Rattle.unimodular_cone.specs.Cones.{Matrix, gram, value, cone_at, pair_of, IsPair}
use Rattle.unimodular_cone.specs.Shown.{ShownCone, shown_gram, IsChild, IsConeAt}
use Rattle.unimodular_cone.proofs.ShownAt.{child_at_path, pair_at, value_at}
use Rattle.exact_forms.proofs.Vectors.{contains_cons, contains_here, contains_there}
use Rattle.exact_forms.proofs.Lists.{top_in, nothing_in}
use Rattle.search_core.specs.declared.Fate.{Fate}
use Rattle.search_core.specs.declared.Fate.TheVariants.{Closed, Split, Low, Dropped, AtLimit, Wide}
use Rattle.search_core.specs.declared.Judged.{Judged}
use Rattle.search_core.specs.Fair.{code, start_word, bound_under, IsSplit, IsLowFate, IsEndFate, IsFate, IsFair, IsSameGenerator}
use Rattle.search_core.specs.declared.NewGenerators.{NewGenerators}
use Rattle.search_core.specs.declared.NewGenerators.TheVariants.{Each, One, NoOne}
use Rattle.search_core.specs.Attaining.{IsPadded, IsKeyOf}
use Rattle.search_core.specs.Kept.{IsUnneededFate, IsConeKept}
use Rattle.search_core.specs.Noting.{IsNew, NamesNew, new_after, AreRemembered, AddsToNoted, HasKey, IsFairNoted}
use Rattle.search_core.specs.Lowering.{IsNotUnder, AreOthersOver, HasOthersOver}
use Rattle.search_core.specs.Judging.{shown_code, shown_least, IsShownFate, IsJudgementOf}
use Rattle.search_core.specs.Machine.{IsKept, alone}
use Rattle.search_core.proofs.ShownFates.{shown_code_at, shown_least_at, fate_at, path_fate}
use Rattle.search_core.proofs.PathFates.{IsPathFate}
use Rattle.search_core.proofs.Laws.{fate_unique}
use Rattle.search_core.proofs.Deciding.{code_not_under}
use Rattle.search_core.proofs.Keys.{padded_at, padded_same, same_key}
use Rattle.search_core.proofs.SameGenerators.{same_itself, same_value, first_other, second_other, second_mediant}
use Rattle.search_core.proofs.Serial.{alone_start, alone_end, stacked, stack_turn}
use Rattle.serial_search.specs.Turns.{IsOnTop, AreChildrenOn, AreStacked}
use Rattle.serial_search.specs.Searching.{path_of, IsSearchedPlainly, IsCovered, IsNewOnTop, IsSearched, IsOfSearched, HasNoted, IsStack, IsSearching}
use Rattle.serial_search.proofs.Tops.{same_top}

-- the most cones that can still come
abbrev pub still : ℕ → ShownCone → ℕ
still d c = 2 ^ (d + 1 - length c.path) - 1

abbrev pub cones_left : ℕ → List ShownCone → ℕ
cones_left d [] = 0
cones_left d (c ∷ stack) = still d c + cones_left d stack

pub left-append : (d : ℕ) (a b : List ShownCone) → cones_left d (a ++ b) ≡ cones_left d a + cones_left d b
left-append d [] b = omega arith
left-append d (c ∷ a) b = let r : cones_left d (a ++ b) ≡ cones_left d a + cones_left d b = left-append d a b in omega arith

double : (a : ℕ) → 2 ^ suc a ≡ 2 ^ a + 2 ^ a
double a = let e : 2 ^ suc a ≡ 2 ^ a * 2 = pow-suc 2 a in omega arith

some_power : (a : ℕ) → 1 ≤ 2 ^ a
some_power a = one-le-pow a 2 (omega arith)

some_still : (a : ℕ) → 1 ≤ a → 1 ≤ 2 ^ a - 1
some_still zero l = absurd (omega arith)
some_still (suc a) l = let e : 2 ^ suc a ≡ 2 ^ a + 2 ^ a = double a in let o : 1 ≤ 2 ^ a = some_power a in omega arith

two_below : (d l s f : ℕ) → l ≤ d → l ≢ d → s ≡ l + 1 → f ≡ l + 1 → (2 ^ (d + 1 - s) - 1) + (2 ^ (d + 1 - f) - 1) < 2 ^ (d + 1 - l) - 1
two_below d l s f le ne es ef = by (d - l) (omega arith) (omega arith) (omega arith)
  where
    by : (x : ℕ) → d + 1 - s ≡ x → d + 1 - f ≡ x → d + 1 - l ≡ suc x → (2 ^ (d + 1 - s) - 1) + (2 ^ (d + 1 - f) - 1) < 2 ^ (d + 1 - l) - 1
    by x a b c = rw (a, b, c) (let e : 2 ^ suc x ≡ 2 ^ x + 2 ^ x = double x in let o : 1 ≤ 2 ^ x = some_power x in omega arith)

-- ---- a turn leaves fewer
module _ (d : ℕ) (stack front new : List ShownCone) (cone : ShownCone) (within : length cone.path ≤ d) (popped : IsOnTop cone front stack) where
  pub fewer_cones : (f : Fate) → (IsSplit f → length cone.path ≢ d) → AreStacked cone f front new → cones_left d new < cones_left d stack
  fewer_cones f short stacks = rw popped (by f short stacks)
    where
      here : 1 ≤ still d cone
      here = let l : length cone.path ≤ d = within in some_still (d + 1 - length cone.path) (omega arith)

      whole : cones_left d (front ++ cone ∷ []) ≡ cones_left d front + still d cone
      whole = left-append d front (cone ∷ []) ∙ omega arith

      gone : new ≡ front → cones_left d new < cones_left d (front ++ cone ∷ [])
      gone e = let w : cones_left d (front ++ cone ∷ []) ≡ cones_left d front + still d cone = whole in let o : 1 ≤ still d cone = here in rw e (omega arith)

      by : (f : Fate) → (IsSplit f → length cone.path ≢ d) → AreStacked cone f front new → cones_left d new < cones_left d (front ++ cone ∷ [])
      by (Split a b w) short s =
          let le : length cone.path ≤ d = within in
          let w : cones_left d (front ++ cone ∷ []) ≡ cones_left d front + still d cone = whole in
          let t : still d s.second + still d s.first < still d cone = two_below d (length cone.path) (length s.second.path) (length s.first.path) le (short tt)
          (ap length s.is_second.path_is ∙ length-append cone.path (true ∷ [])) (ap length s.is_first.path_is ∙ length-append cone.path (false ∷ [])) in
          let o : cones_left d (front ++ s.second ∷ s.first ∷ []) ≡ cones_left d front + (still d s.second + (still d s.first + 0)) =
          left-append d front (s.second ∷ s.first ∷ []) in
          rw s.stack (omega arith)
      by (Closed w) short s = gone s
      by (Low k) short s = gone s
      by (Dropped w) short s = gone s
      by (AtLimit w) short s = gone s
      by (Wide w a) short s = gone s

pub fewer_gone : (d : ℕ) (stack rest new : List ShownCone) (cone : ShownCone) → length cone.path ≤ d → IsOnTop cone rest stack → new ≡ rest
    → cones_left d new < cones_left d stack
fewer_gone d stack rest new cone within popped gone = fewer_cones d stack rest new cone within popped (Dropped 0) (λ split. absurd split) gone

pub fewer_above : (d : ℕ) (below new stack : List ShownCone) → cones_left d (below ++ new) < cones_left d (below ++ stack)
    → cones_left d new < cones_left d stack
fewer_above d below new stack fewer = omega (arith, fewer, left-append d below new, left-append d below stack)

-- ---- the cones of a new stack
in_front : (stack front : List ShownCone) (cone : ShownCone) → IsOnTop cone front stack → (c : ShownCone) → Contains front c → Contains stack c
in_front stack front cone popped c there = subst (λ (s : List ShownCone). Contains s c) (sym popped) (Contains-append_left front (cone ∷ []) c there)

-- the cones below the top stay
stays_below : (cone : ShownCone) (f : Fate) (front new : List ShownCone) → AreStacked cone f front new → (c : ShownCone) → Contains front c → Contains new c
stays_below cone (Split a b w) front new s c there =
    subst (λ (x : List ShownCone). Contains x c) (sym s.stack) (Contains-append_left front (s.second ∷ s.first ∷ []) c there)
stays_below cone (Closed w) front new s c there = subst (λ (x : List ShownCone). Contains x c) (sym s) there
stays_below cone (Low k) front new s c there = subst (λ (x : List ShownCone). Contains x c) (sym s) there
stays_below cone (Dropped w) front new s c there = subst (λ (x : List ShownCone). Contains x c) (sym s) there
stays_below cone (AtLimit w) front new s c there = subst (λ (x : List ShownCone). Contains x c) (sym s) there
stays_below cone (Wide w a) front new s c there = subst (λ (x : List ShownCone). Contains x c) (sym s) there

each_new : (cone : ShownCone) (i j : ℕ) (front new : List ShownCone) (s : AreChildrenOn cone i j front new) (P : ShownCone → Type 0)
    → ((c : ShownCone) → Contains front c → P c) → P s.second → P s.first → (c : ShownCone) → Contains new c → P c
each_new cone i j front new s P fronts second first c there =
    by (Contains-append_cases front (s.second ∷ s.first ∷ []) c (subst (λ (x : List ShownCone). Contains x c) s.stack there))
  where
    of_one : ((s.first ≡ c) ⊎ Contains [] c) → P c
    of_one (inl e) = subst P e first
    of_one (inr k) = absurd (nothing_in c k)

    of_two : ((s.second ≡ c) ⊎ Contains (s.first ∷ []) c) → P c
    of_two (inl e) = subst P e second
    of_two (inr k) = of_one (contains_cons s.first [] c k)

    by : (Contains front c ⊎ Contains (s.second ∷ s.first ∷ []) c) → P c
    by (inl k) = fronts c k
    by (inr k) = of_two (contains_cons s.second (s.first ∷ []) c k)

-- ---- what stands of a search that has judged these cones
pub plain_starts : (m : Mode) (n : ℕ) (q : Matrix) (d : ℕ) (root : ShownCone) → IsConeAt n q [] root
    → IsSearchedPlainly m n q d (root ∷ []) (start_word m n q) []
plain_starts m n q d root at = record {
  state = subst (λ (p : Path). IsKept m n q d (alone (p ∷ []) (start_word m n q) [])) (sym at.path_is) (alone_start m n q d);
  cones = λ c h. by c (contains_cons root [] c h);
}
  where
    by : (c : ShownCone) → ((root ≡ c) ⊎ Contains [] c) → IsConeAt n q c.path c × (length c.path ≤ d)
    by c (inl e) = subst (λ (r : ShownCone). IsConeAt n q r.path r × (length r.path ≤ d)) e
        ((subst (λ (p : Path). IsConeAt n q p root) (sym at.path_is) at), (let l : length root.path ≡ 0 = ap length at.path_is in omega arith))
    by c (inr h) = absurd (nothing_in c h)

pub plain_ends : (m : Mode) (n : ℕ) (q : Matrix) (d : ℕ) (stack : List ShownCone) (word : ℕ) (judged : List Judged) → stack ≡ []
    → IsSearchedPlainly m n q d stack word judged → IsFair m n q d judged word
plain_ends m n q d stack word judged e h =
    alone_end m n q d word judged (subst (λ (s : List ShownCone). IsKept m n q d (alone (map path_of s) word judged)) e h.state)

pub plain_within : {m : Mode} {n : ℕ} {q : Matrix} {d : ℕ} {stack : List ShownCone} {word : ℕ} {judged : List Judged}
    → IsSearchedPlainly m n q d stack word judged → (rest : List ShownCone) (cone : ShownCone) → IsOnTop cone rest stack → length cone.path ≤ d
plain_within {m} {n} {q} {d} {stack} {word} {judged} h rest cone top = (h.cones cone (top_in stack rest cone top)).1

-- one turn
module _ (m : Mode) (n : ℕ) (q : Matrix) (d : ℕ) (stack front new : List ShownCone) (cone : ShownCone) (word : ℕ) (judged : List Judged) (j : Judged)
    (some : 1 ≤ n) (h : IsSearchedPlainly m n q d stack word judged)
    (popped : IsOnTop cone front stack) (is : IsJudgementOf m cone d (min word (shown_code m cone)) j) (stacks : AreStacked cone j.fate front new) where
  on_top : Contains stack cone
  on_top = top_in stack front cone popped

  at : IsConeAt n q cone.path cone
  at = (h.cones cone on_top).0

  by_path : min word (shown_code m cone) ≡ min word (code m n q cone.path)
  by_path = ap (min word) (shown_code_at m n q cone.path cone some at)

  fate : IsFate m n q d cone.path (min word (code m n q cone.path)) j.fate
  fate = subst (λ (w : ℕ). IsFate m n q d cone.path w j.fate) by_path (fate_at m n q d (min word (shown_code m cone)) cone.path cone j.fate at is.fate)

  turned : IsKept m n q d (alone (map path_of front ++ stacked cone.path j.fate) (min word (shown_code m cone)) (j ∷ judged))
  turned = subst (λ (w : ℕ). IsKept m n q d (alone (map path_of front ++ stacked cone.path j.fate) w (j ∷ judged))) (sym by_path)
      (stack_turn m n q d (map path_of front) cone.path word judged j
      (subst (λ (s : List Path). IsKept m n q d (alone s word judged)) (ap (map path_of) popped ∙ map-append path_of front (cone ∷ [])) h.state)
      is.path_is (is.least_is ∙ shown_least_at n q cone.path cone some at) fate)

  paths_new : (f : Fate) → AreStacked cone f front new → map path_of front ++ stacked cone.path f ≡ map path_of new
  paths_new (Split a b w) s = ap₂ (λ (x : Path) (y : Path). map path_of front ++ x ∷ y ∷ []) (sym s.is_second.path_is) (sym s.is_first.path_is)
      ∙ sym (map-append path_of front (s.second ∷ s.first ∷ [])) ∙ ap (map path_of) (sym s.stack)
  paths_new (Closed w) s = append-nil (map path_of front) ∙ ap (map path_of) (sym s)
  paths_new (Low k) s = append-nil (map path_of front) ∙ ap (map path_of) (sym s)
  paths_new (Dropped w) s = append-nil (map path_of front) ∙ ap (map path_of) (sym s)
  paths_new (AtLimit w) s = append-nil (map path_of front) ∙ ap (map path_of) (sym s)
  paths_new (Wide w a) s = append-nil (map path_of front) ∙ ap (map path_of) (sym s)

  -- ---- the new stack
  gone : new ≡ front → (c : ShownCone) → Contains new c → IsConeAt n q c.path c × (length c.path ≤ d)
  gone e c there = h.cones c (in_front stack front cone popped c (subst (λ (s : List ShownCone). Contains s c) e there))

  split : (a b : ℕ) → AreChildrenOn cone (a - 1) (b - 1) front new → length cone.path ≢ d → IsPair cone.size (shown_gram cone) (a - 1) (b - 1)
      → (c : ShownCone) → Contains new c → IsConeAt n q c.path c × (length c.path ≤ d)
  split a b s ne p = each_new cone (a - 1) (b - 1) front new s (λ (c : ShownCone). IsConeAt n q c.path c × (length c.path ≤ d))
      (λ c there. h.cones c (in_front stack front cone popped c there)) (a_child true s.second s.is_second) (a_child false s.first s.is_first)
    where
      a_child : (side : Bool) (r : ShownCone) → IsChild cone (a - 1) (b - 1) side r → IsConeAt n q r.path r × (length r.path ≤ d)
      a_child side r is = (
        subst (λ (p : Path). IsConeAt n q p r) (sym is.path_is) (child_at_path n q cone.path cone at (a - 1) (b - 1) side r p is),
        (let l : length r.path ≡ length cone.path + 1 = ap length is.path_is ∙ length-append cone.path (side ∷ []) in
            let short : length cone.path < d = below_unless_same (length cone.path) d (h.cones cone on_top).1 ne in omega arith),
      )

  cones_new : (f : Fate) → IsShownFate m cone d (min word (shown_code m cone)) f → AreStacked cone f front new
      → (c : ShownCone) → Contains new c → IsConeAt n q c.path c × (length c.path ≤ d)
  cones_new (Split a b w) (e, u, ne, (some_row, p), fits) s = split a b s ne p
  cones_new (Closed w) g s = gone s
  cones_new (Low k) g s = gone s
  cones_new (Dropped w) g s = gone s
  cones_new (AtLimit w) g s = gone s
  cones_new (Wide w a) g s = gone s

  -- ---- it falls
  fewer_left : cones_left d new < cones_left d stack
  fewer_left = fewer_cones d stack front new cone (h.cones cone on_top).1 popped j.fate (λ split. short j.fate is.fate split) stacks
    where
      short : (f : Fate) → IsShownFate m cone d (min word (shown_code m cone)) f → IsSplit f → length cone.path ≢ d
      short (Split a b w) (e, u, ne, p, fits) s = ne
      short (Closed w) g s = absurd s
      short (Low k) g s = absurd s
      short (Dropped w) g s = absurd s
      short (AtLimit w) g s = absurd s
      short (Wide w a) g s = absurd s

  pub plain_step : IsSearchedPlainly m n q d new (min word (shown_code m cone)) (j ∷ judged) × (cones_left d new < cones_left d stack)
  plain_step = (
    record {
      state = subst (λ (s : List Path). IsKept m n q d (alone s (min word (shown_code m cone)) (j ∷ judged))) (paths_new j.fate stacks) turned;
      cones = cones_new j.fate is.fate stacks;
    },
    fewer_left,
  )

-- ---- a search that keeps what is needed and notes what attains the bound
-- a value is over the bound of a word over 256, or within it
over_or_within : (z : ℤ) (word : ℕ) → 256 < word → IsNotUnder word z ⊎ (z ≤ℤ bound_under Least word)
over_or_within z word over = grind (arith, ints)

-- a word over 256 is none of a search for a sign
pub large_word_is_least : (m : Mode) (n : ℕ) (q : Matrix) (word : ℕ) → 256 < word → word ≤ start_word m n q → m ≡ Least
large_word_is_least Sign n q word over le = absurd (omega arith)
large_word_is_least Least n q word over le = refl

-- a generator whose key is noted attains the bound
key_attains : (n : ℕ) (q : Matrix) (word : ℕ) (all : List Judged) (stack : List ShownCone) (keys : List (List ℕ)) → HasNoted n q word all stack keys
    → 256 < word → (path : Path) (k : ℕ) → HasKey n q keys path k → value n q (cone_at n q path) k ≡ bound_under Least word
key_attains n q word all stack keys h over path k (x, there, padded) =
    let (at, l, searched, range, other, attains) = h.each over x there in
    sym (same_value n q path at k l (same_key n q path at k l x range padded other)) ∙ attains

-- a cone of the stack is judged, and the others stay
pub still_searched : (n : ℕ) (q : Matrix) (word : ℕ) (all : List Judged) (stack new : List ShownCone) (cone : ShownCone) (j : Judged) → j.path ≡ cone.path
    → ((c : ShownCone) → Contains stack c → Contains new c ⊎ (cone ≡ c)) → (x : List ℕ) → IsOfSearched n q word all stack x
    → IsOfSearched n q word (j ∷ all) new x
still_searched n q word all stack new cone j is stay x (path, k, searched, range, padded, attains) = (path, k, by searched, range, padded, attains)
  where
    of_stack : (c : ShownCone) → c.path ≡ path → (Contains new c ⊎ (cone ≡ c)) → IsSearched (j ∷ all) new path
    of_stack c e (inl there) = inr (c, there, e)
    of_stack c e (inr this) = inl (j, contains_here j all, is ∙ ap path_of this ∙ e)

    by : IsSearched all stack path → IsSearched (j ∷ all) new path
    by (inl (p, there, e)) = inl (p, contains_there j all p there, e)
    by (inr (c, there, e)) = of_stack c e (stay c there)

pub has_key_same : (n : ℕ) (q : Matrix) (keys : List (List ℕ)) (path other : Path) (k l : ℕ) → IsSameGenerator n q path k other l
    → HasKey n q keys other l → HasKey n q keys path k
has_key_same n q keys path other k l s (x, there, p) = (x, there, padded_same n x (cone_at n q other l) (cone_at n q path k) s.same p)

module _ (m : Mode) (n : ℕ) (q : Matrix) (d : ℕ) (stack rest : List ShownCone) (cone : ShownCone) (word : ℕ) (fresh : NewGenerators) (kept : List Judged)
    (keys : List (List ℕ)) (h : IsSearching m n q d stack word fresh kept keys) (top : IsOnTop cone rest stack) where
  at_top : IsConeAt n q cone.path cone
  at_top = (h.plain.cones cone (top_in stack rest cone top)).0

  pub top_within : length cone.path ≤ d
  top_within = plain_within h.plain rest cone top

  pub top_named : NamesNew cone.size fresh
  top_named = subst (λ (k : ℕ). NamesNew k fresh) (sym at_top.cone.size) h.stack_is.named

  covered_over : 256 < word → (path : Path) (k : ℕ) → IsCovered n q word keys path k → IsNotUnder word (value n q (cone_at n q path) k)
  covered_over over path k covered = by (over_or_within (value n q (cone_at n q path) k) word over)
    where
      by : (IsNotUnder word (value n q (cone_at n q path) k) ⊎ (value n q (cone_at n q path) k ≤ℤ bound_under Least word))
          → IsNotUnder word (value n q (cone_at n q path) k)
      by (inl u) = u
      by (inr b) =
          let e : value n q (cone_at n q path) k ≡ bound_under Least word = key_attains n q word h.all stack keys h.noted over path k (covered over b) in
          omega (arith, ints)

  others_over : 256 < word → (m ≡ Least) × AreOthersOver cone fresh word
  others_over over = (
    large_word_is_least m n q word over h.plain.state.below_start,
    λ k l. by k (rw (sym at_top.cone.size) l) (h.stack_is.waiting cone (top_in stack rest cone top) k (rw (sym at_top.cone.size) l)),
  )
    where
      by : (k : ℕ) → k < n → (IsCovered n q word keys cone.path k ⊎ IsNewOnTop n q stack fresh cone.path k)
          → IsNotUnder word (shown_gram cone k k) ⊎ ((l : ℕ) × (l < cone.size) × IsNew fresh l × (shown_gram cone k k ≡ shown_gram cone l l))
      by k l (inl c) = inl (rw (value_at n q cone.path cone at_top k l) (covered_over over cone.path k c))
      by k l (inr t) =
          let same : IsSameGenerator n q cone.path k cone.path t.l =
          subst (λ (c : ShownCone). IsSameGenerator n q cone.path k c.path t.l) (same_top stack t.rest rest t.top cone t.on_top top) t.same in
          inr (
            t.l,
            rw at_top.cone.size same.range,
            t.is_new,
            value_at n q cone.path cone at_top k l ∙ sym (same_value n q cone.path cone.path k t.l same)
                ∙ sym (value_at n q cone.path cone at_top t.l same.range),
          )

  pub top_others : HasOthersOver m cone fresh word
  top_others = by fresh others_over
    where
      by : (f : NewGenerators) → (256 < word → (m ≡ Least) × AreOthersOver cone f word) → HasOthersOver m cone f word
      by Each o = tt
      by (One which) o = o
      by NoOne o = o

-- ---- the start
pub search_starts : (m : Mode) (n : ℕ) (q : Matrix) (d : ℕ) (root : ShownCone) → IsConeAt n q [] root
    → IsSearching m n q d (root ∷ []) (start_word m n q) Each [] []
search_starts m n q d root at = record {
  all = [];
  plain = plain_starts m n q d root at;
  has = record { within = λ j c. absurd (nothing_in j c); low = λ j c. absurd (nothing_in j c); ends = λ j c. absurd (nothing_in j c) };
  noted = record { each = λ over x c. absurd (nothing_in x c); covered = λ j k c. absurd (nothing_in j c) };
  stack_is = record { waiting = λ c h k l. inr (new c k l (contains_cons root [] c h)); named = tt };
}
  where
    new : (c : ShownCone) (k : ℕ) → k < n → ((root ≡ c) ⊎ Contains [] c) → IsNewOnTop n q (root ∷ []) Each c.path k
    new c k l (inl e) = subst (λ (r : ShownCone). IsNewOnTop n q (root ∷ []) Each r.path k) e
        (record { top = root; rest = []; on_top = refl; l = k; is_new = tt; same = same_itself n q root.path k l })
    new c k l (inr h) = absurd (nothing_in c h)

-- ---- the end
pub search_ends : (m : Mode) (n : ℕ) (q : Matrix) (d : ℕ) (stack : List ShownCone) (word : ℕ) (fresh : NewGenerators) (kept : List Judged)
    (keys : List (List ℕ)) → stack ≡ [] → IsSearching m n q d stack word fresh kept keys → IsFairNoted m n q d kept keys word
search_ends m n q d stack word fresh kept keys e h = record {
  ends = record { all = h.all; fair = plain_ends m n q d stack word h.all e h.plain; has = h.has };
  noted = λ over. record { each = λ x c. judged x (h.noted.each over x c); all = λ j k c least l val. h.noted.covered j k c l over (at_most _ _ val) };
}
  where
    at_most : (a b : ℤ) → a ≡ b → a ≤ℤ b
    at_most a b e = omega (arith, ints)

    judged : (x : List ℕ) → IsOfSearched n q word h.all stack x
        → (j : Judged) × (k : ℕ) × Contains h.all j × (k < n) × IsPadded n x (cone_at n q j.path k)
        × (value n q (cone_at n q j.path) k ≡ bound_under Least word)
    judged x (path, k, inl (j, there, same), range, padded, attains) = (
      j,
      k,
      there,
      range,
      subst (λ (p : Path). IsPadded n x (cone_at n q p k)) (sym same) padded,
      subst (λ (p : Path). value n q (cone_at n q p) k ≡ bound_under Least word) (sym same) attains,
    )
    judged x (path, k, inr (c, there, same), range, padded, attains) = absurd (nothing_in c (subst (λ (s : List ShownCone). Contains s c) e there))

-- ---- one turn
module _ (m : Mode) (n : ℕ) (q : Matrix) (d : ℕ) (stack front new : List ShownCone) (cone : ShownCone) (word lower : ℕ) (fresh : NewGenerators) (f : Fate)
    (kept kept' : List Judged) (keys keys' : List (List ℕ)) (some : 1 ≤ n) (limited : d ≤ 200) (h : IsSearching m n q d stack word fresh kept keys)
    (popped : IsOnTop cone front stack)
    (lowered : lower ≡ min word (shown_code m cone)) (shown : IsShownFate m cone d lower f) (stacks : AreStacked cone f front new)
    (keeps : IsConeKept m d lower cone f kept kept') (notes : AddsToNoted cone fresh word lower keys keys') where
  abbrev j : Judged
  j = record { path = cone.path; fate = f; least = shown_least cone }

  cone_stands : Contains stack cone
  cone_stands = top_in stack front cone popped

  at_cone : IsConeAt n q cone.path cone
  at_cone = (h.plain.cones cone cone_stands).0

  next : IsSearchedPlainly m n q d new lower (j ∷ h.all) × (cones_left d new < cones_left d stack)
  next = subst (λ (w : ℕ). IsSearchedPlainly m n q d new w (j ∷ h.all) × (cones_left d new < cones_left d stack)) (sym lowered)
      (plain_step m n q d stack front new cone word h.all j some h.plain popped
      (record { path_is = refl; least_is = refl; fate = subst (λ (w : ℕ). IsShownFate m cone d w f) lowered shown }) stacks)

  -- ---- the judgements that are kept: the one that is kept is that of this fate, since a cone has but one
  abbrev IsKeptOrNot : Type 0
  IsKeptOrNot = (kept' ≡ kept ++ j ∷ []) ⊎ ((kept' ≡ kept) × IsUnneededFate f)

  keeps_this : IsKeptOrNot
  keeps_this = by keeps
    where
      fate_of_path : (g : Fate) → IsShownFate m cone d lower g → IsPathFate m n q d cone.path lower g
      fate_of_path g is = path_fate m n q d cone.path lower g (cone, at_cone, is)

      this : (p : Judged) → IsJudgementOf m cone d lower p → p ≡ j
      this p is = ap₂ (λ (r : Path) (z : ℤ). record { path = r; fate = p.fate; least = z }) is.path_is is.least_is
          ∙ ap (λ (g : Fate). record { path = cone.path; fate = g; least = shown_least cone })
          (fate_unique m n q d cone.path lower p.fate f (fate_of_path p.fate is.fate) (fate_of_path f shown))

      by : IsConeKept m d lower cone f kept kept' → IsKeptOrNot
      by (inl (p, is, e)) = inl (e ∙ ap (λ (p : Judged). kept ++ p ∷ []) (this p is))
      by (inr u) = inr u

  stays : (p : Judged) → Contains kept p → Contains kept' p
  stays p c = by keeps_this
    where
      by : IsKeptOrNot → Contains kept' p
      by (inl e) = subst (λ (l : List Judged). Contains l p) (sym e) (Contains-append_left kept (j ∷ []) p c)
      by (inr (e, u)) = subst (λ (l : List Judged). Contains l p) (sym e) c

  needed : (¬ IsUnneededFate f) → Contains kept' j
  needed not = by keeps_this
    where
      by : IsKeptOrNot → Contains kept' j
      by (inl e) = subst (λ (l : List Judged). Contains l j) (sym e) (Contains-push kept j)
      by (inr (e, u)) = absurd (not u)

  within : (p : Judged) → Contains kept' p → Contains (j ∷ h.all) p
  within p c = by keeps_this
    where
      old_or_this : (Contains kept p ⊎ (j ≡ p)) → Contains (j ∷ h.all) p
      old_or_this (inl o) = contains_there j h.all p (h.has.within p o)
      old_or_this (inr e) = subst (Contains (j ∷ h.all)) e (contains_here j h.all)

      by : IsKeptOrNot → Contains (j ∷ h.all) p
      by (inl e) = old_or_this (Contains-push_cases kept j p (subst (λ (l : List Judged). Contains l p) e c))
      by (inr (e, u)) = old_or_this (inl (subst (λ (l : List Judged). Contains l p) e c))

  low : (p : Judged) → ((j ≡ p) ⊎ Contains h.all p) → IsLowFate p.fate → Contains kept' p
  low p (inl e) is = subst (Contains kept') e (needed (λ u. u.not_low (subst (λ (r : Judged). IsLowFate r.fate) (sym e) is)))
  low p (inr c) is = stays p (h.has.low p c is)

  ends : (p : Judged) → ((j ≡ p) ⊎ Contains h.all p) → IsEndFate p.fate → Contains kept' p
  ends p (inl e) is = subst (Contains kept') e (needed (λ u. u.no_end (subst (λ (r : Judged). IsEndFate r.fate) (sym e) is)))
  ends p (inr c) is = stays p (h.has.ends p c is)

  -- ---- the keys that are noted
  falls : lower ≤ word
  falls = omega (arith, lowered)

  bound_falls : 256 < lower → (z : ℤ) → z ≤ℤ bound_under Least lower → z ≤ℤ bound_under Least word
  bound_falls over z below = let f : lower ≤ word = falls in omega (arith, ints)

  -- a covered generator's key stays, since its value is the bound of a word that hasn't fallen
  still_covered : (path : Path) (k : ℕ) → IsCovered n q word keys path k → IsCovered n q lower keys' path k
  still_covered path k c over below = by notes.is_left
    where
      high : 256 < word
      high = let f : lower ≤ word = falls in omega arith

      has : HasKey n q keys path k
      has = c high (bound_falls over _ below)

      by : AreRemembered word lower keys notes.left → HasKey n q keys' path k
      by (inl (fell, e)) = absurd (
          let v : value n q (cone_at n q path) k ≡ bound_under Least word = key_attains n q word h.all stack keys h.noted high path k has in
          omega (arith, ints, below)
          )
      by (inr (stayed, e)) = (has.0, (notes.adds over).kept has.0 (subst (λ (l : List (List ℕ)). Contains l has.0) (sym e) has.1), has.2)

  -- the top's generators are at least the bound
  not_under : 256 < lower → (k : ℕ) → k < n → IsNotUnder lower (value n q (cone_at n q cone.path) k)
  not_under over k l = code_not_under n q cone.path lower (omega (arith, limited, (h.plain.cones cone cone_stands).1)) over coded k l
    where
      coded : lower ≤ code Least n q cone.path
      coded = subst (λ (m : Mode). lower ≤ code m n q cone.path)
          (large_word_is_least m n q word (let f : lower ≤ word = falls in omega arith) h.plain.state.below_start)
          (next.0.state.below_codes cone.path (inl (j, contains_here j h.all, refl)))

  -- the top's new generators are noted where they attain the bound
  now_covered : (path : Path) (k : ℕ) → (IsCovered n q word keys path k ⊎ IsNewOnTop n q stack fresh path k) → IsCovered n q lower keys' path k
  now_covered path k (inl c) over below = still_covered path k c over below
  now_covered path k (inr t) over below =
      has_key_same n q keys' path cone.path k t.l same (here (value_at n q cone.path cone at_cone t.l same.range) value_is)
    where
      same : IsSameGenerator n q path k cone.path t.l
      same = subst (λ (c : ShownCone). IsSameGenerator n q path k c.path t.l) (same_top stack t.rest front t.top cone t.on_top popped) t.same

      value_is : value n q (cone_at n q cone.path) t.l ≡ pos (lower - 256)
      value_is =
          let u : IsNotUnder lower (value n q (cone_at n q cone.path) t.l) = not_under over t.l same.range in
          let e : value n q (cone_at n q cone.path) t.l ≡ value n q (cone_at n q path) k = same_value n q path cone.path k t.l same in
          omega (arith, ints, below)

      here : shown_gram cone t.l t.l ≡ value n q (cone_at n q cone.path) t.l → value n q (cone_at n q cone.path) t.l ≡ pos (lower - 256)
          → HasKey n q keys' cone.path t.l
      here g v = let r = (notes.adds over).added t.l (rw at_cone.cone.size same.range) t.is_new (g ∙ v) in
          (r.0, r.1, padded_at n q cone.path cone at_cone t.l r.0 same.range r.2)

  covered : (p : Judged) (k : ℕ) → ((j ≡ p) ⊎ Contains h.all p) → k < n → IsCovered n q lower keys' p.path k
  covered p k (inl e) l = subst (λ (r : Judged). IsCovered n q lower keys' r.path k) e (now_covered cone.path k (h.stack_is.waiting cone cone_stands k l))
  covered p k (inr c) l = still_covered p.path k (h.noted.covered p k c l)

  -- the top is judged, and the cones below it stay
  stay : (c : ShownCone) → Contains stack c → Contains new c ⊎ (cone ≡ c)
  stay c there = by (Contains-push_cases front cone c (subst (λ (s : List ShownCone). Contains s c) popped there))
    where
      by : (Contains front c ⊎ (cone ≡ c)) → Contains new c ⊎ (cone ≡ c)
      by (inl k) = inl (stays_below cone f front new stacks c k)
      by (inr e) = inr e

  each : 256 < lower → (x : List ℕ) → Contains keys' x → IsOfSearched n q lower (j ∷ h.all) new x
  each over x there = by ((notes.adds over).only x there)
    where
      high : 256 < word
      high = let f : lower ≤ word = falls in omega arith

      old : Contains notes.left x → AreRemembered word lower keys notes.left → IsOfSearched n q lower (j ∷ h.all) new x
      old c (inl (fell, e)) = absurd (nothing_in x (subst (λ (l : List (List ℕ)). Contains l x) e c))
      old c (inr (stayed, e)) =
          let same : word ≡ lower = (let f : lower ≤ word = falls in omega arith) in
          still_searched n q lower h.all stack new cone j refl stay x
          (subst (λ (w : ℕ). IsOfSearched n q w h.all stack x) same (h.noted.each high x (subst (λ (l : List (List ℕ)). Contains l x) e c)))

      by : (Contains notes.left x ⊎ ((k : ℕ) × (k < cone.size) × (shown_gram cone k k ≡ pos (lower - 256)) × IsKeyOf cone k x))
          → IsOfSearched n q lower (j ∷ h.all) new x
      by (inl c) = old c notes.is_left
      by (inr (k, l, e, key)) =
          let range : k < n = rw (sym at_cone.cone.size) l in
          let bound : pos (lower - 256) ≡ bound_under Least lower = omega (arith, ints) in
          let value_is : value n q (cone_at n q cone.path) k ≡ bound_under Least lower = sym (value_at n q cone.path cone at_cone k range) ∙ e ∙ bound in
          (cone.path, k, inl (j, contains_here j h.all, refl), range, padded_at n q cone.path cone at_cone k x range key, value_is)

  -- a generator of the top is covered
  handed_on : (path : Path) (k : ℕ) → IsSameGenerator n q path k cone.path k → IsCovered n q lower keys' path k
  handed_on path k s over below = has_key_same n q keys' path cone.path k k s
      (now_covered cone.path k (h.stack_is.waiting cone cone_stands k s.range) over
      (subst (λ (z : ℤ). z ≤ℤ bound_under Least lower) (sym (same_value n q path cone.path k k s)) below))

  -- ---- the new stack
  abbrev Waits : NewGenerators → ShownCone → Type 0
  Waits after c = (k : ℕ) → k < n → IsCovered n q lower keys' c.path k ⊎ IsNewOnTop n q new after c.path k

  front_waits : (after : NewGenerators) (c : ShownCone) → Contains front c → Waits after c
  front_waits after c there k l = inl (now_covered c.path k (h.stack_is.waiting c (in_front stack front cone popped c there) k l))

  gone_waits : new ≡ front → IsStack n q new lower NoOne keys'
  gone_waits e = record { waiting = λ c there. front_waits NoOne c (subst (λ (s : List ShownCone). Contains s c) e there); named = tt }

  module _ (a b : ℕ) (s : AreChildrenOn cone (a - 1) (b - 1) front new) (some_row : 1 ≤ a) (p : IsPair cone.size (shown_gram cone) (a - 1) (b - 1)) where
    pair : pair_of n (gram n q (cone_at n q cone.path)) ≡ Some (a - 1, b - 1)
    pair = pair_at n q cone.path cone at_cone (a - 1) (b - 1) p

    row : a - 1 < n
    row = omega (arith, p.order, p.range, at_cone.cone.size)

    mediant : (path : Path) (k : ℕ) → IsSameGenerator n q path k s.first.path (a - 1) → IsNewOnTop n q new (One a) path k
    mediant path k same =
        record { top = s.first; rest = front ++ s.second ∷ []; on_top = rw append_assoc s.stack; l = a - 1; is_new = omega (arith, some_row); same = same }

    second_waits : Waits (One a) s.second
    second_waits k l = by (same_or_not k (b - 1))
      where
        by : ((k ≡ b - 1) ⊎ (k ≢ b - 1)) → IsCovered n q lower keys' s.second.path k ⊎ IsNewOnTop n q new (One a) s.second.path k
        by (inl e) = inr (mediant s.second.path k (subst (λ (r : Path). IsSameGenerator n q r k s.first.path (a - 1)) (sym s.is_second.path_is)
            (subst (λ (r : Path). IsSameGenerator n q (cone.path ++ true ∷ []) k r (a - 1)) (sym s.is_first.path_is)
            (second_mediant n q cone.path (a - 1) (b - 1) pair row k e))))
        by (inr ne) = inl (handed_on s.second.path k (subst (λ (r : Path). IsSameGenerator n q r k cone.path k) (sym s.is_second.path_is)
            (second_other n q cone.path (a - 1) (b - 1) pair k l ne)))

    first_waits : Waits (One a) s.first
    first_waits k l = by (same_or_not k (a - 1))
      where
        by : ((k ≡ a - 1) ⊎ (k ≢ a - 1)) → IsCovered n q lower keys' s.first.path k ⊎ IsNewOnTop n q new (One a) s.first.path k
        by (inl e) = inr (mediant s.first.path k (subst (λ (i : ℕ). IsSameGenerator n q s.first.path k s.first.path i) e (same_itself n q s.first.path k l)))
        by (inr ne) = inl (handed_on s.first.path k (subst (λ (r : Path). IsSameGenerator n q r k cone.path k) (sym s.is_first.path_is)
            (first_other n q cone.path (a - 1) (b - 1) pair k l ne)))

    split_waits : IsStack n q new lower (One a) keys'
    split_waits = record {
      waiting = each_new cone (a - 1) (b - 1) front new s (Waits (One a)) (front_waits (One a)) second_waits first_waits;
      named = (some_row, omega (arith, p.order, p.range, at_cone.cone.size));
    }

  stack_new : (f : Fate) → IsShownFate m cone d lower f → AreStacked cone f front new → IsStack n q new lower (new_after f) keys'
  stack_new (Split a b w) (e, u, ne, (some_row, p), fits) s = split_waits a b s some_row p
  stack_new (Closed w) g s = gone_waits s
  stack_new (Low k) g s = gone_waits s
  stack_new (Dropped w) g s = gone_waits s
  stack_new (AtLimit w) g s = gone_waits s
  stack_new (Wide w a) g s = gone_waits s

  pub search_step : IsSearching m n q d new lower (new_after f) kept' keys' × (cones_left d new < cones_left d stack)
  search_step = (
    record {
      all = j ∷ h.all;
      plain = next.0;
      has = record {
        within = within;
        low = λ p c. low p (contains_cons j h.all p c);
        ends = λ p c. ends p (contains_cons j h.all p c);
      };
      noted = record { each = each; covered = λ p k c. covered p k (contains_cons j h.all p c) };
      stack_is = stack_new f shown stacks;
    },
    next.1,
  )

pub no_items : (stack : List ShownCone) → length stack ≡ 0 → stack ≡ []
no_items [] e = refl
no_items (c ∷ stack) e = absurd (omega arith)
