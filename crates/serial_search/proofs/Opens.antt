-- The loop of a search over narrow cones: what holds from turn to turn, where of a split only the open children are made.
--
-- | split_stands, noted_stands | what stands with both children on the stack, and where the mediant is over the bound, or noted |
-- | loop_opens | the turn of the top |
-- | may_open | a top that may be turned may be split so |
-- | mediant_is_key | a mediant that is told is a key |
-- | split_opened | an arena of whose top the open children are made is turned |
use Rattle.std.specs.Prelude.{◌≡◌, ℕ, zero, suc, ◌<◌, ◌≤◌, ◌+◌, ◌-◌, ◌^◌, min, ℤ, pos, negsuc, ◌≤ℤ◌, ◌<ℤ◌, ◌⊎◌}
use Rattle.std.specs.Prelude.{IsTrue, Bool, true, false, List, [], ◌∷◌, ◌++◌, length, slice_index_or}
use Rattle.std.proofs.Common.{arith, refl, inl, inr, sym, ◌∙◌, ap, subst, append_assoc, length-append}
use Rattle.std.specs.List.{Contains}
use Rattle.std.proofs.lemmas.Int.{ints}
use Rattle.std.proofs.lemmas.List.{append-nil}
use Rattle.exact_forms.specs.Slacks.{IsClosed}
use Rattle.exact_forms.proofs.Lists.{top_in}
use Rattle.symmetric_matrix.specs.Symmetric.{Symmetric, entry}
use Rattle.unimodular_cone.specs.declared.Mode.{Mode}
use Rattle.unimodular_cone.specs.declared.Mode.TheVariants.{Sign, Least}
use Rattle.unimodular_cone.specs.declared.OpenChildren.{OpenChildren}
use Rattle.unimodular_cone.specs.declared.OpenChildren.TheVariants.{Below, Both, First, Second, Neither}
use Rattle.unimodular_cone.specs.Cones.{child_gram, child_gram_on, cone_at, value}
use Rattle.unimodular_cone.specs.declared.Opened.{Opened}
use Rattle.unimodular_cone.specs.OpenChildren.{IsChoice, IsMediantFrom, IsMediantAt, IsOpening, IsChildClosed}
use Rattle.unimodular_cone.specs.Shown.{ShownCone, shown_gram, IsChild, IsConeAt}
use Rattle.unimodular_cone.proofs.ShownAt.{closed_same, value_at}
use Rattle.cone_arena.specs.Arena.{ShownArena, MaySplit, TopFits}
use Rattle.cone_arena.specs.OpenTops.{AreOpenOn, IsTopOpened}
use Rattle.search_core.specs.declared.Fate.{Fate}
use Rattle.search_core.specs.declared.Fate.TheVariants as fate
use Rattle.search_core.specs.declared.Next.{Next}
use Rattle.search_core.specs.declared.Next.TheVariants.{Split, Gone, Kept}
use Rattle.search_core.specs.declared.Judged.{Judged}
use Rattle.search_core.specs.declared.NewGenerators.{NewGenerators}
use Rattle.search_core.specs.declared.NewGenerators.TheVariants.{One, NoOne}
use Rattle.search_core.specs.Fair.{bound_under, code_of}
use Rattle.search_core.specs.Judging.{shown_code, shown_least, IsShownFate, IsClosedShown}
use Rattle.search_core.specs.Kept.{IsConeKept}
use Rattle.search_core.specs.Next.{IsLetGo, IsToKeep, IsSplitAt, IsNextOf, IsShownNext, IsNextKept}
use Rattle.search_core.specs.Noting.{new_after, AddsToNoted, HasKey}
use Rattle.search_core.specs.Attaining.{IsPadded}
use Rattle.search_core.proofs.Keys.{padded_at, mediant_key, mediant_small}
use Rattle.serial_search.specs.Turns.{IsOnTop, AreStacked, MayTurn}
use Rattle.serial_search.specs.OpenTurns.{new_among, NotesMediant, MayOpen, IsOpened, IsTakenAway, IsOpenTurnOf}
use Rattle.serial_search.specs.Searching.{IsSearching}
use Rattle.serial_search.proofs.AnyChild.{any_child}
use Rattle.serial_search.proofs.LeftOut.{left_out, none_new, fewer_without, deep_without}
use Rattle.serial_search.proofs.Loops.{IsSearchLoop, loop_within, loop_turns}
use Rattle.serial_search.proofs.Stacks.{cones_left, large_word_is_least}
use Rattle.serial_search.proofs.Tops.{split_turned, same_top, same_rest}

-- a code fits 64 bits
code_fits : (m : Mode) (depth : ℕ) (z : ℤ) → depth ≤ 200 → code_of m depth z ≤ 2 ^ 64 - 1
code_fits Sign depth (pos z) short = omega arith
code_fits Sign depth (negsuc z) short = omega arith
code_fits Least depth (pos zero) short = omega arith
code_fits Least depth (pos (suc z)) short = omega arith
code_fits Least depth (negsuc z) short = omega arith

-- a number from another on that isn't it is over it, and one that is it is from it on
below_unless_same : (a b : ℤ) → a ≤ℤ b → ¬ (b ≡ a) → a <ℤ b
below_unless_same a b from apart = grind (arith, ints)

at_least_same : (a b : ℤ) → b ≡ a → a ≤ℤ b
at_least_same a b e = omega (arith, ints, e)

abbrev with_cones : ShownArena → List ShownCone → ShownArena
with_cones a cones = record { size = a.size; depth = a.depth; cones = cones }

-- the turn of the top
module _ {m : Mode} {q : Symmetric} {d : ℕ} {below : List ShownCone} {arena : ShownArena} {word : ℕ} {fresh : NewGenerators} {kept : List Judged}
    {keys : List (List ℕ)}
    (h : IsSearchLoop m q d below arena word fresh kept keys) (rest : List ShownCone) (cone : ShownCone) (top : IsOnTop cone rest arena.cones)
    (some : 1 ≤ q.size) (limited : d ≤ 200) (lower : ℕ) (kept' : List Judged) (keys' : List (List ℕ)) (lowered : lower ≡ min word (shown_code m cone))
    (notes : AddsToNoted cone fresh word lower keys keys') where
  fits : lower ≤ 2 ^ 64 - 1
  fits =
      let within : length cone.path ≤ d = loop_within h rest cone top in
      let code : shown_code m cone ≤ 2 ^ 64 - 1 = code_fits m (length cone.path) (shown_least cone) (omega arith) in
      omega (arith, lowered)

  -- so it stands with these keys, and these cones in the arena, which are fewer
  abbrev Stands : List (List ℕ) → NewGenerators → List ShownCone → Type 0
  Stands noted new cones = IsSearchLoop m q d below (with_cones arena cones) lower new kept' noted × (cones_left d cones < cones_left d arena.cones)

  module _ (i j w : ℕ) (shown : IsShownFate m cone d lower (fate.Split i j w)) (keeps : IsConeKept m d lower cone (fate.Split i j w) kept kept') where
    abbrev IsOn : Bool → ShownCone → Type 0
    IsOn side r = IsChild cone (i - 1) (j - 1) side r

    split_stands : (second first : ShownCone) → IsOn true second → IsOn false first → Stands keys' (One i) (rest ++ second ∷ first ∷ [])
    split_stands second first is_second is_first =
        loop_turns h rest cone top lower (fate.Split i j w) (with_cones arena (rest ++ second ∷ first ∷ [])) kept' keys' some limited lowered shown
        (split_turned arena (with_cones arena (rest ++ second ∷ first ∷ [])) i j w (record {
          size = refl;
          depth = refl;
          top = cone;
          rest = rest;
          second = second;
          first = first;
          was = top;
          is_second = is_second;
          is_first = is_first;
          cones = refl;
        }))
        keeps notes

    some_row : 1 ≤ i
    some_row = shown.3.0

    -- the mediant's value is from the bound on, and its key is noted where it is the bound
    module _ (o : Opened) (mediant : List ℕ) (keys'' : List (List ℕ)) (opening : IsOpening cone (i - 1) (j - 1) (bound_under m lower) o mediant)
        (noted : NotesMediant lower o.attains mediant keys' keys'') (second first : ShownCone) (is_second : IsOn true second) (is_first : IsOn false first)
        (from : IsMediantFrom cone (i - 1) (j - 1) (bound_under m lower)) where
      abbrev both : List ShownCone
      both = rest ++ second ∷ first ∷ []

      searched : IsSearching m q.size (entry q) d (below ++ both) lower (One i) kept' keys'
      searched = (split_stands second first is_second is_first).0.searching

      first_on_top : IsOnTop first (below ++ (rest ++ second ∷ [])) (below ++ both)
      first_on_top = ap (λ (cones : List ShownCone). below ++ cones) (sym (append_assoc rest (second ∷ []) (first ∷ [])))
          ∙ sym (append_assoc below (rest ++ second ∷ []) (first ∷ []))

      at_first : IsConeAt q.size (entry q) first.path first
      at_first = (searched.plain.cones first (top_in (below ++ both) (below ++ (rest ++ second ∷ [])) first first_on_top)).0

      abbrev value_of : ℕ → ℤ
      value_of l = value q.size (entry q) (cone_at q.size (entry q) first.path) l

      inside : (l : ℕ) → l < q.size → l < cone.size
      inside l range = omega (arith, range, is_first.size, at_first.cone.size)

      row : i - 1 < q.size
      row = omega (arith, shown.3.1.order, shown.3.1.range, is_first.size, at_first.cone.size)

      value_is : (l : ℕ) → i ≡ suc l → l < q.size → value_of l ≡ child_gram (shown_gram cone) (i - 1) (j - 1) (i - 1) (i - 1)
      value_is l e range =
          let place : i - 1 ≡ l = omega (arith, e) in
          sym (value_at q.size (entry q) first.path first at_first l range) ∙ is_first.gram_is l l (inside l range) (inside l range)
          ∙ ap (λ (k : ℕ). child_gram (shown_gram cone) (i - 1) (j - 1) k k) (sym place)

      bound_is : 256 < lower → bound_under m lower ≡ bound_under Least lower
      bound_is high = ap (λ (mode : Mode). bound_under mode lower) (large_word_is_least m q.size (entry q) lower high searched.plain.state.below_start)

      key_is : IsTrue o.attains → IsPadded q.size mediant (cone_at q.size (entry q) first.path (i - 1))
      key_is t = padded_at q.size (entry q) first.path first at_first (i - 1) mediant row
          (mediant_key cone (i - 1) (j - 1) mediant (inside (i - 1) row) (opening.mediant t) first shown.4.first is_first)

      seen : 256 < lower → (l : ℕ) → i ≡ suc l → l < q.size
          → (bound_under Least lower <ℤ value_of l) ⊎ HasKey q.size (entry q) keys'' first.path l
      seen high l e range = by noted
        where
          past : ¬ IsMediantAt cone (i - 1) (j - 1) (bound_under m lower) → bound_under Least lower <ℤ value_of l
          past apart = subst (λ (z : ℤ). z <ℤ value_of l) (bound_is high)
              (subst (λ (z : ℤ). bound_under m lower <ℤ z) (sym (value_is l e range)) (below_unless_same _ _ from apart))

          by : NotesMediant lower o.attains mediant keys' keys'' → (bound_under Least lower <ℤ value_of l) ⊎ HasKey q.size (entry q) keys'' first.path l
          by (inl (over, t, with)) = inr (
            mediant,
            with.added,
            subst (λ (k : ℕ). IsPadded q.size mediant (cone_at q.size (entry q) first.path k)) (omega (arith, e)) (key_is t),
          )
          by (inr (none, same)) = inl (past (λ at. none high (opening.attains.1 at)))

      more : (x : List ℕ) → Contains keys' x → Contains keys'' x
      more x there = by noted
        where
          by : NotesMediant lower o.attains mediant keys' keys'' → Contains keys'' x
          by (inl (over, t, with)) = with.kept x there
          by (inr (none, same)) = subst (λ (l : List (List ℕ)). Contains l x) (sym same) there

      abbrev IsOfMediant : List ℕ → Type 0
      IsOfMediant x = (l : ℕ) × (l < q.size) × IsPadded q.size x (cone_at q.size (entry q) first.path l) × (value_of l ≡ bound_under Least lower)

      only : 256 < lower → (x : List ℕ) → Contains keys'' x → Contains keys' x ⊎ IsOfMediant x
      only high x there = by noted
        where
          one : IsTrue o.attains → (Contains keys' x ⊎ (mediant ≡ x)) → Contains keys' x ⊎ IsOfMediant x
          one t (inl c) = inl c
          one t (inr e) = inr (
            i - 1,
            row,
            subst (λ (y : List ℕ). IsPadded q.size y (cone_at q.size (entry q) first.path (i - 1))) e (key_is t),
            value_is (i - 1) (omega (arith, some_row)) row ∙ opening.attains.0 t ∙ bound_is high,
          )

          by : NotesMediant lower o.attains mediant keys' keys'' → Contains keys' x ⊎ IsOfMediant x
          by (inl (over, t, with)) = one t (with.only x there)
          by (inr (none, same)) = inl (subst (λ (l : List (List ℕ)). Contains l x) same there)

      noted_stands : Stands keys'' NoOne both
      noted_stands = (
        record {
          searching = none_new m q.size (entry q) d (below ++ both) (below ++ (rest ++ second ∷ [])) first lower i kept' keys' keys'' searched first_on_top
              seen more only;
          deep = (split_stands second first is_second is_first).0.deep;
          room = h.room;
        },
        (split_stands second first is_second is_first).1,
      )

    -- a closed child is judged, and gone
    without : (noted : List (List ℕ)) (side : Bool) (r : ShownCone) → IsOn side r → IsChildClosed cone (i - 1) (j - 1) side (bound_under m lower)
        → (front back : List ShownCone)
        → Stands noted NoOne (front ++ r ∷ back) → Stands noted NoOne (front ++ back)
    without noted side r is closed front back s = (
      record {
        searching = subst (λ (cones : List ShownCone). IsSearching m q.size (entry q) d cones lower NoOne kept' noted) (append_assoc below front back)
            (left_out m q.size (entry q) d (below ++ front) back r lower kept' noted some
            (subst (λ (cones : List ShownCone). IsSearching m q.size (entry q) d cones lower NoOne kept' noted) (sym (append_assoc below front (r ∷ back)))
            s.0.searching)
            fits short closed_here);
        deep = deep_without 0 front back r s.0.deep;
        room = h.room;
      },
      omega (arith, fewer_without d front back r, s.1),
    )
      where
        short : lower < 256 → length r.path ≤ lower
        short under =
            let parent : length cone.path < lower = shown.1.not_past under in
            let longer : length r.path ≡ length cone.path + 1 = ap length is.path_is ∙ length-append cone.path (side ∷ []) in
            omega arith

        closed_here : IsClosedShown m r lower
        closed_here = closed_same r.size (child_gram_on (shown_gram cone) (i - 1) (j - 1) side) (shown_gram r) (bound_under m lower)
            (λ k l lk ll. sym (is.gram_is k l (subst (λ (n : ℕ). k < n) is.size lk) (subst (λ (n : ℕ). l < n) is.size ll)))
            (subst (λ (n : ℕ). IsClosed n (child_gram_on (shown_gram cone) (i - 1) (j - 1) side) (bound_under m lower)) (sym is.size) closed)

    module _ (o : Opened) (mediant : List ℕ) (keys'' : List (List ℕ)) (opening : IsOpening cone (i - 1) (j - 1) (bound_under m lower) o mediant)
        (noted : NotesMediant lower o.attains mediant keys' keys'') where
      -- a mediant below the bound isn't noted
      not_noted : (¬ IsMediantFrom cone (i - 1) (j - 1) (bound_under m lower)) → keys'' ≡ keys'
      not_noted below_it = by noted
        where
          by : NotesMediant lower o.attains mediant keys' keys'' → keys'' ≡ keys'
          by (inl (over, t, with)) = absurd (below_it (at_least_same _ _ (opening.attains.0 t)))
          by (inr (none, same)) = same

      with_both : (second first : ShownCone) → IsOn true second → IsOn false first → IsMediantFrom cone (i - 1) (j - 1) (bound_under m lower)
          → Stands keys'' NoOne (rest ++ second ∷ first ∷ [])
      with_both = noted_stands o mediant keys'' opening noted

      opened_stands : (made : OpenChildren) (new : List ShownCone) → IsChoice cone (i - 1) (j - 1) (bound_under m lower) made
          → AreOpenOn cone (i - 1) (j - 1) made rest new → Stands keys'' (new_among made i) new
      opened_stands Below new choice s = subst (λ (k : List (List ℕ)). Stands k (One i) new) (sym (not_noted choice))
          (subst (Stands keys' (One i)) (sym s.cones) (split_stands s.second s.first s.is_second s.is_first))
      opened_stands Both new (from, closed0, closed1) s = subst (Stands keys'' NoOne) (sym s.cones) (with_both s.second s.first s.is_second s.is_first from)
      opened_stands First new (from, closed0, closed1) s =
          let r = any_child cone (i - 1) (j - 1) true in
          subst (Stands keys'' NoOne) (sym s.cones) (without keys'' true r.0 r.1 closed1 rest (s.child ∷ []) (with_both r.0 s.child r.1 s.is_child from))
      opened_stands Second new (from, closed0, closed1) s =
          let r = any_child cone (i - 1) (j - 1) false in
          subst (Stands keys'' NoOne) (append-nil (rest ++ s.child ∷ []) ∙ sym s.cones)
          (without keys'' false r.0 r.1 closed0 (rest ++ s.child ∷ []) []
          (subst (Stands keys'' NoOne) (sym (append_assoc rest (s.child ∷ []) (r.0 ∷ []))) (with_both s.child r.0 s.is_child r.1 from)))
      opened_stands Neither new (from, closed0, closed1) s =
          let second = any_child cone (i - 1) (j - 1) true in
          let first = any_child cone (i - 1) (j - 1) false in
          subst (Stands keys'' NoOne) (append-nil rest ∙ sym s)
          (without keys'' false first.0 first.1 closed0 rest []
          (without keys'' true second.0 second.1 closed1 rest (first.0 ∷ []) (with_both second.0 first.0 second.1 first.1 from)))

  module _ (after : ShownArena) (keys'' : List (List ℕ)) (fresh' : NewGenerators) where
    abbrev Turned : Type 0
    Turned = IsSearchLoop m q d below after lower fresh' kept' keys'' × (cones_left d after.cones < cones_left d arena.cones)

    -- what is done at a top that is let go, is kept, or is split
    let_go : (n : Next) → IsLetGo n → IsOpenTurnOf m lower arena n keys' after keys'' fresh' → IsTakenAway rest keys' after.cones keys'' fresh'
    let_go (Split a b) is t = absurd is
    let_go Gone is t = t.turned cone rest top
    let_go Kept is t = absurd is

    kept_top : (n : Next) → IsToKeep n → IsOpenTurnOf m lower arena n keys' after keys'' fresh' → IsTakenAway rest keys' after.cones keys'' fresh'
    kept_top (Split a b) is t = absurd is
    kept_top Gone is t = absurd is
    kept_top Kept is t = t.turned cone rest top

    split_top : (n : Next) (i j : ℕ) → IsSplitAt i j n → IsOpenTurnOf m lower arena n keys' after keys'' fresh'
        → IsOpened m lower cone i j rest keys' after.cones keys'' fresh'
    split_top (Split a b) i j (ei, ej) t = subst (λ (x : ℕ). IsOpened m lower cone x j rest keys' after.cones keys'' fresh') (sym ei)
        (subst (λ (y : ℕ). IsOpened m lower cone a y rest keys' after.cones keys'' fresh') (sym ej) (t.turned cone rest top))
    split_top Gone i j is t = absurd is
    split_top Kept i j is t = absurd is

    -- the top is taken away
    gone : (f : Fate) → ((rest' : List ShownCone) → after.cones ≡ rest' → (c : ShownCone) → AreStacked c f rest' after.cones) → new_after f ≡ NoOne
        → after.size ≡ arena.size → after.depth ≡ arena.depth → IsTakenAway rest keys' after.cones keys'' fresh' → IsShownFate m cone d lower f
        → IsConeKept m d lower cone f kept kept' → Turned
    gone f stacks none size depth g shown keeps =
        subst (λ (k : List (List ℕ)). IsSearchLoop m q d below after lower fresh' kept' k × (cones_left d after.cones < cones_left d arena.cones)) (sym g.same)
        (subst (λ (e : NewGenerators). IsSearchLoop m q d below after lower e kept' keys' × (cones_left d after.cones < cones_left d arena.cones))
        (none ∙ sym g.none_new)
        (loop_turns h rest cone top lower f after kept' keys' some limited lowered shown
        (record {
          size = size;
          depth = depth;
          turned = λ c other there. stacks other (g.cones ∙ same_rest arena.cones rest other cone c top there) c;
        })
        keeps notes))

    turned_by : (f : Fate) (n : Next) → IsShownFate m cone d lower f → IsNextOf f n → IsOpenTurnOf m lower arena n keys' after keys'' fresh'
        → IsConeKept m d lower cone f kept kept' → Turned
    turned_by (fate.Split i j w) n shown is turn keeps =
        let o = split_top n i j is turn in
        let s = subst (λ (e : NewGenerators). Stands keys'' e after.cones) (sym o.fresh_is)
        (opened_stands i j w shown keeps o.o o.mediant keys'' o.opening o.notes o.o.made after.cones o.opening.choice o.opened) in (
          record { searching = s.0.searching; deep = s.0.deep; room = (let l : d ≤ arena.depth = h.room in omega (arith, turn.depth)) },
          s.1,
        )
    turned_by (fate.Closed w) n shown is turn keeps = gone (fate.Closed w) (λ other e c. e) refl turn.size turn.depth (let_go n is turn) shown keeps
    turned_by (fate.Dropped w) n shown is turn keeps = gone (fate.Dropped w) (λ other e c. e) refl turn.size turn.depth (let_go n is turn) shown keeps
    turned_by (fate.Low k) n shown is turn keeps = gone (fate.Low k) (λ other e c. e) refl turn.size turn.depth (kept_top n is turn) shown keeps
    turned_by (fate.AtLimit w) n shown is turn keeps = gone (fate.AtLimit w) (λ other e c. e) refl turn.size turn.depth (kept_top n is turn) shown keeps
    turned_by (fate.Wide w at) n shown is turn keeps = gone (fate.Wide w at) (λ other e c. e) refl turn.size turn.depth (kept_top n is turn) shown keeps

    pub loop_opens : (n : Next) → IsShownNext m cone d lower n → IsOpenTurnOf m lower arena n keys' after keys'' fresh' → IsNextKept m d lower cone n kept kept'
        → Turned
    loop_opens n (f, shown, is) turn keeps = turned_by f n shown is turn (keeps f is)

-- a top that may be turned may be split so
pub may_open : (a : ShownArena) (f : Fate) (n : Next) → IsNextOf f n → MayTurn a f → MayOpen a n
may_open a f Gone is may = tt
may_open a f Kept is may = tt
may_open a (fate.Split i j w) (Split x y) (ei, ej) may =
    subst (λ (k : ℕ). MaySplit a k y × TopFits a k y) ei (subst (λ (k : ℕ). MaySplit a i k × TopFits a i k) ej may)
may_open a (fate.Closed w) (Split x y) is may = absurd is
may_open a (fate.Dropped w) (Split x y) is may = absurd is
may_open a (fate.Low k) (Split x y) is may = absurd is
may_open a (fate.AtLimit w) (Split x y) is may = absurd is
may_open a (fate.Wide w at) (Split x y) is may = absurd is

-- a mediant that is told is a key
pub mediant_is_key : (a b : ShownArena) (i j : ℕ) (z : ℤ) (o : Opened) (xs : List ℕ) → MaySplit a i j → TopFits a i j → IsTopOpened a i j z o xs b
    → IsTrue o.attains → slice_index_or xs 0 0 ≤ 2 ^ 62
mediant_is_key a b i j z o xs may fits s t =
    let row : i - 1 < s.top.size = omega (arith, may.first, may.order, may.last, s.sized) in
    mediant_small s.top (i - 1) (j - 1) xs row (s.opening.mediant t) (fits s.top (s.rest, s.was)).first 0 (omega (arith, row))

-- an arena of whose top the open children are made is turned
pub split_opened : (m : Mode) (word : ℕ) (a b : ShownArena) (i j : ℕ) (z : ℤ) (o : Opened) (xs : List ℕ) (old keys : List (List ℕ)) (fresh : NewGenerators)
    → z ≡ bound_under m word → IsTopOpened a i j z o xs b → NotesMediant word o.attains xs old keys → fresh ≡ new_among o.made i
    → IsOpenTurnOf m word a (Split i j) old b keys fresh
split_opened m word a b i j z o xs old keys fresh bound s notes is = record {
  size = s.size;
  depth = s.depth;
  turned = λ c rest top. record {
    o = o;
    mediant = xs;
    opening = subst (λ (y : ℤ). IsOpening c (i - 1) (j - 1) y o xs) bound
        (subst (λ (d : ShownCone). IsOpening d (i - 1) (j - 1) z o xs) (same_top a.cones s.rest rest s.top c s.was top) s.opening);
    opened = subst (λ (d : ShownCone). AreOpenOn d (i - 1) (j - 1) o.made rest b.cones) (same_top a.cones s.rest rest s.top c s.was top)
        (subst (λ (r : List ShownCone). AreOpenOn s.top (i - 1) (j - 1) o.made r b.cones) (same_rest a.cones s.rest rest s.top c s.was top) s.opened);
    notes = notes;
    fresh_is = is;
  };
}
