-- The loop of a search depth first: what holds from turn to turn, over an arena of either kind of cones, which may stand above others.
use Rattle.std.specs.Prelude.{◌≡◌, ℕ, ◌<◌, ◌≤◌, min, List, [], ◌∷◌, ◌++◌, length}
use Rattle.std.proofs.Common.{arith, sym, ◌∙◌, ap, subst, append_assoc}
use Rattle.std.proofs.lemmas.List.{append-nil}
use Rattle.exact_forms.proofs.Lists.{top_in}
use Rattle.symmetric_matrix.specs.Symmetric.{Symmetric, entry}
use Rattle.unimodular_cone.specs.declared.Mode.{Mode}
use Rattle.unimodular_cone.specs.Narrow.{HasShallowCoordinates}
use Rattle.unimodular_cone.specs.Shown.{ShownCone}
use Rattle.unimodular_cone.proofs.ShallowCoordinates.{shown_shallow}
use Rattle.cone_arena.specs.Arena.{ShownArena, IsTopOf, IsDropped}
use Rattle.search_core.specs.declared.Fate.{Fate}
use Rattle.search_core.specs.declared.Fate.TheVariants.{Closed, Split, Low, Dropped, AtLimit, Wide}
use Rattle.search_core.specs.declared.Judged.{Judged}
use Rattle.search_core.specs.declared.NewGenerators.{NewGenerators}
use Rattle.search_core.specs.declared.NewGenerators.TheVariants.{Each}
use Rattle.search_core.specs.Fair.{start_word}
use Rattle.search_core.specs.Judging.{shown_code, IsShownFate}
use Rattle.search_core.specs.Kept.{IsConeKept}
use Rattle.search_core.specs.Noting.{NamesNew, new_after, AddsToNoted, IsFairNoted}
use Rattle.search_core.specs.Lowering.{HasOthersOver}
use Rattle.serial_search.specs.Turns.{IsOnTop, AreStacked, MayTurn, IsTurnOf, IsRootAlone}
use Rattle.serial_search.proofs.Tops.{AreDeep, may_turn, dropped_is, deep_front, deep_turned}
use Rattle.serial_search.specs.Searching.{IsSearching, IsOne}
use Rattle.serial_search.proofs.Stacks.{cones_left, fewer_above, fewer_gone, search_starts, search_step, search_ends, top_within, top_named, top_others}

-- the arena's cones stand above others
pub record IsSearchLoop (m : Mode) (q : Symmetric) (d : ℕ) (below : List ShownCone) (arena : ShownArena) (word : ℕ) (fresh : NewGenerators)
    (kept : List Judged) (keys : List (List ℕ)) : Type 0 where
  pub searching : IsSearching m q.size (entry q) d (below ++ arena.cones) word fresh kept keys
  pub deep : AreDeep 0 arena.cones
  pub room : d ≤ arena.depth

pub loop_starts : (m : Mode) (q : Symmetric) (d : ℕ) (arena : ShownArena) → IsRootAlone q arena.cones → d ≤ arena.depth
    → IsSearchLoop m q d [] arena (start_word m q.size (entry q)) Each [] []
loop_starts m q d arena root room = record {
  searching = rw root.alone (search_starts m q.size (entry q) d root.root root.is_root);
  deep = subst (AreDeep 0) (sym root.alone) (omega arith, tt);
  room = room;
}

pub loop_starts_above : {m : Mode} {q : Symmetric} {d : ℕ} (below : List ShownCone) {arena : ShownArena} {word : ℕ} {fresh : NewGenerators}
    {kept : List Judged} {keys : List (List ℕ)} → IsOne arena.cones → d ≤ arena.depth
    → IsSearching m q.size (entry q) d (below ++ arena.cones) word fresh kept keys → IsSearchLoop m q d below arena word fresh kept keys
loop_starts_above below one room searching = record { searching = searching; deep = subst (AreDeep 0) (sym one.1) (omega arith, tt); room = room }

pub loop_ends : {m : Mode} {q : Symmetric} {d : ℕ} {arena : ShownArena} {word : ℕ} {fresh : NewGenerators} {kept : List Judged} {keys : List (List ℕ)}
    → IsSearchLoop m q d [] arena word fresh kept keys → arena.cones ≡ [] → IsFairNoted m q.size (entry q) d kept keys word
loop_ends {m} {q} {d} {arena} {word} {fresh} {kept} {keys} h empty = search_ends m q.size (entry q) d arena.cones word fresh kept keys empty h.searching

-- what is stacked on the rest is stacked on the rest above others
stacked_above : (below rest new : List ShownCone) (cone : ShownCone) (f : Fate) → AreStacked cone f rest new → AreStacked cone f (below ++ rest) (below ++ new)
stacked_above below rest new cone (Split i j w) s = record {
  second = s.second;
  first = s.first;
  is_second = s.is_second;
  is_first = s.is_first;
  stack = ap (λ (cones : List ShownCone). below ++ cones) s.stack ∙ sym (append_assoc below rest (s.second ∷ s.first ∷ []));
}
stacked_above below rest new cone (Closed w) s = ap (λ (cones : List ShownCone). below ++ cones) s
stacked_above below rest new cone (Low k) s = ap (λ (cones : List ShownCone). below ++ cones) s
stacked_above below rest new cone (Dropped w) s = ap (λ (cones : List ShownCone). below ++ cones) s
stacked_above below rest new cone (AtLimit w) s = ap (λ (cones : List ShownCone). below ++ cones) s
stacked_above below rest new cone (Wide w at) s = ap (λ (cones : List ShownCone). below ++ cones) s

-- the turn of the top
module _ {m : Mode} {q : Symmetric} {d : ℕ} {below : List ShownCone} {arena : ShownArena} {word : ℕ} {fresh : NewGenerators} {kept : List Judged}
    {keys : List (List ℕ)}
    (h : IsSearchLoop m q d below arena word fresh kept keys) (rest : List ShownCone) (cone : ShownCone) (top : IsOnTop cone rest arena.cones) where
  over : IsOnTop cone (below ++ rest) (below ++ arena.cones)
  over = ap (λ (cones : List ShownCone). below ++ cones) top ∙ sym (append_assoc below rest (cone ∷ []))

  pub loop_within : length cone.path ≤ d
  loop_within = top_within m q.size (entry q) d (below ++ arena.cones) (below ++ rest) cone word fresh kept keys h.searching over

  pub loop_named : NamesNew cone.size fresh
  loop_named = top_named m q.size (entry q) d (below ++ arena.cones) (below ++ rest) cone word fresh kept keys h.searching over

  pub loop_others : HasOthersOver m cone fresh word
  loop_others = top_others m q.size (entry q) d (below ++ arena.cones) (below ++ rest) cone word fresh kept keys h.searching over

  pub loop_shallow : HasShallowCoordinates cone
  loop_shallow = shown_shallow q.size (entry q) cone.path cone (h.searching.plain.cones cone (top_in (below ++ arena.cones) (below ++ rest) cone over)).0

  pub loop_may_turn : (lower : ℕ) (f : Fate) → cone.size ≡ arena.size → IsShownFate m cone d lower f → MayTurn arena f
  loop_may_turn lower f size shown = may_turn m arena rest cone d lower f top size h.deep h.room loop_within shown

  pub loop_turns : (lower : ℕ) (f : Fate) (next : ShownArena) (kept' : List Judged) (keys' : List (List ℕ)) → 1 ≤ q.size → d ≤ 200
      → lower ≡ min word (shown_code m cone) → IsShownFate m cone d lower f → IsTurnOf arena f next → IsConeKept m d lower cone f kept kept'
      → AddsToNoted cone fresh word lower keys keys'
      → IsSearchLoop m q d below next lower (new_after f) kept' keys' × (cones_left d next.cones < cones_left d arena.cones)
  loop_turns lower f next kept' keys' some limited lowered shown turn keeps notes =
      let stacks = turn.turned cone rest top in
      let step = search_step m q.size (entry q) d (below ++ arena.cones) (below ++ rest) (below ++ next.cones) cone word lower fresh f kept kept' keys keys'
      some limited h.searching over lowered shown (stacked_above below rest next.cones cone f stacks) keeps notes in (
        record {
          searching = step.0;
          deep = deep_turned arena.cones rest next.cones cone f h.deep top stacks;
          room = (let e : next.depth ≡ arena.depth = turn.depth in let l : d ≤ arena.depth = h.room in omega arith);
        },
        fewer_above d below next.cones arena.cones step.1,
      )

  -- the top, alone in another arena, is searched apart
  pub loop_apart : (apart : List ShownCone) → apart ≡ cone ∷ [] → IsSearching m q.size (entry q) d ((below ++ rest) ++ apart) word fresh kept keys
  loop_apart apart alone = subst (λ (cones : List ShownCone). IsSearching m q.size (entry q) d cones word fresh kept keys)
      (over ∙ ap (λ (one : List ShownCone). (below ++ rest) ++ one) (sym alone)) h.searching

  pub loop_without : (next : ShownArena) (word' : ℕ) (fresh' : NewGenerators) (kept' : List Judged) (keys' : List (List ℕ)) → IsDropped arena next
      → IsSearching m q.size (entry q) d (below ++ rest) word' fresh' kept' keys'
      → IsSearchLoop m q d below next word' fresh' kept' keys' × (cones_left d next.cones < cones_left d arena.cones)
  loop_without next word' fresh' kept' keys' dropped searching =
      let gone : next.cones ≡ rest = dropped_is arena next rest cone top dropped in (
        record {
          searching = subst (λ (cones : List ShownCone). IsSearching m q.size (entry q) d (below ++ cones) word' fresh' kept' keys') (sym gone) searching;
          deep = subst (AreDeep 0) (sym gone) (deep_front 0 rest (cone ∷ []) (subst (AreDeep 0) top h.deep));
          room = (let l : d ≤ arena.depth = h.room in let e : next.depth ≡ arena.depth = dropped.depth in omega arith);
        },
        fewer_gone d arena.cones rest next.cones cone loop_within top gone,
      )

module _ {m : Mode} {q : Symmetric} {d : ℕ} {below : List ShownCone} {arena : ShownArena} {word : ℕ} {fresh : NewGenerators} {kept : List Judged}
    {keys : List (List ℕ)}
    (h : IsSearchLoop m q d below arena word fresh kept keys) where
  pub loop_ends_above : arena.cones ≡ [] → IsSearching m q.size (entry q) d below word fresh kept keys
  loop_ends_above empty =
      subst (λ (cones : List ShownCone). IsSearching m q.size (entry q) d cones word fresh kept keys)
      (ap (λ (cones : List ShownCone). below ++ cones) empty ∙ append-nil below) h.searching

  pub loop_top_shallow : (c : ShownCone) → IsTopOf arena c → HasShallowCoordinates c
  loop_top_shallow c is = loop_shallow h is.0 c is.1
