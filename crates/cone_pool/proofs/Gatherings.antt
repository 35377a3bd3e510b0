-- Workers that are taken over one by one, and the end.
use Rattle.std.proofs.Common.{◌≡◌, ℕ, ◌+◌, ◌-◌, List, [], ◌∷◌, ◌++◌, length, map, refl, sym, ap, ◌∙◌, subst, arith, length-append}
use Rattle.std.specs.List.{Contains}
use Rattle.std.proofs.lemmas.List.Elements.{Contains-append_left, Contains-push}
use Rattle.unimodular_cone.specs.declared.Mode.{Mode}
use Rattle.unimodular_cone.specs.Paths.{Path}
use Rattle.unimodular_cone.specs.Cones.{Matrix}
use Rattle.search_core.specs.Machine.{times, paths, below_splits, due}
use Rattle.search_core.proofs.Times.{times_cons, times_none}
use Rattle.unimodular_cone.specs.Shown.{ShownCone}
use Rattle.bound_word.specs.Seats.{TableId, Seat}
use Rattle.cone_pool.specs.Lots.{Token, IsEmptied, token_taken, deque_of}
use Rattle.cone_pool.specs.Parts.{Member, given_to, times_handled, times_found, total_found, total_handled, AreCones, IsWorkerPart, IsMerged, IsReturned}
use Rattle.cone_pool.specs.Parts.{HasGathered}
use Rattle.cone_pool.proofs.SeatJudgements.{both_judged}

total_found-snoc : (p : Path) (ws : List Member) (w : Member) → total_found p (ws ++ w ∷ []) ≡ total_found p ws + times_found p w
total_found-snoc p [] w = omega arith
total_found-snoc p (v ∷ ws) w = let h = total_found-snoc p ws w in omega arith

total_handled-snoc : (p : Path) (ws : List Member) (w : Member) → total_handled p (ws ++ w ∷ []) ≡ total_handled p ws + times_handled p w
total_handled-snoc p [] w = omega arith
total_handled-snoc p (v ∷ ws) w = let h = total_handled-snoc p ws w in omega arith

module _ (m : Mode) (n : ℕ) (q : Matrix) (d : ℕ) where
  pub gathers : (table : TableId) (all rest : List Member) (w old new : Member) → all ≡ rest ++ w ∷ [] → IsReturned m n q d table w
      → w.judged.whole ≡ old.judged.whole → HasGathered m n q d table all old → IsMerged w old new → HasGathered m n q d table rest new
  gathers table all rest w old new split back alike h g = record {
    counts = λ p.
        let a = h.counts p in
        let b = g.counts p in
        let c : total_found p all ≡ total_found p (rest ++ w ∷ []) = ap (total_found p) split in
        let e : total_handled p all ≡ total_handled p (rest ++ w ∷ []) = ap (total_handled p) split in
        omega (arith, total_found-snoc p rest w, total_handled-snoc p rest w);
    judged = both_judged m n q d old.seat w.seat new.seat old.judged w.judged new.judged g.seat alike g.judged h.judged back.judged;
    cones = subst (λ (l : List ShownCone). AreCones n q d l) (sym g.cones) h.cones;
    none = g.kept ∙ h.none;
    number = g.number ∙ h.number;
    table_is = ap (λ (s : Seat). s.table) g.seat ∙ h.table_is;
    first = ap (λ (s : Seat). s.first) g.seat ∙ h.first;
    seats =
        let a : new.seat.out ≡ old.seat.out - 1 = ap (λ (s : Seat). s.out) g.seat in
        let b : length all ≡ length rest + 1 = ap length split ∙ length-append rest (w ∷ []) in
        let c = h.seats in
        omega arith;
    out = g.out ∙ h.out;
    tokens = g.tokens ∙ h.tokens;
  }

  pub part_of : (table : TableId) (w : Member) → HasGathered m n q d table [] w → IsWorkerPart m n q d [] w
  part_of table w h = record {
    counts = λ p. (let a = h.counts p in let z = times_none p in omega arith);
    judged = h.judged;
    cones = h.cones;
    room = (let a : length w.kept ≡ 0 = ap length h.none in omega arith);
  }

  pub all_judged : (w : Member) → IsWorkerPart m n q d [] w → w.number ≡ 1 → w.lot.tokens ≡ [] → w.lot.out ≡ 0 → IsEmptied w.lot → w.kept ≡ [] → (p : Path)
      → times p (paths w.judged.items) ≡ times p (due w.judged.items)
  all_judged w part number tokens out empty none p =
      let a = part.counts p in
      let b = empty out p in
      let c : times p (given_to w.number) ≡ times p ([] ∷ []) = ap (λ (k : ℕ). times p (given_to k)) number in
      let e : token_taken p w.lot.tokens ≡ 0 = ap (token_taken p) tokens in
      let f : times p w.kept ≡ times p [] = ap (times p) none in
      let z = times_none p in
      omega (arith, times_cons p [] (below_splits w.judged.items))

pub no_tokens : (ts : List Token) → map deque_of ts ≡ [] → ts ≡ []
no_tokens [] e = refl
no_tokens (t ∷ ts) e = absurd (let f : deque_of t ∷ map deque_of ts ≡ [] = e in (cc))

pub last_in : (all rest : List Member) (w : Member) → all ≡ rest ++ w ∷ [] → Contains all w
last_in all rest w e = subst (λ (l : List Member). Contains l w) (sym e) (Contains-push rest w)

pub rest_in : (all rest : List Member) (w : Member) → all ≡ rest ++ w ∷ [] → (v : Member) → Contains rest v → Contains all v
rest_in all rest w e v c = subst (λ (l : List Member). Contains l v) (sym e) (Contains-append_left rest (w ∷ []) v c)

pub no_members : (ws : List Member) → length ws ≡ 0 → ws ≡ []
no_members [] e = refl
no_members (w ∷ ws) e = absurd (omega arith)
