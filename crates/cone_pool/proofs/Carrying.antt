-- A worker's part goes along with what a step leaves as it was.
use Rattle.std.proofs.Common.{◌≡◌, ℕ, ◌+◌, ◌≤◌, List, [], ◌∷◌, ◌++◌, length, ap, ◌∙◌, sym, subst, arith, length-append}
use Rattle.unimodular_cone.specs.declared.Mode.{Mode}
use Rattle.unimodular_cone.specs.Shown.{ShownCone}
use Rattle.unimodular_cone.specs.Paths.{Path}
use Rattle.unimodular_cone.specs.Cones.{Matrix}
use Rattle.search_core.specs.declared.Judged.{Judged}
use Rattle.search_core.specs.Machine.{times, paths, below_splits}
use Rattle.search_core.proofs.Times.{times-append, times_none}
use Rattle.bound_word.specs.Seats.{Seat}
use Rattle.cone_pool.specs.Keeping.{Judgements, IsSameList}
use Rattle.cone_pool.specs.Parts.{Member, given_to, AreJudgedAt, AreCones, IsWorkerPart, TakesOnly}
use Rattle.cone_pool.proofs.SeatJudgements.{same_judged}

module _ (m : Mode) (n : ℕ) (q : Matrix) (d : ℕ) where
  pub took : (taken : List Path) (w v : Member) → length taken ≤ 2 → w.kept ≡ [] → IsWorkerPart m n q d [] w → TakesOnly taken w v
      → IsWorkerPart m n q d taken v
  took taken w v few none part h = record {
    counts = λ p.
        let a = part.counts p in
        let b = h.counts p in
        let c : times p v.lot.put ≡ times p w.lot.put = ap (times p) h.put in
        let e : times p (paths v.judged.items) ≡ times p (paths w.judged.items) = ap (λ (j : Judgements). times p (paths j.items)) h.judged in
        let f : times p (below_splits v.judged.items) ≡ times p (below_splits w.judged.items) =
        ap (λ (j : Judgements). times p (below_splits j.items)) h.judged in
        let g : times p v.kept ≡ times p w.kept = ap (times p) h.kept in
        let i : times p (given_to v.number) ≡ times p (given_to w.number) = ap (λ (k : ℕ). times p (given_to k)) h.same.number in
        omega (arith, times_none p);
    judged = subst (λ (s : Seat). AreJudgedAt m n q d s v.judged) (sym h.seat)
        (subst (AreJudgedAt m n q d w.seat) (sym h.judged) part.judged);
    cones = subst (λ (l : List ShownCone). AreCones n q d l) (sym h.cones) part.cones;
    room = (let k : length v.kept ≡ 0 = ap length h.kept ∙ ap length none in omega arith);
  }

  abbrev pub with_judged : Member → Judgements → Member
  with_judged w judged = record { number = w.number; lot = w.lot; seat = w.seat; judged = judged; kept = w.kept; cones = w.cones }

  pub reserved : (hand : List Path) (w : Member) (judged : Judgements) → IsSameList w.judged judged → IsWorkerPart m n q d hand w
      → IsWorkerPart m n q d hand (with_judged w judged)
  reserved hand w judged same part = record {
    counts = λ p.
        let a = part.counts p in
        let b : times p (paths judged.items) ≡ times p (paths w.judged.items) = ap (λ (l : List Judged). times p (paths l)) same.items in
        let c : times p (below_splits judged.items) ≡ times p (below_splits w.judged.items) = ap (λ (l : List Judged). times p (below_splits l)) same.items in
        omega arith;
    judged = same_judged m n q d w.seat w.judged judged same part.judged;
    cones = part.cones;
    room = part.room;
  }

  abbrev pub with_cones : Member → List ShownCone → Member
  with_cones w cones = record { number = w.number; lot = w.lot; seat = w.seat; judged = w.judged; kept = w.kept; cones = cones }

  pub restacked : (hand : List Path) (w : Member) (cones : List ShownCone) → AreCones n q d cones → IsWorkerPart m n q d hand w
      → IsWorkerPart m n q d hand (with_cones w cones)
  restacked hand w cones each part = record { counts = part.counts; judged = part.judged; cones = each; room = part.room }

  abbrev pub with_kept : Member → List Path → Seat → Member
  with_kept w kept seat = record { number = w.number; lot = w.lot; seat = seat; judged = w.judged; kept = kept; cones = w.cones }

  pub kept_it : (path : Path) (w : Member) (kept : List Path) (seat : Seat) → kept ≡ w.kept ++ path ∷ [] → seat ≡ w.seat
      → IsWorkerPart m n q d (path ∷ []) w → IsWorkerPart m n q d [] (with_kept w kept seat)
  kept_it path w kept seat e same part = subst (λ (s : Seat). IsWorkerPart m n q d [] (with_kept w kept s)) (sym same) record {
    counts = λ p.
        let a = part.counts p in
        let b : times p kept ≡ times p (w.kept ++ path ∷ []) = ap (times p) e in
        omega (arith, times-append p w.kept (path ∷ []), times_none p);
    judged = part.judged;
    cones = part.cones;
    room =
        let a = part.room in
        let b : length kept ≡ length w.kept + 1 = ap length e ∙ length-append w.kept (path ∷ []) in
        omega arith;
  }

  abbrev pub seated : Member → Seat → Member
  seated w seat = record { number = w.number; lot = w.lot; seat = seat; judged = w.judged; kept = w.kept; cones = w.cones }

  pub reseated : (hand : List Path) (w : Member) (seat : Seat) → seat ≡ w.seat → IsWorkerPart m n q d hand w → IsWorkerPart m n q d hand (seated w seat)
  reseated hand w seat e part = subst (λ (s : Seat). IsWorkerPart m n q d hand (seated w s)) (sym e) part
