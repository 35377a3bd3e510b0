-- A judgement keeps a worker's part.
use Rattle.std.proofs.Common.{◌≡◌, ℕ, ◌+◌, ◌-◌, ◌≤◌, List, [], ◌∷◌, ◌++◌, length, refl, sym, ap, ◌∙◌, subst, arith, slice_index_or, length-append}
use Rattle.std.specs.List.{Contains}
use Rattle.std.proofs.lemmas.List.Elements.{Contains-push}
use Rattle.unimodular_cone.specs.declared.Mode.{Mode}
use Rattle.unimodular_cone.specs.Paths.{Path}
use Rattle.unimodular_cone.specs.Cones.{Matrix, cone_at}
use Rattle.unimodular_cone.specs.Shown.{ShownCone, IsConeAt}
use Rattle.search_core.specs.declared.Fate.{Fate}
use Rattle.search_core.specs.declared.Fate.TheVariants.{Closed, Split, Low, Dropped, AtLimit, Wide}
use Rattle.search_core.specs.declared.Judged.{Judged}
use Rattle.search_core.specs.Fair.{code, word_of, least_value, IsFate, IsJudgement}
use Rattle.search_core.specs.Judging.{shown_code, IsJudgementOf}
use Rattle.search_core.specs.Machine.{children_of, times, paths, below_splits}
use Rattle.search_core.proofs.Times.{times-append, times_none, times_below_append, times_paths_append}
use Rattle.search_core.proofs.Kept.{IsOwn, own_word}
use Rattle.search_core.proofs.ShownFates.{shown_code_at, shown_least_at, fate_at}
use Rattle.bound_word.specs.Seats.{after_offer}
use Rattle.cone_pool.specs.Turns.{IsTopAt}
use Rattle.cone_pool.specs.Keeping.{Judgements, IsNoted}
use Rattle.cone_pool.specs.Parts.{Member, AreCones, IsWorkerPart}
use Rattle.cone_pool.proofs.SeatJudgements.{one_judged}
use Rattle.cone_pool.proofs.Tops.{top_read}

few_children : (path : Path) (f : Fate) → length (children_of path f) ≤ 2
few_children path (Closed w) = omega arith
few_children path (Split i j w) = omega arith
few_children path (Low k) = omega arith
few_children path (Dropped w) = omega arith
few_children path (AtLimit w) = omega arith
few_children path (Wide w at) = omega arith

-- the judgement of the cone at a path, under a word that an offer of its code was answered
its_judgement : (m : Mode) (n : ℕ) (q : Matrix) (d : ℕ) (path : Path) (c : ShownCone) (word : ℕ) (j : Judged) → 1 ≤ n → IsConeAt n q path c
    → word ≤ code m n q path
    → IsJudgementOf m c d word j → j.path ≡ path → IsJudgement m n q d word j
its_judgement m n q d path c word j some at low of j_path =
    let fate : IsFate m n q d path word j.fate = fate_at m n q d word path c j.fate at of.fate in
    let own : IsOwn m n q d word path j.fate = own_word m n q d word word path j.fate fate (omega arith) low low in
    record {
      least = of.least_is ∙ shown_least_at n q path c some at ∙ ap (λ (p : Path). least_value n q (cone_at n q p)) (sym j_path);
      fate = subst (λ (p : Path). IsFate m n q d p (word_of p j.fate) j.fate) (sym j_path) own.fate;
      above_final = subst (λ (p : Path). word ≤ word_of p j.fate) (sym j_path) own.above_final;
      below_code = subst (λ (p : Path). word_of p j.fate ≤ code m n q p) (sym j_path) own.below_code;
    }

pub judges : (m : Mode) (n : ℕ) (q : Matrix) (d : ℕ) (path : Path) (w : Member) (c : ShownCone) (offered word : ℕ) (j : Judged) (judged : Judgements) → 1 ≤ n
    → IsWorkerPart m n q d (path ∷ []) w → w.kept ≡ [] → IsConeAt n q path c → offered ≡ shown_code m c → word ≤ offered → word ≤ w.seat.told
    → IsJudgementOf m c d word j → IsNoted m word j w.judged judged
    → IsWorkerPart m n q d (children_of path j.fate)
    record { number = w.number; lot = w.lot; seat = after_offer w.seat offered word; judged = judged; kept = w.kept; cones = w.cones }
judges m n q d path w c offered word j judged some part none at is below_code below_told of noted =
    let js : List Judged = w.judged.items in
    let j_path : j.path ≡ path = of.path_is ∙ at.path_is in
    let coded : offered ≡ code m n q path = is ∙ shown_code_at m n q path c some at in
    let low : word ≤ code m n q path = subst (λ (k : ℕ). word ≤ k) coded below_code in
    let mine : IsJudgement m n q d word j = its_judgement m n q d path c word j some at low of j_path in record {
      counts = λ p.
          let a = part.counts p in
          let b : times p (paths judged.items) ≡ times p (paths (js ++ j ∷ [])) = ap (λ (l : List Judged). times p (paths l)) noted.items in
          let e : times p (below_splits judged.items) ≡ times p (below_splits (js ++ j ∷ [])) =
          ap (λ (l : List Judged). times p (below_splits l)) noted.items in
          let f : times p (j.path ∷ []) ≡ times p (path ∷ []) = ap (λ (r : Path). times p (r ∷ [])) j_path in
          let g : times p (children_of j.path j.fate) ≡ times p (children_of path j.fate) = ap (λ (r : Path). times p (children_of r j.fate)) j_path in
          let k : times p (paths (j ∷ [])) ≡ times p (j.path ∷ []) = refl in
          let l : times p (below_splits (j ∷ [])) ≡ times p (children_of j.path j.fate) + times p [] = times-append p (children_of j.path j.fate) [] in
          omega (arith, times_paths_append p js (j ∷ []), times_below_append p js (j ∷ []), times_none p);
      judged = one_judged m n q d w.seat w.judged judged offered word j part.judged mine below_told (coded ∙ ap (code m n q) (sym j_path)) noted;
      cones = part.cones;
      room = (let a = few_children path j.fate in let b : length w.kept ≡ 0 = ap length none in omega arith);
    }

-- the cone on top is the one at its path
pub at_top : (n : ℕ) (q : Matrix) (d : ℕ) (path : Path) (cones : List ShownCone) (c : ShownCone) → AreCones n q d cones → IsTopAt path cones
    → c ≡ slice_index_or cones (length cones - 1) c → IsConeAt n q path c
at_top n q d path cones c each t is =
    let many : length cones ≡ length t.rest + 1 = ap length t.is ∙ length-append t.rest (t.top ∷ []) in
    let e : c ≡ t.top = top_read cones t.rest t.top c (length cones - 1) t.is (omega arith) is in
    let there : Contains cones t.top = subst (λ (s : List ShownCone). Contains s t.top) (sym t.is) (Contains-push t.rest t.top) in
    subst (λ (p : Path). IsConeAt n q p c) t.path_is (subst (λ (k : ShownCone). IsConeAt n q t.top.path k) (sym e) (each t.top there).0)
