-- Paths that go from one deque to another, and workers that are taken over.
use Rattle.std.proofs.Common.{◌≡◌, ◌+◌, List, [], ◌∷◌, ◌++◌, refl, sym, ap, ◌∙◌, subst, arith}
use Rattle.unimodular_cone.specs.Paths.{Path}
use Rattle.search_core.specs.declared.Judged.{Judged}
use Rattle.bound_word.specs.Seats.{Seat, joined_seat}
use Rattle.search_core.specs.Machine.{times, paths, below_splits}
use Rattle.search_core.proofs.Times.{times-append, times_none, times_below_append, times_paths_append}
use Rattle.cone_pool.specs.Lots.{Lot, IsPushed, IsPopped, IsEmptied, token_taken}
use Rattle.cone_pool.specs.Keeping.{Judgements, IsAppended}
use Rattle.cone_pool.specs.Parts.{Member, IsSafe, IsDrained, IsMerged}

-- from a to b, and from s to t
pub record IsDraining (a s b t : Lot) : Type 0 where
  pub put : b.put ≡ a.put
  pub none_out : b.out ≡ 0
  pub counts : (p : Path) → times p t.put + times p a.popped ≡ times p s.put + times p b.popped
  pub deque : t.deque ≡ s.deque
  pub popped : t.popped ≡ s.popped
  pub out : t.out ≡ s.out
  pub tokens : t.tokens ≡ s.tokens

pub drain_starts : (a s : Lot) → a.out ≡ 0 → IsDraining a s a s
drain_starts a s none = record { put = refl; none_out = none; counts = λ p. omega arith; deque = refl; popped = refl; out = refl; tokens = refl }

pub drains : (a s b t c u : Lot) (path : Path) → IsDraining a s b t → IsPopped path b c → IsPushed path t u → IsDraining a s c u
drains a s b t c u path h taken put = subst (λ (x : Lot). IsDraining a s x u) (sym taken)
    (subst (λ (y : Lot). IsDraining a s record { deque = b.deque; put = b.put; popped = b.popped ++ path ∷ []; out = b.out; tokens = b.tokens } y)
    (sym put) record {
      put = h.put;
      none_out = h.none_out;
      counts = λ p. (let e = h.counts p in omega (arith, times-append p t.put (path ∷ []), times-append p b.popped (path ∷ [])));
      deque = h.deque;
      popped = h.popped;
      out = h.out;
      tokens = h.tokens;
    })

pub drained : (a s b t : Lot) → IsDraining a s b t → IsEmptied b → IsDrained a s t
drained a s b t h empty = record {
  counts = λ p. (let e = h.counts p in let f = empty h.none_out p in let g : times p b.put ≡ times p a.put = ap (times p) h.put in omega arith);
  deque = h.deque;
  popped = h.popped;
  out = h.out;
  tokens = h.tokens;
}

pub record IsUnkept (k : List Path) (s : Lot) (l : List Path) (t : Lot) : Type 0 where
  pub counts : (p : Path) → times p t.put + times p l ≡ times p s.put + times p k
  pub deque : t.deque ≡ s.deque
  pub popped : t.popped ≡ s.popped
  pub out : t.out ≡ s.out
  pub tokens : t.tokens ≡ s.tokens

pub unkeep_starts : (k : List Path) (s : Lot) → IsUnkept k s k s
unkeep_starts k s = record { counts = λ p. refl; deque = refl; popped = refl; out = refl; tokens = refl }

pub unkeeps : (k : List Path) (s : Lot) (l m : List Path) (t u : Lot) (path : Path) → IsUnkept k s l t → l ≡ m ++ path ∷ [] → IsPushed path t u
    → IsUnkept k s m u
unkeeps k s l m t u path h is put = subst (λ (y : Lot). IsUnkept k s m y) (sym put) record {
  counts = λ p.
      let e = h.counts p in
      let f : times p l ≡ times p (m ++ path ∷ []) = ap (times p) is in
      omega (arith, times-append p t.put (path ∷ []), times-append p m (path ∷ []));
  deque = h.deque;
  popped = h.popped;
  out = h.out;
  tokens = h.tokens;
}

pub unkept : (k : List Path) (s t : Lot) (l : List Path) → IsUnkept k s l t → l ≡ [] → IsSafe k s [] t []
unkept k s t l h none = record {
  counts = λ p. (let e = h.counts p in let f : times p l ≡ times p [] = ap (times p) none in let g = times_none p in omega arith);
  deque = h.deque;
  popped = h.popped;
  out = h.out;
  tokens = h.tokens;
  few = omega arith;
}

abbrev pub after_merge : Member → Lot → Seat → Judgements → Member
after_merge w lot seat judged = record { number = w.number; lot = lot; seat = seat; judged = judged; kept = w.kept; cones = w.cones }

pub merged : (w chief : Member) (t u : Lot) (seat : Seat) (judged : Judgements) → IsDrained w.lot chief.lot t → IsSafe w.kept t [] u []
    → IsAppended w.judged chief.judged judged → seat ≡ joined_seat chief.seat w.seat → w.lot.tokens ≡ []
    → IsMerged w chief (after_merge chief u seat judged)
merged w chief t u seat judged h g both sat none = record {
  counts = λ p.
      let a = h.counts p in
      let b = g.counts p in
      let c : times p (paths judged.items) ≡ times p (paths (chief.judged.items ++ w.judged.items)) = ap (λ (l : List Judged). times p (paths l)) both.items in
      let e : times p (below_splits judged.items) ≡ times p (below_splits (chief.judged.items ++ w.judged.items)) =
      ap (λ (l : List Judged). times p (below_splits l)) both.items in
      let f : token_taken p w.lot.tokens ≡ 0 = ap (token_taken p) none in
      let k : times p u.popped ≡ times p chief.lot.popped = ap (times p) (g.popped ∙ h.popped) in
      let l : token_taken p u.tokens ≡ token_taken p chief.lot.tokens = ap (token_taken p) (g.tokens ∙ h.tokens) in
      let z = times_none p in
      omega (arith, times_paths_append p chief.judged.items w.judged.items, times_below_append p chief.judged.items w.judged.items);
  judged = both;
  seat = sat;
  number = refl;
  deque = g.deque ∙ h.deque;
  out = g.out ∙ h.out;
  tokens = g.tokens ∙ h.tokens;
  kept = refl;
  cones = refl;
}
