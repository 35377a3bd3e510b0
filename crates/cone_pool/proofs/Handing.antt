-- Passes are handed out, and come back: what a list of lots keeps.
use Rattle.std.proofs.Common.{◌≡◌, ℕ, zero, suc, ◌+◌, ◌-◌, ◌<◌, List, [], ◌∷◌, ◌++◌, length, map, take, slice_set, slice_index_or, refl, sym, ap, ap₂, ◌∙◌}
use Rattle.std.proofs.Common.{subst, arith}
use Rattle.unimodular_cone.specs.Paths.{Path}
use Rattle.search_core.specs.Machine.{times}
use Rattle.search_core.proofs.Times.{times-append, times_none}
use Rattle.cone_pool.specs.Lots.{Deque, Token, Lot, new_token, lot_with_one_out, lot_holding, token_on, lot_deque, absorbed_all, deque_of, token_taken}
use Rattle.cone_pool.proofs.Crewing.{add_one, map_keep, map_head, map_tail, map_shorter, map_longer}
use Rattle.std.proofs.lemmas.List.{map-set}
use Rattle.cone_pool.specs.Crews.{LotCore, core_of_lot, AreHanded, AreLent, total_taken, total_put}

-- ---- handed out
pub forks_all : (ts : List Token) (k o : ℕ) (lots : List Lot) → AreHanded ts k o lots → AreHanded ts k (o + 1) (map lot_with_one_out lots)
forks_all ts k o [] h = tt {0}
forks_all ts zero o (s ∷ ss) (e, f, h) = (ap (λ (x : ℕ). x + 1) e, f, forks_all ts zero o ss h)
forks_all ts (suc k) o (s ∷ ss) (e, f, h) = (ap (λ (x : ℕ). x + 1) e, f, forks_all ts k o ss h)

pub holds_next : (ts : List Token) (k o : ℕ) (lots : List Lot) (x : Lot) → k < length lots → x ≡ slice_index_or lots k x → AreHanded ts k o lots
    → AreHanded ts (suc k) o (slice_set lots k (lot_holding ts x))
holds_next ts k o [] x l is h = tt {0}
holds_next ts zero o (s ∷ ss) x l is (e, f, h) = (ap (λ (y : Lot). y.out) is ∙ e, refl, h)
holds_next ts (suc k) o (s ∷ ss) x l is (e, f, h) = (e, f, holds_next ts k o ss x (omega arith) is h)

pub cores_forked : (lots : List Lot) → map core_of_lot (map lot_with_one_out lots) ≡ map core_of_lot lots
cores_forked [] = refl
cores_forked (s ∷ ss) = ap (λ (r : List LotCore). core_of_lot s ∷ r) (cores_forked ss)

pub tokens_by_core : (a b : List Lot) → map core_of_lot a ≡ map core_of_lot b → map token_on a ≡ map token_on b
tokens_by_core [] [] e = refl
tokens_by_core [] (t ∷ ts) e = absurd (map_shorter core_of_lot core_of_lot t ts e)
tokens_by_core (s ∷ ss) [] e = absurd (map_longer core_of_lot core_of_lot s ss e)
tokens_by_core (s ∷ ss) (t ∷ ts) e =
    let d : core_of_lot s ≡ core_of_lot t = map_head core_of_lot core_of_lot s ss t ts e in
    ap₂ (λ (a : Token) (r : List Token). a ∷ r) (ap (λ (c : LotCore). new_token c.deque) d)
    (tokens_by_core ss ts (map_tail core_of_lot core_of_lot s ss t ts e))

pub deques_by_core : (a b : List Lot) → map core_of_lot a ≡ map core_of_lot b → map lot_deque a ≡ map lot_deque b
deques_by_core [] [] e = refl
deques_by_core [] (t ∷ ts) e = absurd (map_shorter core_of_lot core_of_lot t ts e)
deques_by_core (s ∷ ss) [] e = absurd (map_longer core_of_lot core_of_lot s ss e)
deques_by_core (s ∷ ss) (t ∷ ts) e =
    let d : core_of_lot s ≡ core_of_lot t = map_head core_of_lot core_of_lot s ss t ts e in
    ap₂ (λ (a : Deque) (r : List Deque). a ∷ r) (ap (λ (c : LotCore). c.deque) d)
    (deques_by_core ss ts (map_tail core_of_lot core_of_lot s ss t ts e))

pub deques_of_tokens : (lots : List Lot) → map deque_of (map token_on lots) ≡ map lot_deque lots
deques_of_tokens [] = refl
deques_of_tokens (s ∷ ss) = ap (λ (r : List Deque). lot_deque s ∷ r) (deques_of_tokens ss)

pub nothing_taken : (p : Path) (lots : List Lot) → token_taken p (map token_on lots) ≡ 0
nothing_taken p [] = refl
nothing_taken p (s ∷ ss) = let h = nothing_taken p ss in let z : times p [] ≡ 0 = times_none p in omega arith

pub deques_next : (lots : List Lot) (k : ℕ) (x : Lot) → k < length lots → x ≡ slice_index_or lots k x
    → map lot_deque (take k lots) ++ x.deque ∷ [] ≡ map lot_deque (take (suc k) lots)
deques_next [] k x l is = absurd (omega arith)
deques_next (s ∷ ss) zero x l is = ap (λ (y : Lot). lot_deque y ∷ []) is
deques_next (s ∷ ss) (suc k) x l is = ap (λ (r : List Deque). lot_deque s ∷ r) (deques_next ss k x (omega arith) is)

-- ---- taken back
pub lent_at : (ds : List Deque) (k o : ℕ) (lots : List Lot) (x : Lot) → k < length lots → x ≡ slice_index_or lots k x → AreLent ds k o lots
    → map deque_of x.tokens ≡ ds
lent_at ds k o [] x l is h = absurd (omega arith)
lent_at ds zero o (s ∷ ss) x l is (e, f, h) = ap (λ (y : Lot). map deque_of y.tokens) is ∙ f
lent_at ds (suc k) o (s ∷ ss) x l is (e, f, h) = lent_at ds k o ss x (omega arith) is h

pub releases : (ds : List Deque) (k o : ℕ) (lots : List Lot) (x : Lot) → k < length lots → x ≡ slice_index_or lots k x → AreLent ds k o lots
    → AreLent ds (suc k) o (slice_set lots k (lot_holding [] x))
releases ds k o [] x l is h = tt {0}
releases ds zero o (s ∷ ss) x l is (e, f, h) = (ap (λ (y : Lot). y.out) is ∙ e, refl, h)
releases ds (suc k) o (s ∷ ss) x l is (e, f, h) = (e, f, releases ds k o ss x (omega arith) is h)

pub absorbs_all : (ds : List Deque) (ts : List Token) (k o : ℕ) (lots : List Lot) → map deque_of ts ≡ map lot_deque lots → AreLent ds k o lots
    → AreLent ds k (o - 1) (absorbed_all ts lots)
absorbs_all ds [] k o [] e h = tt {0}
absorbs_all ds [] k o (s ∷ ss) e h = absurd (map_shorter deque_of lot_deque s ss e)
absorbs_all ds (t ∷ ts) k o [] e h = absurd (map_longer deque_of lot_deque t ts e)
absorbs_all ds (t ∷ ts) zero o (s ∷ ss) e (f, g, h) = (ap (λ (x : ℕ). x - 1) f, g, absorbs_all ds ts zero o ss (map_tail deque_of lot_deque t ts s ss e) h)
absorbs_all ds (t ∷ ts) (suc k) o (s ∷ ss) e (f, g, h) = (ap (λ (x : ℕ). x - 1) f, g, absorbs_all ds ts k o ss (map_tail deque_of lot_deque t ts s ss e) h)

pub same_deques : (ts : List Token) (lots : List Lot) → map deque_of ts ≡ map lot_deque lots → map lot_deque (absorbed_all ts lots) ≡ map lot_deque lots
same_deques [] lots e = refl
same_deques (t ∷ ts) [] e = refl
same_deques (t ∷ ts) (s ∷ ss) e = ap (λ (r : List Deque). lot_deque s ∷ r)
    (same_deques ts ss (map_tail deque_of lot_deque t ts s ss e))

pub absorbed_taken : (p : Path) (ts : List Token) (lots : List Lot) → map deque_of ts ≡ map lot_deque lots
    → total_taken p (absorbed_all ts lots) ≡ token_taken p ts + total_taken p lots
absorbed_taken p [] lots e = omega arith
absorbed_taken p (t ∷ ts) [] e = absurd (map_longer deque_of lot_deque t ts e)
absorbed_taken p (t ∷ ts) (s ∷ ss) e =
    let h = absorbed_taken p ts ss (map_tail deque_of lot_deque t ts s ss e) in
    omega (arith, times-append p s.popped t.taken)

pub absorbed_put : (p : Path) (ts : List Token) (lots : List Lot) → map deque_of ts ≡ map lot_deque lots → total_put p (absorbed_all ts lots) ≡ total_put p lots
absorbed_put p [] lots e = refl
absorbed_put p (t ∷ ts) [] e = refl
absorbed_put p (t ∷ ts) (s ∷ ss) e =
    let h = absorbed_put p ts ss (map_tail deque_of lot_deque t ts s ss e) in
    omega arith

pub released_deques : (lots : List Lot) (k : ℕ) (x : Lot) → k < length lots → x ≡ slice_index_or lots k x
    → map lot_deque (slice_set lots k (lot_holding [] x)) ≡ map lot_deque lots
released_deques [] k x l is = refl
released_deques (s ∷ ss) zero x l is = ap (λ (y : Lot). lot_deque y ∷ map lot_deque ss) is
released_deques (s ∷ ss) (suc k) x l is = ap (λ (r : List Deque). lot_deque s ∷ r) (released_deques ss k x (omega arith) is)

pub released_taken : (p : Path) (lots : List Lot) (k : ℕ) (x : Lot) → k < length lots → x ≡ slice_index_or lots k x
    → token_taken p x.tokens + total_taken p (slice_set lots k (lot_holding [] x)) ≡ total_taken p lots
released_taken p [] k x l is = absurd (omega arith)
released_taken p (s ∷ ss) zero x l is =
    let a : times p x.popped ≡ times p s.popped = ap (λ (y : Lot). times p y.popped) is in
    let b : token_taken p x.tokens ≡ token_taken p s.tokens = ap (λ (y : Lot). token_taken p y.tokens) is in
    omega arith
released_taken p (s ∷ ss) (suc k) x l is = let h = released_taken p ss k x (omega arith) is in omega arith

pub released_put : (p : Path) (lots : List Lot) (k : ℕ) (x : Lot) → k < length lots → x ≡ slice_index_or lots k x
    → total_put p (slice_set lots k (lot_holding [] x)) ≡ total_put p lots
released_put p [] k x l is = refl
released_put p (s ∷ ss) zero x l is = let a : times p x.put ≡ times p s.put = ap (λ (y : Lot). times p y.put) is in omega arith
released_put p (s ∷ ss) (suc k) x l is = let h = released_put p ss k x (omega arith) is in omega arith

-- ---- the steps of the loops, on lists of lots
pub none_handed : (ts us : List Token) (o : ℕ) (lots : List Lot) → AreHanded ts 0 o lots → AreHanded us 0 o lots
none_handed ts us o [] h = tt {0}
none_handed ts us o (s ∷ ss) (e, f, h) = (e, f, none_handed ts us o ss h)

-- all lots are forked, and the k-th holds the tokens
pub hands_on : (lots now forked : List Lot) (k : ℕ) (x y : Lot) (ts : List Token) → AreHanded (map token_on lots) k k now
    → map core_of_lot now ≡ map core_of_lot lots → forked ≡ map lot_with_one_out now → ts ≡ map token_on now
    → k < length forked → x ≡ slice_index_or forked k x → y ≡ lot_holding ts x
    → AreHanded (map token_on lots) (k + 1) (k + 1) (slice_set forked k y) × (map core_of_lot (slice_set forked k y) ≡ map core_of_lot lots)
hands_on lots now forked k x y ts h cores f t l is made =
    let same : ts ≡ map token_on lots = t ∙ tokens_by_core now lots cores in
    let a : AreHanded (map token_on lots) k (k + 1) forked =
    subst (AreHanded (map token_on lots) k (k + 1)) (sym f) (forks_all (map token_on lots) k k now h) in
    let b = holds_next (map token_on lots) k (k + 1) forked x l is a in
    let e : lot_holding (map token_on lots) x ≡ y = ap (λ (z : List Token). lot_holding z x) (sym same) ∙ sym made in (
      subst (λ (z : Lot). AreHanded (map token_on lots) (k + 1) (k + 1) (slice_set forked k z)) e
          (subst (λ (j : ℕ). AreHanded (map token_on lots) j (k + 1) (slice_set forked k (lot_holding (map token_on lots) x))) (add_one k) b),
      map-set core_of_lot forked k y ∙ (kept forked k x y l is (ap core_of_lot made)) ∙ ap (map core_of_lot) f ∙ cores_forked now ∙ cores,
    )
  where
    kept : (forked : List Lot) (k : ℕ) (x y : Lot) → k < length forked → x ≡ slice_index_or forked k x → core_of_lot y ≡ core_of_lot x
        → slice_set (map core_of_lot forked) k (core_of_lot y) ≡ map core_of_lot forked
    kept forked k x y l is e = sym (map-set core_of_lot forked k y) ∙ map_keep core_of_lot forked k x y l is e

-- the k-th lot gives up its tokens, and each comes back to its deque
pub record IsBack (ds : List Deque) (k o : ℕ) (now back : List Lot) : Type 0 where
  pub lots : AreLent ds (k + 1) (o - 1) back
  pub deques : map lot_deque back ≡ map lot_deque now
  pub taken : (p : Path) → total_taken p back ≡ total_taken p now
  pub put : (p : Path) → total_put p back ≡ total_put p now

pub tokens_fit : (ds : List Deque) (now : List Lot) (k o : ℕ) (x y : Lot) (ts : List Token) → AreLent ds k o now → map lot_deque now ≡ ds → k < length now
    → x ≡ slice_index_or now k x → y ≡ lot_holding [] x → ts ≡ x.tokens
    → map deque_of ts ≡ map lot_deque (slice_set now k y)
tokens_fit ds now k o x y ts h deques l is made t =
    ap (map deque_of) t ∙ lent_at ds k o now x l is h ∙ sym deques ∙ sym (released_deques now k x l is) ∙ ap (λ (z : Lot). map lot_deque (slice_set now k z))
    (sym made)

pub comes_back : (ds : List Deque) (now back : List Lot) (k o : ℕ) (x y : Lot) (ts : List Token) → AreLent ds k o now → map lot_deque now ≡ ds
    → k < length now → x ≡ slice_index_or now k x → y ≡ lot_holding [] x → ts ≡ x.tokens
    → back ≡ absorbed_all ts (slice_set now k y) → IsBack ds k o now back
comes_back ds now back k o x y ts h deques l is made t b =
    let fit = tokens_fit ds now k o x y ts h deques l is made t in
    let freed : slice_set now k y ≡ slice_set now k (lot_holding [] x) = ap (slice_set now k) made in
    let a : AreLent ds (suc k) o (slice_set now k y) = subst (AreLent ds (suc k) o) (sym freed) (releases ds k o now x l is h) in
    record {
      lots = subst (AreLent ds (k + 1) (o - 1)) (sym b)
          (subst (λ (j : ℕ). AreLent ds j (o - 1) (absorbed_all ts (slice_set now k y))) (add_one k) (absorbs_all ds ts (suc k) o (slice_set now k y) fit a));
      deques = ap (map lot_deque) b ∙ same_deques ts (slice_set now k y) fit ∙ ap (map lot_deque) freed ∙ released_deques now k x l is;
      taken = λ p.
          let e : total_taken p back ≡ total_taken p (absorbed_all ts (slice_set now k y)) = ap (total_taken p) b in
          let f = absorbed_taken p ts (slice_set now k y) fit in
          let g : total_taken p (slice_set now k y) ≡ total_taken p (slice_set now k (lot_holding [] x)) = ap (total_taken p) freed in
          let i : token_taken p ts ≡ token_taken p x.tokens = ap (token_taken p) t in
          let j = released_taken p now k x l is in
          omega arith;
      put = λ p.
          ap (total_put p) b ∙ absorbed_put p ts (slice_set now k y) fit ∙ ap (total_put p) freed ∙ released_put p now k x l is;
    }
