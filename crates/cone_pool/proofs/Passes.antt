-- Passes on all deques.
use Rattle.std.proofs.Common.{◌≡◌, ℕ, zero, suc, ◌+◌, ◌<◌, ◌≤◌, List, [], ◌∷◌, ◌++◌, length, map, take, drop, slice_set, slice_index_or, refl, sym, ap, ap₂}
use Rattle.std.proofs.Common.{◌∙◌, subst, arith, length-append, take_all}
use Rattle.cone_pool.proofs.Crewing.{add_one, map_head, map_tail, map_longer, map_many}
use Rattle.cone_pool.specs.Lots.{Token, Lot, lot_with_one_out, token_on, lot_deque, absorbed_lot, absorbed_all, deque_of}

-- the first k lots have one more pass out, and the tokens are theirs
abbrev pub forked : ℕ → List Lot → List Lot
forked k lots = map lot_with_one_out (take k lots) ++ drop k lots

fork_next : (lots : List Lot) (k : ℕ) (x : Lot) → k < length lots → x ≡ slice_index_or (forked k lots) k x
    → slice_set (forked k lots) k (lot_with_one_out x) ≡ forked (suc k) lots
fork_next [] k x l is = absurd (omega arith)
fork_next (s ∷ ss) zero x l is = ap (λ (y : Lot). lot_with_one_out y ∷ ss) is
fork_next (s ∷ ss) (suc k) x l is = ap (λ (ys : List Lot). lot_with_one_out s ∷ ys) (fork_next ss k x (omega arith) is)

pub fork_more : (lots now : List Lot) (k : ℕ) (x y : Lot) → now ≡ forked k lots → k < length now → x ≡ slice_index_or now k x → y ≡ lot_with_one_out x
    → slice_set now k y ≡ forked (k + 1) lots
fork_more lots now k x y same l is made =
    let l' : k < length (forked k lots) = subst (λ (z : List Lot). k < length z) same l in
    subst (λ (z : List Lot). slice_set z k y ≡ forked (k + 1) lots) (sym same)
    (subst (λ (z : Lot). slice_set (forked k lots) k z ≡ forked (k + 1) lots) (sym made)
    (subst (λ (m : ℕ). slice_set (forked k lots) k (lot_with_one_out x) ≡ forked m lots) (add_one k)
    (fork_next lots k x (short lots k l') (subst (λ (z : List Lot). x ≡ slice_index_or z k x) same is))))
  where
    short : (lots : List Lot) (k : ℕ) → k < length (forked k lots) → k < length lots
    short [] zero l = absurd (omega arith)
    short [] (suc k) l = absurd (omega arith)
    short (s ∷ ss) zero l = omega arith
    short (s ∷ ss) (suc k) l = let h = short ss k (omega arith) in omega arith

token_next : (lots : List Lot) (k : ℕ) (x : Lot) → k < length (forked k lots) → x ≡ slice_index_or (forked k lots) k x
    → map token_on (take k lots) ++ token_on x ∷ [] ≡ map token_on (take (suc k) lots)
token_next [] zero x l is = absurd (omega arith)
token_next [] (suc k) x l is = absurd (omega arith)
token_next (s ∷ ss) zero x l is = ap (λ (y : Lot). token_on y ∷ []) is
token_next (s ∷ ss) (suc k) x l is = ap (λ (ts : List Token). token_on s ∷ ts) (token_next ss k x (omega arith) is)

pub token_more : (lots now : List Lot) (k : ℕ) (x : Lot) (t : Token) (old new : List Token) → now ≡ forked k lots → k < length now
    → x ≡ slice_index_or now k x → t ≡ token_on x → old ≡ map token_on (take k lots) → new ≡ old ++ t ∷ []
    → new ≡ map token_on (take (k + 1) lots)
token_more lots now k x t old new same l is made was pushed =
    let l' : k < length (forked k lots) = subst (λ (z : List Lot). k < length z) same l in
    let next = token_next lots k x l' (subst (λ (z : List Lot). x ≡ slice_index_or z k x) same is) in
    pushed ∙ ap (λ (z : List Token). z ++ t ∷ []) was ∙ ap (λ (z : Token). map token_on (take k lots) ++ z ∷ []) made ∙ next
    ∙ ap (λ (m : ℕ). map token_on (take m lots)) (add_one k)

-- the lots from the k-th on had their token back
abbrev pub given_back : ℕ → List Token → List Lot → List Lot
given_back k tokens lots = take k lots ++ absorbed_all (drop k tokens) (drop k lots)

pub all_out : (tokens : List Token) (lots : List Lot) → map deque_of tokens ≡ map lot_deque lots → given_back (length tokens) tokens lots ≡ lots
all_out [] [] e = refl
all_out [] (s ∷ ss) e = refl
all_out (t ∷ ts) [] e = absurd (map_longer deque_of lot_deque t ts e)
all_out (t ∷ ts) (s ∷ ss) e = ap (λ (ys : List Lot). s ∷ ys) (all_out ts ss (map_tail deque_of lot_deque t ts s ss e))

-- what is left of the tokens, and the lots
pub record IsGivingBack (tokens rest : List Token) (lots now : List Lot) : Type 0 where
  pub same : map deque_of tokens ≡ map lot_deque lots
  pub rest_is : rest ≡ take (length rest) tokens
  pub few : length rest ≤ length tokens
  pub now_is : now ≡ given_back (length rest) tokens lots

pub giving_starts : (tokens : List Token) (lots : List Lot) → map deque_of tokens ≡ map lot_deque lots → IsGivingBack tokens tokens lots lots
giving_starts tokens lots e = record {
  same = e;
  rest_is = sym (take_all (length tokens) tokens
      (omega arith));
  few = omega arith;
  now_is = sym (all_out tokens lots e);
}

pub giving_ends : (tokens rest : List Token) (lots now : List Lot) → IsGivingBack tokens rest lots now → length rest ≡ 0 → now ≡ absorbed_all tokens lots
giving_ends tokens rest lots now h none = h.now_is ∙ ap (λ (k : ℕ). given_back k tokens lots) none

-- the last of the first k + 1 tokens comes back
back_next : (tokens : List Token) (lots : List Lot) (left : List Token) (t : Token) (x : Lot) → map deque_of tokens ≡ map lot_deque lots
    → left ++ t ∷ [] ≡ take (suc (length left)) tokens
    → x ≡ slice_index_or (given_back (suc (length left)) tokens lots) (length left) x
    → slice_set (given_back (suc (length left)) tokens lots) (length left) (absorbed_lot t x) ≡ given_back (length left) tokens lots
back_next [] lots [] t x e is there = absurd (let f : t ∷ [] ≡ [] = is in (cc))
back_next [] lots (l ∷ left) t x e is there = absurd (let f : l ∷ (left ++ t ∷ []) ≡ [] = is in (cc))
back_next (t' ∷ ts) [] left t x e is there = absurd (map_longer deque_of lot_deque t' ts e)
back_next (t' ∷ ts) (s ∷ ss) [] t x e is there =
    let f : t ≡ t' = (let g : t ∷ [] ≡ t' ∷ [] = is in (cc)) in
    ap₂ (λ (a : Token) (b : Lot). absorbed_lot a b ∷ absorbed_all ts ss) f there
back_next (t' ∷ ts) (s ∷ ss) (l ∷ left) t x e is there =
    ap (λ (ys : List Lot). s ∷ ys) (back_next ts ss left t x
    (map_tail deque_of lot_deque t' ts s ss e) (let g : l ∷ (left ++ t ∷ []) ≡ t' ∷ take (suc (length left)) ts = is in (cc)) there)

longer : (rest left : List Token) (t : Token) → rest ≡ left ++ t ∷ [] → length rest ≡ suc (length left)
longer rest left t split = ap length split ∙ length-append left (t ∷ []) ∙ omega arith

-- the pass that is due, and the lots as they are then
giving : (tokens rest left : List Token) (t : Token) (lots now : List Lot) → IsGivingBack tokens rest lots now → rest ≡ left ++ t ∷ []
    → (left ++ t ∷ [] ≡ take (suc (length left)) tokens) × (now ≡ given_back (suc (length left)) tokens lots)
giving tokens rest left t lots now h split =
    let long = longer rest left t split in
    (sym split ∙ h.rest_is ∙ ap (λ (k : ℕ). take k tokens) long, h.now_is ∙ ap (λ (k : ℕ). given_back k tokens lots) long)

pub gives : (tokens rest left : List Token) (t : Token) (lots now : List Lot) (x y : Lot) → IsGivingBack tokens rest lots now → rest ≡ left ++ t ∷ []
    → x ≡ slice_index_or now (length left) x → y ≡ absorbed_lot t x
    → IsGivingBack tokens left lots (slice_set now (length left) y)
gives tokens rest left t lots now x y h split there made =
    let long : length rest ≡ suc (length left) = longer rest left t split in
    let now_is = giving tokens rest left t lots now h split in
    let first = now_is.0 in
    let is = now_is.1 in record {
      same = h.same;
      rest_is = shorter left t tokens first;
      few = (let a = h.few in omega arith);
      now_is = ap₂ (λ (z : List Lot) (w : Lot). slice_set z (length left) w) is made ∙ back_next tokens lots left t x h.same first
          (subst (λ (z : List Lot). x ≡ slice_index_or z (length left) x) is there);
    }
  where
    shorter : (left : List Token) (t : Token) (tokens : List Token) → left ++ t ∷ [] ≡ take (suc (length left)) tokens → left ≡ take (length left) tokens
    shorter [] t tokens e = refl
    shorter (l ∷ left) t [] e = absurd (let f : l ∷ (left ++ t ∷ []) ≡ [] = e in (cc))
    shorter (l ∷ left) t (t' ∷ ts) e =
        let g : l ∷ (left ++ t ∷ []) ≡ t' ∷ take (suc (length left)) ts = e in
        ap₂ (λ (a : Token) (b : List Token). a ∷ b) (let f : l ≡ t' = cc in f)
        (shorter left t ts (let f : left ++ t ∷ [] ≡ take (suc (length left)) ts = cc in f))

-- the lot at that place is the token's
pub in_place : (tokens rest left : List Token) (t : Token) (lots now : List Lot) (x : Lot) → IsGivingBack tokens rest lots now → rest ≡ left ++ t ∷ []
    → x ≡ slice_index_or now (length left) x → (length left < length now) × (t.deque ≡ x.deque)
in_place tokens rest left t lots now x h split there =
    let now_is = giving tokens rest left t lots now h split in
    let first = now_is.0 in
    let is = now_is.1 in
    let p = place tokens lots left t x h.same first (subst (λ (z : List Lot). x ≡ slice_index_or z (length left) x) is there) in
    (subst (λ (z : List Lot). length left < length z) (sym is) p.0, p.1)
  where
    place : (tokens : List Token) (lots : List Lot) (left : List Token) (t : Token) (x : Lot) → map deque_of tokens ≡ map lot_deque lots
        → left ++ t ∷ [] ≡ take (suc (length left)) tokens
        → x ≡ slice_index_or (given_back (suc (length left)) tokens lots) (length left) x
        → (length left < length (given_back (suc (length left)) tokens lots)) × (t.deque ≡ x.deque)
    place [] lots [] t x e is there = absurd (let f : t ∷ [] ≡ [] = is in (cc))
    place [] lots (l ∷ left) t x e is there = absurd (let f : l ∷ (left ++ t ∷ []) ≡ [] = is in (cc))
    place (t' ∷ ts) [] left t x e is there = absurd (map_longer deque_of lot_deque t' ts e)
    place (t' ∷ ts) (s ∷ ss) [] t x e is there =
        let f : t ≡ t' = (let g : t ∷ [] ≡ t' ∷ [] = is in (cc)) in
        let k : deque_of t' ≡ lot_deque s = map_head deque_of lot_deque t' ts s ss e in
        (omega arith, ap deque_of f ∙ k ∙ ap lot_deque (sym there))
    place (t' ∷ ts) (s ∷ ss) (l ∷ left) t x e is there =
        let r = place ts ss left t x (map_tail deque_of lot_deque t' ts s ss e) (let g : l ∷ (left ++ t ∷ []) ≡ t' ∷ take (suc (length left)) ts = is in
        (cc)) there in
        (let a = r.0 in omega arith, r.1)

pub left_below : (tokens rest left : List Token) (t : Token) (lots now : List Lot) → IsGivingBack tokens rest lots now → rest ≡ left ++ t ∷ []
    → length left < length lots
left_below tokens rest left t lots now h split =
    let long : length rest ≡ length left + 1 = ap length split ∙ length-append left (t ∷ []) in
    let few = h.few in
    let many = map_many deque_of lot_deque tokens lots h.same in
    omega arith
