-- Padded vectors in a set, and their list.
use Rattle.std.specs.Prelude.{◌≡◌, ◌≢◌, ℕ, zero, suc, ◌<◌, ◌≤◌, ◌+◌, ℤ, pos, ◌⊎◌, List, [], ◌∷◌, ◌++◌, length, map, take, slice_index_or}
use Rattle.std.specs.Prelude.{◌-◌, ◌^◌, ◌+ℤ◌, ◌<ℤ◌, false, Result, Ok, Err, IfOk, OnOk}
use Rattle.std.specs.List.{Contains, All}
use Rattle.std.specs.Ordering.{MatchOrdering, match_ordering, nat_cmp, ordering_then}
use Rattle.std.specs.Cmp.{ranks}
use Rattle.std.specs.Cmp.Lexicographic.{slice_cmp}
use Rattle.std.specs.BTreeSet.{insert_key}
use Rattle.std.specs.declared.cmp.Ordering.{Ordering}
use Rattle.std.specs.declared.cmp.Ordering.TheVariants.{Less, Equal, Greater}
use Rattle.std.proofs.Common.{arith, sym, ◌∙◌, ap, ap₂, refl, inl, inr, subst, length-take-le, length-append, append_assoc}
use Rattle.std.proofs.lemmas.Int.{ints}
use Rattle.std.proofs.lemmas.List.{get_or-take, get_or-map, get_or_append_left, length-map, append-nil, map-append}
use Rattle.std.proofs.lemmas.List.Elements.{Contains-push, Contains-append_left, Contains-push_cases}
use Rattle.exact_forms.specs.Vectors.{ComesBefore}
use Rattle.symmetric_matrix.specs.Lists.{IsVectorList, CanFollow}
use Rattle.symmetric_matrix.proofs.Lists.{list_push}
use Rattle.symmetric_matrix.proofs.Runs.{Contains-map, Contains-map_back}
use Rattle.unimodular_cone.specs.Paths.{Path}
use Rattle.unimodular_cone.specs.Cones.{Matrix, child, value, cone_at}
use Rattle.unimodular_cone.specs.declared.WideEntry.TheVariants.{Coordinate}
use Rattle.unimodular_cone.specs.Answer.{IsListOf}
use Rattle.unimodular_cone.specs.Mediant.{FitsWith, IsMediantOf}
use Rattle.unimodular_cone.specs.Shown.{ShownCone, shown_gram, shown_coordinate, shown_generators, IsWithinLimits, IsConeAt, IsChild}
use Rattle.exact_forms.proofs.Vectors.{contains_cons, contains_here, contains_there, vector_decided}
use Rattle.exact_forms.proofs.Slacks.{replaced_here}
use Rattle.unimodular_cone.proofs.ShownLaws.{at_most, coordinate_within}
use Rattle.search_core.specs.Fair.{Judged, IsSameGenerator}
use Rattle.search_core.specs.Noting.{NamesNew, AddsNew, One}
use Rattle.search_core.specs.Attaining.{IsPadded, IsKeyOf, IsWithKey, AddsAttaining, HasGenerators, IsKey, AreKeys, IsVectorsOf, ListsGenerators}

-- ---- the order of keys
abbrev key_order : List ℕ → List ℕ → Ordering
key_order = slice_cmp nat_cmp

then_equal : (o r : Ordering) → ordering_then o r ≡ Equal → (o ≡ Equal) × (r ≡ Equal)
then_equal Less r e = absurd (cc)
then_equal Equal r e = (refl, e)
then_equal Greater r e = absurd (cc)

number_equal : (a b : ℕ) → nat_cmp a b ≡ Equal → a ≡ b
number_equal a b e = subst (λ (o : Ordering). MatchOrdering o (a < b) (a ≡ b) (b < a)) e (ranks a b)

key_equal : (x y : List ℕ) → key_order x y ≡ Equal → x ≡ y
key_equal [] [] e = refl
key_equal [] (b ∷ y) e = absurd (cc)
key_equal (a ∷ x) [] e = absurd (cc)
key_equal (a ∷ x) (b ∷ y) e = let h = then_equal (nat_cmp a b) (key_order x y) e in
    ap₂ (λ (c : ℕ) (z : List ℕ). c ∷ z) (number_equal a b h.0) (key_equal x y h.1)

zeros_equal : (x y : List ℕ) → length x ≡ length y → ((p : ℕ) → slice_index_or x p 0 ≡ 0) → ((p : ℕ) → slice_index_or y p 0 ≡ 0) → x ≡ y
zeros_equal [] [] l hx hy = refl
zeros_equal [] (b ∷ y) l hx hy = absurd (omega arith)
zeros_equal (a ∷ x) [] l hx hy = absurd (omega arith)
zeros_equal (a ∷ x) (b ∷ y) l hx hy =
    ap₂ (λ (c : ℕ) (z : List ℕ). c ∷ z) (hx 0 ∙ sym (hy 0)) (zeros_equal x y (omega arith) (λ p. hx (suc p)) (λ p. hy (suc p)))

key_order_self : (x : List ℕ) → key_order x x ≡ Equal
key_order_self [] = refl
key_order_self (a ∷ x) = by (nat_cmp a a) (ranks a a) (key_order_self x)
  where
    by : (o : Ordering) → MatchOrdering o (a < a) (a ≡ a) (a < a) → key_order x x ≡ Equal → ordering_then o (key_order x x) ≡ Equal
    by Less h rec = absurd (omega arith)
    by Equal h rec = rec
    by Greater h rec = absurd (omega arith)

-- the vectors are in the order of their keys
pub less_comes_before : (n : ℕ) (x y : List ℕ) → length x ≡ length y → ((p : ℕ) → n ≤ p → slice_index_or x p 0 ≡ 0)
    → ((p : ℕ) → n ≤ p → slice_index_or y p 0 ≡ 0)
    → key_order x y ≡ Less → ComesBefore (take n x) (take n y)
less_comes_before n [] [] l hx hy e = absurd (cc)
less_comes_before n [] (b ∷ y) l hx hy e = absurd (omega arith)
less_comes_before n (a ∷ x) [] l hx hy e = absurd (omega arith)
less_comes_before zero (a ∷ x) (b ∷ y) l hx hy e = absurd (no (ap (key_order (a ∷ x)) same ∙ e))
  where
    same : ◌≡◌ {A = List ℕ} (a ∷ x) (b ∷ y)
    same = zeros_equal (a ∷ x) (b ∷ y) l (λ p. hx p (omega arith)) (λ p. hy p (omega arith))

    no : key_order (a ∷ x) (a ∷ x) ≡ Less → ⊥
    no f = let g : key_order (a ∷ x) (a ∷ x) ≡ Equal = key_order_self (a ∷ x) in let h : Less ≡ Equal = sym f ∙ g in cc
less_comes_before (suc n) (a ∷ x) (b ∷ y) l hx hy e =
    by (nat_cmp a b) (ranks a b) e (less_comes_before n x y (omega arith) (λ p lp. hx (suc p) (omega arith)) (λ p lp. hy (suc p) (omega arith)))
  where
    by : (o : Ordering) → MatchOrdering o (a < b) (a ≡ b) (b < a) → ordering_then o (key_order x y) ≡ Less
        → (key_order x y ≡ Less → ComesBefore (take n x) (take n y)) → (a < b) ⊎ ((a ≡ b) × ComesBefore (take n x) (take n y))
    by Less h e rec = inl h
    by Equal h e rec = inr (h, rec e)
    by Greater h e rec = absurd (cc)

-- ---- one more key
insert_has : (keys : List (List ℕ)) (k x : List ℕ) → Contains keys x → Contains (insert_key key_order keys k) x
insert_has [] k x (i, l, e) = absurd (omega arith)
insert_has (y ∷ ys) k x c = by (key_order k y) (insert_has ys k x) (contains_cons y ys x c)
  where
    by : (o : Ordering) → (Contains ys x → Contains (insert_key key_order ys k) x) → ((y ≡ x) ⊎ Contains ys x)
        → Contains (match_ordering o (k ∷ y ∷ ys) (y ∷ ys) (y ∷ insert_key key_order ys k)) x
    by Less rec h = contains_there k (y ∷ ys) x c
    by Equal rec h = c
    by Greater rec (inl e) = subst (λ (z : List ℕ). Contains (y ∷ insert_key key_order ys k) z) e (contains_here y (insert_key key_order ys k))
    by Greater rec (inr h) = contains_there y (insert_key key_order ys k) x (rec h)

insert_new : (keys : List (List ℕ)) (k : List ℕ) → Contains (insert_key key_order keys k) k
insert_new [] k = contains_here k []
insert_new (y ∷ ys) k = by (key_order k y) refl (insert_new ys k)
  where
    by : (o : Ordering) → key_order k y ≡ o → Contains (insert_key key_order ys k) k
        → Contains (match_ordering o (k ∷ y ∷ ys) (y ∷ ys) (y ∷ insert_key key_order ys k)) k
    by Less e rec = contains_here k (y ∷ ys)
    by Equal e rec = subst (λ (z : List ℕ). Contains (y ∷ ys) z) (sym (key_equal k y e)) (contains_here y ys)
    by Greater e rec = contains_there y (insert_key key_order ys k) k rec

insert_only : (keys : List (List ℕ)) (k x : List ℕ) → Contains (insert_key key_order keys k) x → Contains keys x ⊎ (k ≡ x)
insert_only [] k x c = or (contains_cons k [] x c)
  where
    or : ((k ≡ x) ⊎ Contains [] x) → Contains [] x ⊎ (k ≡ x)
    or (inl e) = inr e
    or (inr h) = inl h
insert_only (y ∷ ys) k x c = by (key_order k y) (insert_only ys k x) c
  where
    deeper : (Contains ys x ⊎ (k ≡ x)) → Contains (y ∷ ys) x ⊎ (k ≡ x)
    deeper (inl h) = inl (contains_there y ys x h)
    deeper (inr e) = inr e

    at_new : ((k ≡ x) ⊎ Contains (y ∷ ys) x) → Contains (y ∷ ys) x ⊎ (k ≡ x)
    at_new (inl e) = inr e
    at_new (inr h) = inl h

    at_old : (Contains (insert_key key_order ys k) x → Contains ys x ⊎ (k ≡ x)) → ((y ≡ x) ⊎ Contains (insert_key key_order ys k) x)
        → Contains (y ∷ ys) x ⊎ (k ≡ x)
    at_old rec (inl e) = inl (subst (λ (z : List ℕ). Contains (y ∷ ys) z) e (contains_here y ys))
    at_old rec (inr h) = deeper (rec h)

    by : (o : Ordering) → (Contains (insert_key key_order ys k) x → Contains ys x ⊎ (k ≡ x))
        → Contains (match_ordering o (k ∷ y ∷ ys) (y ∷ ys) (y ∷ insert_key key_order ys k)) x → Contains (y ∷ ys) x ⊎ (k ≡ x)
    by Less rec c = at_new (contains_cons k (y ∷ ys) x c)
    by Equal rec c = inl c
    by Greater rec c = at_old rec (contains_cons y (insert_key key_order ys k) x c)

pub inserts : (old new : List (List ℕ)) (k : List ℕ) → new ≡ insert_key key_order old k → IsWithKey old k new
inserts old new k e = subst (IsWithKey old k) (sym e) (record { kept = insert_has old k; added = insert_new old k; only = insert_only old k })

-- ---- the generators of one cone
pub key_padded : (c : ShownCone) (k n m : ℕ) (x : List ℕ) → IsWithinLimits c → n ≡ c.size → m ≡ n → k < c.size → length x ≡ 8
    → ((i : ℕ) → i < m → slice_index_or x i 0 ≡ shown_coordinate c k i)
    → ((i : ℕ) → m ≤ i → slice_index_or x i 0 ≡ 0) → IsKeyOf c k x
key_padded c k n m x w e f lk size same rest = record {
  size = size;
  same = λ p lp. ap pos (same p (omega arith));
  small = λ p lp. rw (same p (omega arith)) (coordinate_within c k p w lk lp);
  rest = λ p lp. rest p (omega arith);
}

same_pos : (a b : ℕ) → pos a ≡ pos b → a ≡ b
same_pos a b e = grind arith

-- the mediant of a split, which is generator r of a child that fits, has its coordinates for a key
module _ (c : ShownCone) (r s : ℕ) (xs : List ℕ) (lr : r < c.size) (m : IsMediantOf c r s xs) where
  abbrev sum : ℕ → ℤ
  sum p = shown_generators c r p +ℤ shown_generators c s p

  sum_is : (p : ℕ) → p < c.size → pos (slice_index_or xs p 0) ≡ child (shown_generators c) r s r p
  sum_is p lp = ap pos (m.sums p lp) ∙ ap (λ (f : ℕ → ℤ). f p) (sym (replaced_here (shown_generators c) r sum r refl))

  pub mediant_small : FitsWith c r s → (p : ℕ) → p < c.size → slice_index_or xs p 0 ≤ 2 ^ 62
  mediant_small fits p lp = at_most (slice_index_or xs p 0) (2 ^ 62)
      (λ over. fits (Coordinate (suc r) (suc p)) (lr, lp, subst (λ (z : ℤ). pos (2 ^ 62) <ℤ z) (sum_is p lp) (omega (arith, ints, over))))

  pub mediant_key : (d : ShownCone) → FitsWith c r s → IsChild c r s false d → IsKeyOf d r xs
  mediant_key d fits h = record {
    size = m.count;
    same = λ p lp. let l : p < c.size = rw (← h.size) lp in sum_is p l ∙ sym (h.generators r p lr l);
    small = λ p lp. mediant_small fits p (rw (← h.size) lp);
    rest = λ p le. m.rest p (rw (← h.size) le);
  }

below_or_last : (k m : ℕ) → k < m + 1 → (k < m) ⊎ (m ≡ k)
below_or_last k m l = grind arith

wider : (c : ShownCone) (m : ℕ) (z : ℤ) (old : List (List ℕ)) (y : List ℕ)
    → (Contains old y ⊎ ((k : ℕ) × (k < m) × (shown_gram c k k ≡ z) × IsKeyOf c k y))
    → Contains old y ⊎ ((k : ℕ) × (k < m + 1) × (shown_gram c k k ≡ z) × IsKeyOf c k y)
wider c m z old y (inl o) = inl o
wider c m z old y (inr (k, lk, ek, ky)) = inr (k, omega arith, ek, ky)

pub one_added : (c : ShownCone) (m : ℕ) (z : ℤ) (old keys new : List (List ℕ)) (x : List ℕ) → AddsAttaining c m z old keys → m < c.size → shown_gram c m m ≡ z
    → IsKeyOf c m x → IsWithKey keys x new
    → AddsAttaining c (m + 1) z old new
one_added c m z old keys new x h l e key w = record {
  kept = λ y cy. w.kept y (h.kept y cy);
  added = λ k lk ek. at k ek (below_or_last k m lk);
  only = λ y cy. of y (w.only y cy);
}
  where
    at : (k : ℕ) → shown_gram c k k ≡ z → ((k < m) ⊎ (m ≡ k)) → (y : List ℕ) × Contains new y × IsKeyOf c k y
    at k ek (inl lt) = let r = h.added k lt ek in (r.0, w.kept r.0 r.1, r.2)
    at k ek (inr s) = (x, w.added, subst (λ (i : ℕ). IsKeyOf c i x) s key)

    of : (y : List ℕ) → (Contains keys y ⊎ (x ≡ y)) → Contains old y ⊎ ((k : ℕ) × (k < m + 1) × (shown_gram c k k ≡ z) × IsKeyOf c k y)
    of y (inl cy) = wider c m z old y (h.only y cy)
    of y (inr s) = inr (m, omega arith, e, subst (IsKeyOf c m) s key)

pub none_more : (c : ShownCone) (m : ℕ) (z : ℤ) (old keys : List (List ℕ)) → AddsAttaining c m z old keys → shown_gram c m m ≢ z
    → AddsAttaining c (m + 1) z old keys
none_more c m z old keys h ne = record { kept = h.kept; added = λ k lk ek. at k ek (below_or_last k m lk); only = λ y cy. wider c m z old y (h.only y cy) }
  where
    at : (k : ℕ) → shown_gram c k k ≡ z → ((k < m) ⊎ (m ≡ k)) → (y : List ℕ) × Contains keys y × IsKeyOf c k y
    at k ek (inl lt) = h.added k lt ek
    at k ek (inr s) = absurd (ne (subst (λ (i : ℕ). shown_gram c i i ≡ z) (sym s) ek))

-- a cone's one new generator
pub one_new : (c : ShownCone) (which : ℕ) (z : ℤ) (old new : List (List ℕ)) (x : List ℕ) → NamesNew c.size (One which)
    → shown_gram c (which - 1) (which - 1) ≡ z → IsKeyOf c (which - 1) x → IsWithKey old x new → AddsNew c (One which) z old new
one_new c which z old new x named e key w = record {
  kept = w.kept;
  added = λ k l is same. (x, w.added, subst (λ (i : ℕ). IsKeyOf c i x) (omega arith) key);
  only = λ y cy. of y (w.only y cy);
}
  where
    of : (y : List ℕ) → (Contains old y ⊎ (x ≡ y)) → Contains old y ⊎ ((k : ℕ) × (k < c.size) × (shown_gram c k k ≡ z) × IsKeyOf c k y)
    of y (inl cy) = inl cy
    of y (inr s) = inr (which - 1, omega (arith, named.0, named.1), e, subst (IsKeyOf c (which - 1)) s key)

-- ---- the generators of a list of judgements
pub padded_same : (n : ℕ) (x : List ℕ) (v w : ℕ → ℤ) → ((p : ℕ) → p < n → v p ≡ w p) → IsPadded n x v → IsPadded n x w
padded_same n x v w e h = record { size = h.size; same = λ p l. h.same p l ∙ e p l; small = h.small; rest = h.rest }

pub same_key : (n : ℕ) (q : Matrix) (p other : Path) (k l : ℕ) (x : List ℕ) → l < n → IsPadded n x (cone_at n q p k) → IsPadded n x (cone_at n q other l)
    → IsSameGenerator n q p k other l
same_key n q p other k l x range one two = record { range = range; same = λ i li. sym (two.same i li) ∙ one.same i li }

pub padded_at : (n : ℕ) (q : Matrix) (path : Path) (c : ShownCone) → IsConeAt n q path c → (k : ℕ) (x : List ℕ) → k < n → IsKeyOf c k x
    → IsPadded n x (cone_at n q path k)
padded_at n q path c at k x l p =
    padded_same n x (shown_generators c k) (cone_at n q path k) (λ i li. at.cone.generators k i l li)
    (subst (λ (m : ℕ). IsPadded m x (shown_generators c k)) at.cone.size p)

module _ (n : ℕ) (q : Matrix) (judged : List Judged) (j : Judged) (z : ℤ) (keys new : List (List ℕ)) (h : HasGenerators n q judged z keys) where
  pub has_more : (c : ShownCone) → IsConeAt n q j.path c → AddsAttaining c n z keys new → HasGenerators n q (judged ++ j ∷ []) z new
  has_more c at a = record {
    each = λ x cx. of x (a.only x cx);
    all = λ i k ci e l val. there i k e l val (Contains-push_cases judged j i ci);
  }
    where
      of : (x : List ℕ) → (Contains keys x ⊎ ((k : ℕ) × (k < n) × (shown_gram c k k ≡ z) × IsKeyOf c k x))
          → (i : Judged) × (k : ℕ) × Contains (judged ++ j ∷ []) i × (k < n) × IsPadded n x (cone_at n q i.path k) × (value n q (cone_at n q i.path) k ≡ z)
      of x (inl cx) = let r = h.each x cx in (r.0, r.1, Contains-append_left judged (j ∷ []) r.0 r.2, r.3, r.4, r.5)
      of x (inr (k, l, e, p)) = (j, k, Contains-push judged j, l, padded_at n q j.path c at k x l p, sym (at.cone.gram_is k k l l) ∙ e)

      here : (k : ℕ) → k < n → value n q (cone_at n q j.path) k ≡ z → (x : List ℕ) × Contains new x × IsPadded n x (cone_at n q j.path k)
      here k l val = let r = a.added k l (at.cone.gram_is k k l l ∙ val) in (r.0, r.1, padded_at n q j.path c at k r.0 l r.2)

      there : (i : Judged) (k : ℕ) → i.least ≡ z → k < n → value n q (cone_at n q i.path) k ≡ z → (Contains judged i ⊎ (j ≡ i))
          → (x : List ℕ) × Contains new x × IsPadded n x (cone_at n q i.path k)
      there i k e l val (inl ci) = let r = h.all i k ci e l val in (r.0, a.kept r.0 r.1, r.2)
      there i k e l val (inr s) =
          subst (λ (w : Judged). (x : List ℕ) × Contains new x × IsPadded n x (cone_at n q w.path k)) s
          (here k l (subst (λ (w : Judged). value n q (cone_at n q w.path) k ≡ z) (sym s) val))

  pub has_same : j.least ≢ z → HasGenerators n q (judged ++ j ∷ []) z keys
  has_same ne = record {
    each = λ x cx. let r = h.each x cx in (r.0, r.1, Contains-append_left judged (j ∷ []) r.0 r.2, r.3, r.4, r.5);
    all = λ i k ci e l val. by i k e l val (Contains-push_cases judged j i ci);
  }
    where
      by : (i : Judged) (k : ℕ) → i.least ≡ z → k < n → value n q (cone_at n q i.path) k ≡ z → (Contains judged i ⊎ (j ≡ i))
          → (x : List ℕ) × Contains keys x × IsPadded n x (cone_at n q i.path k)
      by i k e l val (inl ci) = h.all i k ci e l val
      by i k e l val (inr s) = absurd (ne (subst (λ (w : Judged). w.least ≡ z) (sym s) e))

-- ---- the list of a set
pub are_keys : (n : ℕ) (q : Matrix) (judged : List Judged) (z : ℤ) (keys : List (List ℕ)) → HasGenerators n q judged z keys → AreKeys n keys
are_keys n q judged z keys h x c = let r = h.each x c in record { size = r.4.size; small = r.4.small; rest = r.4.rest }

pub vector_length : (n : ℕ) (x : List ℕ) → n ≤ 8 → IsKey n x → length (take n x) ≡ n
vector_length n x few k = length-take-le n x (rw k.size few)

read_here : {X : Type 0} (front rest : List X) (x d : X) → slice_index_or (front ++ x ∷ rest) (length front) d ≡ x
read_here [] rest x d = refl
read_here (y ∷ front) rest x d = read_here front rest x d

any_default : {X : Type 0} (xs : List X) (k : ℕ) (d e : X) → k < length xs → slice_index_or xs k d ≡ slice_index_or xs k e
any_default [] k d e l = absurd (omega arith)
any_default (x ∷ xs) zero d e l = refl
any_default (x ∷ xs) (suc k) d e l = any_default xs k d e (omega arith)

-- the list has the front of the keys, and the last of it is below those that are left
pub record IsListing (n : ℕ) (keys list rest : List (List ℕ)) : Type 0 where
  pub front : List (List ℕ)
  pub split : keys ≡ front ++ rest
  pub list_is : list ≡ map (take n) front
  pub are_vectors : IsVectorList list
  pub below : (k : ℕ) → k + 1 ≡ length front → All (λ y. key_order (slice_index_or front k []) y ≡ Less) rest

-- a key that is taken from the set of those that are left
pub record IsNextKey (n : ℕ) (keys list rest' : List (List ℕ)) (x : List ℕ) : Type 0 where
  pub key : IsKey n x
  pub follows : CanFollow list (take n x)
  pub more : All (λ y. key_order x y ≡ Less) rest' → IsListing n keys (list ++ take n x ∷ []) rest'

module _ (n : ℕ) (keys list rest rest' : List (List ℕ)) (x : List ℕ) (few : n ≤ 8) (are : AreKeys n keys) (h : IsListing n keys list rest)
    (e : rest ≡ x ∷ rest') where
  split_here : keys ≡ h.front ++ x ∷ rest'
  split_here = h.split ∙ ap (λ (w : List (List ℕ)). h.front ++ w) e

  long : length keys ≡ length h.front + suc (length rest')
  long = ap length split_here ∙ length-append h.front (x ∷ rest')

  at_front : (k : ℕ) → k < length h.front → slice_index_or keys k [] ≡ slice_index_or h.front k []
  at_front k l = ap (λ (w : List (List ℕ)). slice_index_or w k []) split_here ∙ get_or_append_left h.front (x ∷ rest') [] k l

  at_x : slice_index_or keys (length h.front) [] ≡ x
  at_x = ap (λ (w : List (List ℕ)). slice_index_or w (length h.front) []) split_here ∙ read_here h.front rest' x []

  is_key : (k : ℕ) → k < length keys → IsKey n (slice_index_or keys k [])
  is_key k l = are (slice_index_or keys k []) (k, l, any_default keys k _ [] l)

  key_of_x : IsKey n x
  key_of_x = subst (IsKey n) at_x (is_key (length h.front) (let l : length keys ≡ length h.front + suc (length rest') = long in omega arith))

  key_at : (k : ℕ) → k < length h.front → IsKey n (slice_index_or h.front k [])
  key_at k l = subst (IsKey n) (at_front k l) (is_key k (let m : length keys ≡ length h.front + suc (length rest') = long in omega arith))

  follows : CanFollow list (take n x)
  follows = subst (λ (w : List (List ℕ)). CanFollow w (take n x)) (sym h.list_is) (record { one_length = lengths; greater = before })
    where
      lengths : (k : ℕ) → k < length (map (take n) h.front) → length (slice_index_or (map (take n) h.front) k []) ≡ length (take n x)
      lengths k l =
          let lk : k < length h.front = rw (← length-map h.front (take n)) l in
          ap length (get_or-map (take n) h.front k [] [] lk) ∙ vector_length n (slice_index_or h.front k []) few (key_at k lk)
          ∙ sym (vector_length n x few key_of_x)

      before : (k : ℕ) → k + 1 ≡ length (map (take n) h.front) → ComesBefore (slice_index_or (map (take n) h.front) k []) (take n x)
      before k l =
          let m : k + 1 ≡ length h.front = l ∙ length-map h.front (take n) in
          let lk : k < length h.front = omega arith in
          let less : key_order (slice_index_or h.front k []) x ≡ Less =
          (subst (All (λ y. key_order (slice_index_or h.front k []) y ≡ Less)) e (h.below k m)) 0 x (omega arith) in
          subst (λ (w : List ℕ). ComesBefore w (take n x)) (sym (get_or-map (take n) h.front k [] [] lk))
          (less_comes_before n (slice_index_or h.front k []) x ((key_at k lk).size ∙ sym key_of_x.size) (key_at k lk).rest key_of_x.rest less)

  pub next_key : IsNextKey n keys list rest' x
  next_key = record {
    key = key_of_x;
    follows = follows;
    more = λ above. record {
      front = h.front ++ x ∷ [];
      split = split_here ∙ sym (append_assoc h.front (x ∷ []) rest');
      list_is = ap (λ (w : List (List ℕ)). w ++ take n x ∷ []) h.list_is ∙ sym (map-append (take n) h.front (x ∷ []));
      are_vectors = list_push list (take n x) h.are_vectors follows;
      below = λ k l. subst (λ (w : List ℕ). All (λ y. key_order w y ≡ Less) rest') (sym (last k (l ∙ length-append h.front (x ∷ [])))) above;
    };
  }
    where
      last : (k : ℕ) → k + 1 ≡ length h.front + 1 → slice_index_or (h.front ++ x ∷ []) k [] ≡ x
      last k l = let m : k ≡ length h.front = omega arith in rw m (read_here h.front [] x [])

pub listing_end : (n : ℕ) (keys list rest : List (List ℕ)) → IsListing n keys list rest → rest ≡ [] → IsVectorsOf n keys list
listing_end n keys list rest h e =
    record {
      same = h.list_is ∙ ap (map (take n)) (sym (h.split ∙ ap (λ (w : List (List ℕ)). h.front ++ w) e ∙ append-nil h.front));
      increasing = h.are_vectors.increasing;
    }

-- ---- the list of the generators
module _ (n : ℕ) (q : Matrix) (judged : List Judged) (z : ℤ) (keys vectors : List (List ℕ)) (few : n ≤ 8) (h : HasGenerators n q judged z keys)
    (v : IsVectorsOf n keys vectors) where
  as_vector : (x : List ℕ) (w : ℕ → ℤ) → IsPadded n x w → IsListOf n (take n x) w
  as_vector x w p = record {
    size = length-take-le n x (rw p.size few);
    same = λ i l. ap pos (get_or-take n x i 0 l) ∙ p.same i l;
  }

  pub lists_generators : ListsGenerators n q judged z vectors
  lists_generators = record {
    each = λ x c. let r = Contains-map_back (take n) keys x (subst (λ (w : List (List ℕ)). Contains w x) v.same c) in
        let g = h.each r.0 r.1 in
        (g.0, g.1, g.2, g.3, subst (λ (w : List ℕ). IsListOf n w (cone_at n q g.0.path g.1)) r.2 (as_vector r.0 (cone_at n q g.0.path g.1) g.4), g.5);
    all = λ j k x c e l vec val. let r = h.all j k c e l val in
        let t : IsListOf n (take n r.0) (cone_at n q j.path k) = as_vector r.0 (cone_at n q j.path k) r.2 in
        let same : take n r.0 ≡ x = vector_decided n (take n r.0) x t.size vec.size (λ p lp. t.same p lp ∙ sym (vec.same p lp)) in
        subst (λ (w : List (List ℕ)). Contains w x) (sym v.same) (subst (Contains (map (take n) keys)) same (Contains-map (take n) keys r.0 r.1));
    increasing = v.increasing;
  }

pub if_ok : {T E : Type 0} (r : Result T E) (P Q : T → Type 0) → ((x : T) → P x → Q x) → IfOk r P → IfOk r Q
if_ok (Ok x) P Q f h = f x h
if_ok (Err e) P Q f h = tt

pub on_ok : {T E P Q : Type 0} (r : Result T E) → (P → Q) → OnOk r P → OnOk r Q
on_ok (Ok x) f h = f h
on_ok (Err e) f h = tt
