-- Laws of vectors and of increasing lists of vectors.
use Rattle.std.specs.Prelude.{◌≡◌, ℕ, zero, suc, ◌<◌, pos, ◌⊎◌, List, [], ◌∷◌, ◌++◌, length, slice_index_or}
use Rattle.std.proofs.Common.{arith, sym, ◌∙◌, ap₂, refl, inl, inr, subst}
use Rattle.std.proofs.lemmas.Int.{ints}
use Rattle.std.proofs.lemmas.List.{get_or_default}
use Rattle.std.specs.List.{All, Contains}
use Rattle.commutative_ring.proofs.SmallCases.{same_unless_apart, three_ways}
use Rattle.exact_forms.specs.Vectors.{coordinate, ComesBefore, IsIncreasing}

-- the numbers at its places decide a vector
pub vector_decided : (n : ℕ) (x y : List ℕ) → length x ≡ n → length y ≡ n → ((p : ℕ) → p < n → coordinate x p ≡ coordinate y p) → x ≡ y
vector_decided n [] [] a b h = refl
vector_decided n [] (y ∷ ys) a b h = absurd (omega arith)
vector_decided n (x ∷ xs) [] a b h = absurd (omega arith)
vector_decided zero (x ∷ xs) (y ∷ ys) a b h = absurd (omega arith)
vector_decided (suc n) (x ∷ xs) (y ∷ ys) a b h =
    let e : pos x ≡ pos y = h 0 (omega arith) in
    let f : x ≡ y = omega (arith, ints) in
    let t : xs ≡ ys = vector_decided n xs ys (omega arith) (omega arith) (λ p l. h (suc p) (omega arith)) in
    ap₂ (λ (u : ℕ) (w : List ℕ). u ∷ w) f t

pub before_transitive : (x y z : List ℕ) → ComesBefore x y → ComesBefore y z → ComesBefore x z
before_transitive [] y z h k = absurd h
before_transitive (a ∷ x) [] z h k = absurd h
before_transitive (a ∷ x) (b ∷ y) [] h k = absurd k
before_transitive (a ∷ x) (b ∷ y) (c ∷ z) (inl h) (inl k) = inl (omega arith)
before_transitive (a ∷ x) (b ∷ y) (c ∷ z) (inl h) (inr k) = inl (let e : b ≡ c = k.0 in omega arith)
before_transitive (a ∷ x) (b ∷ y) (c ∷ z) (inr h) (inl k) = inl (let e : a ≡ b = h.0 in omega arith)
before_transitive (a ∷ x) (b ∷ y) (c ∷ z) (inr h) (inr k) = inr (h.0 ∙ k.0, before_transitive x y z h.1 k.1)

pub before_irreflexive : (x : List ℕ) → ¬ ComesBefore x x
before_irreflexive [] h = h
before_irreflexive (a ∷ x) (inl h) = omega arith
before_irreflexive (a ∷ x) (inr h) = before_irreflexive x h.1

pub contains_cons : {A : Type 0} (y : A) (ys : List A) (x : A) → Contains (y ∷ ys) x → (y ≡ x) ⊎ Contains ys x
contains_cons y ys x (zero, l, e) = inl e
contains_cons y ys x (suc k, l, e) = inr (k, (omega arith), e)

pub contains_here : {A : Type 0} (y : A) (ys : List A) → Contains (y ∷ ys) y
contains_here y ys = (0, omega arith, refl)

pub contains_there : {A : Type 0} (y : A) (ys : List A) (x : A) → Contains ys x → Contains (y ∷ ys) x
contains_there y ys x (k, l, e) = (suc k, omega arith, e)

pub tail_increases : (x : List ℕ) (xs : List (List ℕ)) → IsIncreasing (x ∷ xs) → IsIncreasing xs
tail_increases x [] h = tt
tail_increases x (y ∷ xs) h = h.1

pub all_after : (x : List ℕ) (xs : List (List ℕ)) → IsIncreasing (x ∷ xs) → (z : List ℕ) → Contains xs z → ComesBefore x z
all_after x [] h z c = absurd (let l : c.0 < length {A = List ℕ} [] = c.1 in omega arith)
all_after x (y ∷ xs) h z c = by (contains_cons y xs z c) (all_after y xs h.1 z)
  where
    by : ((y ≡ z) ⊎ Contains xs z) → (Contains xs z → ComesBefore y z) → ComesBefore x z
    by (inl e) rec = subst (ComesBefore x) e h.0
    by (inr c) rec = before_transitive x y z h.0 (rec c)

pub increasing_unique : (xs ys : List (List ℕ)) → IsIncreasing xs → IsIncreasing ys → ((x : List ℕ) → Contains xs x → Contains ys x)
    → ((x : List ℕ) → Contains ys x → Contains xs x) → xs ≡ ys
increasing_unique [] [] h k there back = refl
increasing_unique [] (y ∷ ys) h k there back =
    absurd (let c : Contains [] y = back y (contains_here y ys) in let l : c.0 < length {A = List ℕ} [] = c.1 in omega arith)
increasing_unique (x ∷ xs) [] h k there back =
    absurd (let c : Contains [] x = there x (contains_here x xs) in let l : c.0 < length {A = List ℕ} [] = c.1 in omega arith)
increasing_unique (x ∷ xs) (y ∷ ys) h k there back =
    let e : x ≡ y = heads (contains_cons y ys x (there x (contains_here x xs))) (contains_cons x xs y (back y (contains_here y ys))) in
    ap₂ (λ (u : List ℕ) (w : List (List ℕ)). u ∷ w) e (increasing_unique xs ys (tail_increases x xs h) (tail_increases y ys k)
    (λ z c. in_tail_there e z c (contains_cons y ys z (there z (contains_there x xs z c))))
    (λ z c. in_tail_back e z c (contains_cons x xs z (back z (contains_there y ys z c)))))
  where
    heads : ((y ≡ x) ⊎ Contains ys x) → ((x ≡ y) ⊎ Contains xs y) → x ≡ y
    heads (inl e) f = sym e
    heads (inr c) (inl e) = e
    heads (inr c) (inr d) = absurd (before_irreflexive x (before_transitive x y x (all_after x xs h y d) (all_after y ys k x c)))

    in_tail_there : x ≡ y → (z : List ℕ) → Contains xs z → ((y ≡ z) ⊎ Contains ys z) → Contains ys z
    in_tail_there e z c (inl f) = absurd (before_irreflexive z (subst (λ (w : List ℕ). ComesBefore w z) (e ∙ f) (all_after x xs h z c)))
    in_tail_there e z c (inr d) = d

    in_tail_back : x ≡ y → (z : List ℕ) → Contains ys z → ((x ≡ z) ⊎ Contains xs z) → Contains xs z
    in_tail_back e z c (inl f) = absurd (before_irreflexive z (subst (λ (w : List ℕ). ComesBefore w z) (sym e ∙ f) (all_after y ys k z c)))
    in_tail_back e z c (inr d) = d

-- ---- one of three cases
pub data Compared (x y : List ℕ) : Type 0 where
  before : ComesBefore x y → Compared x y
  same : x ≡ y → Compared x y
  after : ComesBefore y x → Compared x y

pub before_total : (x y : List ℕ) → length x ≡ length y → Compared x y
before_total [] [] e = same refl
before_total [] (b ∷ y) e = absurd (omega arith)
before_total (a ∷ x) [] e = absurd (omega arith)
before_total (a ∷ x) (b ∷ y) e = by (three_ways a b) (before_total x y (omega arith))
  where
    by : ((a < b) ⊎ ((a ≡ b) ⊎ (b < a))) → Compared x y → Compared (a ∷ x) (b ∷ y)
    by (inl l) rest = before (inl l)
    by (inr (inr l)) rest = after (inl l)
    by (inr (inl s)) (before h) = before (inr (s, h))
    by (inr (inl s)) (same h) = same (ap₂ (λ (u : ℕ) (w : List ℕ). u ∷ w) s h)
    by (inr (inl s)) (after h) = after (inr (sym s, h))

pub before_asymmetric : (x y : List ℕ) → ComesBefore x y → ComesBefore y x → ⊥
before_asymmetric x y h k = before_irreflexive x (before_transitive x y x h k)

-- ---- growing a list
-- a vector after all of the list keeps it increasing
pub increasing_push : (xs : List (List ℕ)) (x : List ℕ) → IsIncreasing xs → ((z : List ℕ) → Contains xs z → ComesBefore z x) → IsIncreasing (xs ++ x ∷ [])
increasing_push [] x h k = tt
increasing_push (a ∷ []) x h k = (k a (contains_here a []), tt)
increasing_push (a ∷ b ∷ xs) x h k = (h.0, increasing_push (b ∷ xs) x h.1 (λ z c. k z (contains_there a (b ∷ xs) z c)))

-- one after the last suffices
pub increasing_push_last : (xs : List (List ℕ)) (last x : List ℕ) → IsIncreasing (xs ++ last ∷ []) → ComesBefore last x
    → IsIncreasing ((xs ++ last ∷ []) ++ x ∷ [])
increasing_push_last [] last x h k = (k, tt)
increasing_push_last (a ∷ []) last x h k = (h.0, (k, tt))
increasing_push_last (a ∷ b ∷ xs) last x h k = (h.0, increasing_push_last (b ∷ xs) last x h.1 k)

-- an earlier place has an earlier vector
pub increasing_places : (xs : List (List ℕ)) (d : List ℕ) → IsIncreasing xs → (i j : ℕ) → i < j → j < length xs
    → ComesBefore (slice_index_or xs i d) (slice_index_or xs j d)
increasing_places [] d h i j l m = absurd (omega arith)
increasing_places (x ∷ xs) d h i zero l m = absurd (omega arith)
increasing_places (x ∷ xs) d h zero (suc j) l m =
    all_after x xs h (slice_index_or xs j d) (j, omega arith, default xs j d (slice_index_or xs j d) (omega arith))
  where
    default : (xs : List (List ℕ)) (j : ℕ) (d e : List ℕ) → j < length xs → slice_index_or xs j e ≡ slice_index_or xs j d
    default [] j d e l = absurd (omega arith)
    default (x ∷ xs) zero d e l = refl
    default (x ∷ xs) (suc j) d e l = default xs j d e (omega arith)
increasing_places (x ∷ xs) d h (suc i) (suc j) l m = increasing_places xs d (tail_increases x xs h) i j (omega arith) (omega arith)

-- and each is listed once
pub increasing_once : (xs : List (List ℕ)) (d : List ℕ) → IsIncreasing xs → (i j : ℕ) → i < length xs → j < length xs
    → slice_index_or xs i d ≡ slice_index_or xs j d → i ≡ j
increasing_once xs d h i j li lj e =
    same_unless_apart i j
    (λ l. before_irreflexive (slice_index_or xs j d) (subst (λ (w : List ℕ). ComesBefore w (slice_index_or xs j d)) e (increasing_places xs d h i j l lj)))
    (λ l. before_irreflexive (slice_index_or xs i d)
    (subst (λ (w : List ℕ). ComesBefore w (slice_index_or xs i d)) (sym e) (increasing_places xs d h j i l li)))

-- ---- each of a list, by places
pub all_from_places : (P : List ℕ → Type 0) (xs : List (List ℕ)) → ((k : ℕ) → k < length xs → P (slice_index_or xs k [])) → All P xs
all_from_places P xs h k d l = subst P (get_or_default xs k [] d l) (h k l)

pub place_of_vector : (xs : List (List ℕ)) (x : List ℕ) → Contains xs x → (k : ℕ) × (k < length xs) × (slice_index_or xs k [] ≡ x)
place_of_vector xs x h = (h.0, h.1, get_or_default xs h.0 [] x h.1 ∙ h.2)
