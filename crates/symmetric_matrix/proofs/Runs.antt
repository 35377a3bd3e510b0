-- Runs of ones, their vectors, and the order in which they are listed.
use Rattle.std.specs.Prelude.{◌≡◌, ℕ, zero, suc, ◌+◌, ◌-◌, ◌<◌, ◌≤◌, ◌⊎◌, List, [], ◌∷◌, ◌++◌, length, map, take, ◌≢◌, slice_index_or}
use Rattle.std.specs.List.{All, Contains, range_with_len, flat_map}
use Rattle.std.proofs.Common.{set, arith, sym, ◌∙◌, ap, ap₂, refl, subst, inl, inr}
use Rattle.std.proofs.lemmas.List.{length-append, append-nil, append_assoc, map-append, length-map, get_or-map, length-take-le, get_or-take, get_or-set_same}
use Rattle.std.proofs.lemmas.List.{get_or-set_other, map-id}
use Rattle.std.proofs.lemmas.List.FromFn.{length-map-range_with_len, get_or-map-range_with_len, map-range_with_len_more, fill_by_all}
use Rattle.std.proofs.lemmas.List.Elements.{All-append, All-push, All-map, All-weaker, All-contains, Contains-append_left, Contains-append_right}
use Rattle.std.proofs.lemmas.List.Elements.{Contains-get_or}
use Rattle.std.proofs.lemmas.List.Concat.{flat_map-append}
use Rattle.commutative_ring.proofs.SmallCases.{at_least_or_below, here_or_before}
use Rattle.exact_forms.specs.Triangles.{triangle}
use Rattle.exact_forms.proofs.Triangles.{triangle-zero, triangle-suc}
use Rattle.exact_forms.specs.Vectors.{ComesBefore, IsIncreasing}
use Rattle.exact_forms.proofs.Vectors.{increasing_push}
use Rattle.symmetric_matrix.specs.Lists.{IsVector, CanFollow}
use Rattle.symmetric_matrix.specs.StartVectors.{Run, run_digit, run_vector, runs_from, late_runs, start_list, IsRunWithin, ListsStartVectors}
use Rattle.symmetric_matrix.proofs.Lists.{comes_before_at}

-- ---- the vector of a run
pub run_digit_inside : (r : Run) (p : ℕ) → r.first ≤ p → p ≤ r.last → run_digit r p ≡ 1
unfolding run_digit
run_digit_inside r p a b = grind arith

pub run_digit_before : (r : Run) (p : ℕ) → p < r.first → run_digit r p ≡ 0
unfolding run_digit
run_digit_before r p a = grind arith

pub run_digit_after : (r : Run) (p : ℕ) → r.last < p → run_digit r p ≡ 0
unfolding run_digit
run_digit_after r p a = grind arith

-- two runs that begin together have the same digits up to the end of either
pub run_digit_same : (r s : Run) (p : ℕ) → s.first ≡ r.first → p ≤ r.last → p ≤ s.last → run_digit r p ≡ run_digit s p
unfolding run_digit
run_digit_same r s p e a b = grind arith

pub length-run_vector : (n : ℕ) (r : Run) → length (run_vector n r) ≡ n
unfolding run_vector
length-run_vector n r = length-map-range_with_len (run_digit r) 0 n

pub run_vector_at : (n : ℕ) (r : Run) (p : ℕ) → p < n → slice_index_or (run_vector n r) p 0 ≡ run_digit r p
unfolding run_vector
run_vector_at n r p l = get_or-map-range_with_len (run_digit r) 0 n p p 0 l (omega arith)

-- a run that begins earlier has the greater vector
pub before_earlier : (n : ℕ) (r s : Run) → IsRunWithin n r → IsRunWithin n s → s.first < r.first → ComesBefore (run_vector n r) (run_vector n s)
before_earlier n r s hr hs h =
    let inside : s.first < n = omega (arith, hs.ordered, hs.inside) in
    comes_before_at (run_vector n r) (run_vector n s) s.first (rw length-run_vector inside) (rw length-run_vector inside)
    (λ k l. run_vector_at n r k (omega arith) ∙ run_digit_before r k (omega arith) ∙ sym (run_vector_at n s k (omega arith) ∙ run_digit_before s k l))
    (let a : slice_index_or (run_vector n r) s.first 0 ≡ 0 = run_vector_at n r s.first inside ∙ run_digit_before r s.first h in
    let b : slice_index_or (run_vector n s) s.first 0 ≡ 1 = run_vector_at n s s.first inside ∙ run_digit_inside s s.first (omega arith) hs.ordered in
    omega arith)

-- of two that begin together, the longer
pub before_longer : (n : ℕ) (r s : Run) → IsRunWithin n r → IsRunWithin n s → s.first ≡ r.first → r.last < s.last
    → ComesBefore (run_vector n r) (run_vector n s)
before_longer n r s hr hs e h =
    let inside : r.last + 1 < n = omega (arith, hs.inside) in
    comes_before_at (run_vector n r) (run_vector n s) (r.last + 1) (rw length-run_vector inside) (rw length-run_vector inside)
    (λ k l. run_vector_at n r k (omega arith) ∙ run_digit_same r s k e (omega arith) (omega arith) ∙ sym (run_vector_at n s k (omega arith)))
    (let a : slice_index_or (run_vector n r) (r.last + 1) 0 ≡ 0 = run_vector_at n r (r.last + 1) inside ∙ run_digit_after r (r.last + 1) (omega arith) in
    let b : slice_index_or (run_vector n s) (r.last + 1) 0 ≡ 1 = run_vector_at n s (r.last + 1) inside
    ∙ run_digit_inside s (r.last + 1) (omega (arith, hr.ordered)) (omega arith) in
    omega arith)

-- ---- lists of runs
pub runs_from_none : (j : ℕ) → runs_from j 0 ≡ []
unfolding runs_from
runs_from_none j = refl

pub runs_from_more : (j m : ℕ) → runs_from j (m + 1) ≡ runs_from j m ++ record { first = j; last = j + m } ∷ []
unfolding runs_from
runs_from_more j m = map-range_with_len_more (λ k. record { first = j; last = k }) j m (j + m) refl

pub range_more : (m : ℕ) → range_with_len 0 (m + 1) ≡ range_with_len 0 m ++ m ∷ []
range_more m = sym (map-id (range_with_len 0 (m + 1))) ∙ map-range_with_len_more (λ (k : ℕ). k) 0 m m (omega arith)
    ∙ ap (λ (ks : List ℕ). ks ++ m ∷ []) (map-id (range_with_len 0 m))

pub late_runs_none : (n : ℕ) → late_runs n 0 ≡ []
unfolding late_runs
late_runs_none n = refl

pub late_runs_more : (n m : ℕ) → late_runs n (m + 1) ≡ late_runs n m ++ runs_from (n - (m + 1)) (m + 1)
unfolding late_runs
late_runs_more n m =
    let block : ℕ → List Run = λ (k : ℕ). runs_from (n - (k + 1)) (k + 1) in
    ap (flat_map block) (range_more m) ∙ flat_map-append block (range_with_len 0 m) (m ∷ [])
    ∙ ap (λ (rs : List Run). flat_map block (range_with_len 0 m) ++ rs) (append-nil (block m))

length-runs_from : (j m : ℕ) → length (runs_from j m) ≡ m
unfolding runs_from
length-runs_from j m = let run : ℕ → Run = λ (k : ℕ). record { first = j; last = k } in length-map-range_with_len run j m

pub length-late_runs : (n m : ℕ) → length (late_runs n m) ≡ triangle m
length-late_runs n zero = ap length (late_runs_none n) ∙ sym triangle-zero
length-late_runs n (suc m) =
    let e : m + 1 ≡ suc m = omega arith in
    ap (λ (k : ℕ). length (late_runs n k)) (sym e) ∙ ap length (late_runs_more n m) ∙ length-append (late_runs n m) (runs_from (n - (m + 1)) (m + 1))
    ∙ ap₂ (λ (a : ℕ) (b : ℕ). a + b) (length-late_runs n m) (length-runs_from (n - (m + 1)) (m + 1) ∙ e) ∙ sym (triangle-suc m)

-- ---- what they list
pub record BeginsAt (j m : ℕ) (r : Run) : Type 0 where
  pub first : r.first ≡ j
  pub ordered : j ≤ r.last
  pub short : r.last < j + m

pub record IsLate (n m : ℕ) (r : Run) : Type 0 where
  pub late : n ≤ r.first + m
  pub within : IsRunWithin n r

pub runs_from_all : (j m : ℕ) → All (BeginsAt j m) (runs_from j m)
runs_from_all j zero = rw runs_from_none (λ k d l. absurd (omega arith))
runs_from_all j (suc m) =
    let e : m + 1 ≡ suc m = omega arith in
    subst (λ (k : ℕ). All (BeginsAt j (suc m)) (runs_from j k)) e
    (rw runs_from_more (All-push (BeginsAt j (suc m)) (runs_from j m) (record { first = j; last = j + m })
    (All-weaker (BeginsAt j m) (BeginsAt j (suc m)) (λ r b. record { first = b.first; ordered = b.ordered; short = omega (arith, b.short) }) (runs_from j m)
    (runs_from_all j m))
    (record { first = refl; ordered = omega arith; short = omega arith })))

pub late_runs_all : (n m : ℕ) → m ≤ n → All (IsLate n m) (late_runs n m)
late_runs_all n zero h = rw late_runs_none (λ k d l. absurd (omega arith))
late_runs_all n (suc m) h =
    let e : m + 1 ≡ suc m = omega arith in
    subst (λ (k : ℕ). All (IsLate n (suc m)) (late_runs n k)) e
    (rw late_runs_more (All-append (IsLate n (suc m)) (late_runs n m) (runs_from (n - (m + 1)) (m + 1))
    (All-weaker (IsLate n m) (IsLate n (suc m)) (λ r b. record { late = omega (arith, b.late); within = b.within }) (late_runs n m)
    (late_runs_all n m (omega arith)))
    (All-weaker (BeginsAt (n - (m + 1)) (m + 1)) (IsLate n (suc m)) begins (runs_from (n - (m + 1)) (m + 1)) (runs_from_all (n - (m + 1)) (m + 1)))))
  where
    begins : (r : Run) → BeginsAt (n - (m + 1)) (m + 1) r → IsLate n (suc m) r
    begins r b = record { late = omega (arith, b.first); within = record { ordered = omega (arith, b.first, b.ordered); inside = omega (arith, b.short) } }

pub runs_from_contains : (j m k : ℕ) → j ≤ k → k < j + m → Contains (runs_from j m) (record { first = j; last = k })
unfolding runs_from
runs_from_contains j m k a b =
    let run : ℕ → Run = λ (k : ℕ). record { first = j; last = k } in
    (k - j, rw (length-map-range_with_len run j m) (omega arith), get_or-map-range_with_len run j m (k - j) k (run k) (omega arith) (omega arith))

pub late_runs_contain : (n m : ℕ) (r : Run) → m ≤ n → IsRunWithin n r → n ≤ r.first + m → Contains (late_runs n m) r
late_runs_contain n zero r h within late = absurd (omega (arith, within.ordered, within.inside))
late_runs_contain n (suc m) r h within late =
    let e : m + 1 ≡ suc m = omega arith in
    subst (λ (k : ℕ). Contains (late_runs n k) r) e
    (rw late_runs_more (by (at_least_or_below (r.first + m) n) (λ l. late_runs_contain n m r (omega arith) within l)))
  where
    by : ((n ≤ r.first + m) ⊎ (r.first + m < n)) → (n ≤ r.first + m → Contains (late_runs n m) r)
        → Contains (late_runs n m ++ runs_from (n - (m + 1)) (m + 1)) r
    by (inl l) before = Contains-append_left (late_runs n m) (runs_from (n - (m + 1)) (m + 1)) r (before l)
    by (inr l) before =
        let first : n - (m + 1) ≡ r.first = omega arith in
        Contains-append_right (late_runs n m) (runs_from (n - (m + 1)) (m + 1)) r
        (rw first (runs_from_contains r.first (m + 1) r.last within.ordered (omega (arith, within.inside))))

-- ---- their vectors
pub Contains-map : {X Y : Type 0} (f : X → Y) (xs : List X) (x : X) → Contains xs x → Contains (map f xs) (f x)
Contains-map f xs x (k, l, e) = (k, rw length-map l, get_or-map f xs k x (f x) l ∙ ap f e)

-- the vectors of a list of runs each of which comes before r
before_all : (n : ℕ) (r : Run) (rs : List Run) → All (λ s. ComesBefore (run_vector n s) (run_vector n r)) rs
    → (z : List ℕ) → Contains (map (run_vector n) rs) z → ComesBefore z (run_vector n r)
before_all n r rs h z c =
    All-contains (λ z. ComesBefore z (run_vector n r)) (map (run_vector n) rs) z (All-map (λ z. ComesBefore z (run_vector n r)) (run_vector n) rs h) c

-- the runs before the next one
all_before : (n m d : ℕ) → m < n → d ≤ m
    → All (λ s. ComesBefore (run_vector n s) (run_vector n (record { first = n - (m + 1); last = n - (m + 1) + d }))) (late_runs n m
    ++ runs_from (n - (m + 1)) d)
all_before n m d hm hd =
    let r : Run = record { first = n - (m + 1); last = n - (m + 1) + d } in
    let within : IsRunWithin n r = record { ordered = omega arith; inside = omega arith } in
    All-append (λ s. ComesBefore (run_vector n s) (run_vector n r)) (late_runs n m) (runs_from (n - (m + 1)) d)
    (All-weaker (IsLate n m) (λ s. ComesBefore (run_vector n s) (run_vector n r)) (λ s l. before_earlier n s r l.within within (omega (arith, l.late)))
    (late_runs n m) (late_runs_all n m (omega arith)))
    (All-weaker (BeginsAt (n - (m + 1)) d) (λ s. ComesBefore (run_vector n s) (run_vector n r))
    (λ s b. before_longer n s r (record { ordered = omega (arith, b.first, b.ordered); inside = omega (arith, b.short) }) within (sym b.first) b.short)
    (runs_from (n - (m + 1)) d) (runs_from_all (n - (m + 1)) d))

-- one run more
pub vectors_more : (n m d : ℕ) → map (run_vector n) (late_runs n m ++ runs_from (n - (m + 1)) (d + 1))
    ≡ map (run_vector n) (late_runs n m ++ runs_from (n - (m + 1)) d) ++ run_vector n (record { first = n - (m + 1); last = n - (m + 1) + d }) ∷ []
vectors_more n m d = rw (runs_from_more, ← append_assoc, map-append) refl

increasing_more : (n m d : ℕ) → m < n → d ≤ m
    → IsIncreasing (map (run_vector n) (late_runs n m ++ runs_from (n - (m + 1)) d))
    → IsIncreasing (map (run_vector n) (late_runs n m ++ runs_from (n - (m + 1)) (d + 1)))
increasing_more n m d hm hd h =
    let r : Run = record { first = n - (m + 1); last = n - (m + 1) + d } in
    rw vectors_more (increasing_push (map (run_vector n) (late_runs n m ++ runs_from (n - (m + 1)) d)) (run_vector n r) h
    (before_all n r (late_runs n m ++ runs_from (n - (m + 1)) d) (all_before n m d hm hd)))

pub can_follow_runs : (n m d : ℕ) → m < n → d ≤ m
    → CanFollow (map (run_vector n) (late_runs n m ++ runs_from (n - (m + 1)) d)) (run_vector n (record { first = n - (m + 1); last = n - (m + 1) + d }))
can_follow_runs n m d hm hd =
    let r : Run = record { first = n - (m + 1); last = n - (m + 1) + d } in
    let rs : List Run = late_runs n m ++ runs_from (n - (m + 1)) d in
    record {
      one_length = λ k l.
          All-contains (λ x. length x ≡ length (run_vector n r)) (map (run_vector n) rs) (slice_index_or (map (run_vector n) rs) k [])
          (All-map (λ x. length x ≡ length (run_vector n r)) (run_vector n) rs (λ k s l. length-run_vector n (slice_index_or rs k s)
          ∙ sym (length-run_vector n r)))
          (Contains-get_or (map (run_vector n) rs) k [] l);
      greater = λ k e. before_all n r rs (all_before n m d hm hd) (slice_index_or (map (run_vector n) rs) k [])
          (Contains-get_or (map (run_vector n) rs) k [] (omega arith));
    }

-- runs from one place on
pub increasing_row : (n m d : ℕ) → m < n → d ≤ m + 1 → IsIncreasing (map (run_vector n) (late_runs n m))
    → IsIncreasing (map (run_vector n) (late_runs n m ++ runs_from (n - (m + 1)) d))
increasing_row n m zero hm hd h = rw (runs_from_none, append-nil) h
increasing_row n m (suc d) hm hd h =
    let e : d + 1 ≡ suc d = omega arith in
    subst (λ (k : ℕ). IsIncreasing (map (run_vector n) (late_runs n m ++ runs_from (n - (m + 1)) k))) e
    (increasing_more n m d hm (omega arith) (increasing_row n m d hm (omega arith) h))

pub late_increasing : (n m : ℕ) → m ≤ n → IsIncreasing (map (run_vector n) (late_runs n m))
late_increasing n zero h = rw late_runs_none tt
late_increasing n (suc m) h =
    let e : m + 1 ≡ suc m = omega arith in
    subst (λ (k : ℕ). IsIncreasing (map (run_vector n) (late_runs n k))) e
    (rw late_runs_more (increasing_row n m (m + 1) (omega arith) (omega arith) (late_increasing n m (omega arith))))

-- ---- the start list
pub start_list_is : (n : ℕ) → start_list n ≡ map (run_vector n) (late_runs n n)
unfolding start_list
start_list_is n = refl

pub Contains-map_back : {X Y : Type 0} (f : X → Y) (xs : List X) (y : Y) → Contains (map f xs) y → (x : X) × Contains xs x × (f x ≡ y)
Contains-map_back f [] y (k, l, e) = absurd (omega arith)
Contains-map_back f (x ∷ xs) y (zero, l, e) = (x, (0, omega arith, refl), e)
Contains-map_back f (x ∷ xs) y (suc k, l, e) = let c = Contains-map_back f xs y (k, omega arith, e) in
    (c.0, (suc c.1.0, (let h = c.1.1 in omega arith), c.1.2), c.2)

pub length-start_list : (n : ℕ) → length (start_list n) ≡ triangle n
length-start_list n = ap length (start_list_is n) ∙ length-map (late_runs n n) (run_vector n) ∙ length-late_runs n n

pub lists_start_vectors : (n : ℕ) → ListsStartVectors n (start_list n)
lists_start_vectors n = rw start_list_is record {
  each = λ x c. let r = Contains-map_back (run_vector n) (late_runs n n) x c in
      (r.0, (All-contains (IsLate n n) (late_runs n n) r.0 (late_runs_all n n (omega arith)) r.1).within, sym r.2);
  all = λ x (r, within, e). subst (Contains (map (run_vector n) (late_runs n n))) (sym e)
      (Contains-map (run_vector n) (late_runs n n) r (late_runs_contain n n r (omega arith) within (omega arith)));
  increasing = late_increasing n n (omega arith);
}

-- ---- a vector that is filled place by place
pub run_vector_filled : (n : ℕ) (r : Run) (xs : List ℕ) → n ≤ length xs
    → ((k : ℕ) → r.first ≤ k → k ≤ r.last → slice_index_or xs k 0 ≡ 1) → ((k : ℕ) → k < r.first → slice_index_or xs k 0 ≡ 0)
    → ((k : ℕ) → r.last < k → slice_index_or xs k 0 ≡ 0)
    → take n xs ≡ run_vector n r
unfolding run_vector
run_vector_filled n r xs long ones before after =
    fill_by_all (run_digit r) (take n xs) n 0 (length-take-le n xs long) (λ k l. get_or-take n xs k 0 l ∙ by k (order k))
  where
    order : (k : ℕ) → (k < r.first) ⊎ ((r.last < k) ⊎ ((r.first ≤ k) × (k ≤ r.last)))
    order k = grind arith

    by : (k : ℕ) → ((k < r.first) ⊎ ((r.last < k) ⊎ ((r.first ≤ k) × (k ≤ r.last)))) → slice_index_or xs k 0 ≡ run_digit r k
    by k (inl a) = before k a ∙ sym (run_digit_before r k a)
    by k (inr (inl b)) = after k b ∙ sym (run_digit_after r k b)
    by k (inr (inr (a, b))) = ones k a b ∙ sym (run_digit_inside r k a b)

run_digit_small : (r : Run) (p : ℕ) → run_digit r p ≤ 1
unfolding run_digit
run_digit_small r p = grind arith

pub run_vector_is_vector : (n : ℕ) (r : Run) → 1 ≤ n → n ≤ 8 → IsVector (run_vector n r)
run_vector_is_vector n r one eight =
    let long = length-run_vector n r in
    record { nonempty = omega arith; short = omega arith; small = λ p l. rw (run_vector_at n r p (omega arith)) (omega (arith, run_digit_small r p)) }

-- the steps of the filling
pub ones_more : (xs : List ℕ) (first i : ℕ) → i < length xs → ((k : ℕ) → first ≤ k → k < i → slice_index_or xs k 0 ≡ 1)
    → (k : ℕ) → first ≤ k → k < i + 1 → slice_index_or (set xs i 1) k 0 ≡ 1
ones_more xs first i l h k a b = by (here_or_before k i b)
  where
    by : ((k ≡ i) ⊎ (k < i)) → slice_index_or (set xs i 1) k 0 ≡ 1
    by (inl e) = rw e (get_or-set_same xs i 1 0 l)
    by (inr m) = get_or-set_other xs i k 1 0 (omega arith) ∙ h k a m

pub zero_stays : (xs : List ℕ) (i k : ℕ) → k ≢ i → slice_index_or xs k 0 ≡ 0 → slice_index_or (set xs i 1) k 0 ≡ 0
zero_stays xs i k ne h = get_or-set_other xs i k 1 0 ne ∙ h

-- the step of a loop over the runs that begin at one place
next_run : (n m first last : ℕ) → m < n → first ≡ n - 1 - m → first ≤ last
    → run_vector n (record { first = n - (m + 1); last = n - (m + 1) + (last - first) }) ≡ run_vector n (record { first = first; last = last })
next_run n m first last hm e a =
    let f : n - (m + 1) ≡ first = omega arith in
    let l : n - (m + 1) + (last - first) ≡ last = omega arith in
    ap₂ (λ (j : ℕ) (k : ℕ). run_vector n (record { first = j; last = k })) f l

pub can_follow_next : (n m first last : ℕ) (list : List (List ℕ)) (x : List ℕ) → m < n → first ≡ n - 1 - m → first ≤ last → last < n
    → list ≡ map (run_vector n) (late_runs n m ++ runs_from (n - (m + 1)) (last - first)) → x ≡ run_vector n (record { first = first; last = last })
    → CanFollow list x
can_follow_next n m first last list x hm e a b is_list is_x =
    rw (is_list, is_x, ← next_run n m first last hm e a) (can_follow_runs n m (last - first) hm (omega arith))

pub next_appended : (n m first last : ℕ) (list new : List (List ℕ)) (x : List ℕ) → m < n → first ≡ n - 1 - m → first ≤ last
    → list ≡ map (run_vector n) (late_runs n m ++ runs_from (n - (m + 1)) (last - first)) → x ≡ run_vector n (record { first = first; last = last })
    → new ≡ list ++ x ∷ []
    → new ≡ map (run_vector n) (late_runs n m ++ runs_from (n - (m + 1)) (last + 1 - first))
next_appended n m first last list new x hm e a is_list is_x is_new =
    let more : last - first + 1 ≡ last + 1 - first = omega arith in
    is_new ∙ ap₂ (λ (xs : List (List ℕ)) (x : List ℕ). xs ++ x ∷ []) is_list (is_x ∙ sym (next_run n m first last hm e a))
    ∙ sym (vectors_more n m (last - first)) ∙ ap (λ (d : ℕ). map (run_vector n) (late_runs n m ++ runs_from (n - (m + 1)) d)) more
