-- How often a path stands in a list.
use Rattle.std.specs.Prelude.{◌≡◌, ◌≢◌, ℕ, zero, suc, ◌<◌, ◌≤◌, ◌+◌, Bool, true, false, cond, ◌⊎◌, List, [], ◌∷◌, ◌++◌, length, slice_index_or, slice_set}
use Rattle.std.proofs.Common.{arith, sym, ◌∙◌, ap, ap₂, refl, inl, inr, subst, length-append}
use Rattle.unimodular_cone.specs.Paths.{Path}
use Rattle.unimodular_cone.proofs.Tree.{root_or_child}
use Rattle.search_core.specs.Fair.{Fate, Closed, Split, Low, Dropped, AtLimit, Wide, Judged}
use Rattle.search_core.specs.Machine.{Hand, Empty, held, in_hands, paths, below_splits, due, children_of, same_path, times}

same_self : (p : Path) → same_path p p ≡ true
same_self [] = refl
same_self (false ∷ p) = same_self p
same_self (true ∷ p) = same_self p

same_true : (p r : Path) → same_path p r ≡ true → p ≡ r
same_true [] [] e = refl
same_true [] (b ∷ r) e = (cc)
same_true (a ∷ p) [] e = absurd (by a e)
  where
    by : (a : Bool) → same_path (a ∷ p) [] ≡ true → ⊥
    by false e = cc
    by true e = cc
same_true (false ∷ p) (false ∷ r) e = ap (λ (w : Path). false ∷ w) (same_true p r e)
same_true (false ∷ p) (true ∷ r) e = (cc)
same_true (true ∷ p) (false ∷ r) e = (cc)
same_true (true ∷ p) (true ∷ r) e = ap (λ (w : Path). true ∷ w) (same_true p r e)

pub path_or_not : (p r : Path) → (p ≡ r) ⊎ (p ≢ r)
path_or_not p r = by (same_path p r) refl
  where
    by : (b : Bool) → same_path p r ≡ b → (p ≡ r) ⊎ (p ≢ r)
    by true e = inl (same_true p r e)
    by false e = inr (λ h. let t : same_path p r ≡ true = subst (λ (w : Path). same_path p w ≡ true) h (same_self p) in cc)

pub times_none : (p : Path) → times p [] ≡ 0
unfolding times
times_none p = refl

pub times_same : (p r : Path) (l : List Path) → p ≡ r → times p (r ∷ l) ≡ 1 + times p l
unfolding times
times_same p r l e = ap (λ (b : Bool). cond b 1 0 + times p l) (subst (λ (w : Path). same_path p w ≡ true) e (same_self p))

pub times_other : (p r : Path) (l : List Path) → p ≢ r → times p (r ∷ l) ≡ times p l
unfolding times
times_other p r l ne = by (same_path p r) refl
  where
    by : (b : Bool) → same_path p r ≡ b → cond b 1 0 + times p l ≡ times p l
    by true e = absurd (ne (same_true p r e))
    by false e = omega arith

pub times-append : (p : Path) (a b : List Path) → times p (a ++ b) ≡ times p a + times p b
unfolding times
times-append p [] b = omega arith
times-append p (r ∷ a) b = let h : times p (a ++ b) ≡ times p a + times p b = times-append p a b in omega arith

pub times_cons : (p r : Path) (l : List Path) → times p (r ∷ l) ≡ times p (r ∷ []) + times p l
times_cons p r l = times-append p (r ∷ []) l

pub times_hands : (p : Path) (hands : List Hand) (k : ℕ) (h : Hand) → k < length hands
    → times p (in_hands (slice_set hands k h)) + times p (held (slice_index_or hands k Empty)) ≡ times p (in_hands hands) + times p (held h)
times_hands p [] k h l = absurd (omega arith)
times_hands p (g ∷ hands) zero h l = omega (arith, times-append p (held h) (in_hands hands), times-append p (held g) (in_hands hands))
times_hands p (g ∷ hands) (suc k) h l =
    let r : times p (in_hands (slice_set hands k h)) + times p (held (slice_index_or hands k Empty)) ≡ times p (in_hands hands) + times p (held h) =
    times_hands p hands k h (omega arith) in
    omega (arith, times-append p (held g) (in_hands hands), times-append p (held g) (in_hands (slice_set hands k h)))

-- ---- judgements
pub times_paths_append : (p : Path) (a b : List Judged) → times p (paths (a ++ b)) ≡ times p (paths a) + times p (paths b)
times_paths_append p [] b = omega (arith, times_none p)
times_paths_append p (j ∷ a) b = let h : times p (paths (a ++ b)) ≡ times p (paths a) + times p (paths b) = times_paths_append p a b in
    omega (arith, times_cons p j.path (paths a), times_cons p j.path (paths (a ++ b)))

pub times_below_append : (p : Path) (a b : List Judged) → times p (below_splits (a ++ b)) ≡ times p (below_splits a) + times p (below_splits b)
times_below_append p [] b = omega (arith, times_none p)
times_below_append p (j ∷ a) b = let h : times p (below_splits (a ++ b)) ≡ times p (below_splits a) + times p (below_splits b) = times_below_append p a b in
    omega (arith, times-append p (children_of j.path j.fate) (below_splits a), times-append p (children_of j.path j.fate) (below_splits (a ++ b)))

-- ---- children
no_snoc : (p : Path) (s : Bool) → p ++ s ∷ [] ≢ []
no_snoc [] s e = (cc)
no_snoc (a ∷ p) s e = (cc)

pub snoc_same : (p r : Path) (s t : Bool) → p ++ s ∷ [] ≡ r ++ t ∷ [] → (p ≡ r) × (s ≡ t)
snoc_same [] [] s t e = (refl, (cc))
snoc_same [] (b ∷ r) s t e = absurd (no_snoc r t (sym (let f : [] ≡ r ++ t ∷ [] = cc in f)))
snoc_same (a ∷ p) [] s t e = absurd (no_snoc p s (let f : p ++ s ∷ [] ≡ [] = cc in f))
snoc_same (a ∷ p) (b ∷ r) s t e =
    let h = snoc_same p r s t (let f : p ++ s ∷ [] ≡ r ++ t ∷ [] = cc in f) in
    let g : a ≡ b = cc in
    (ap₂ (λ (x : Bool) (w : Path). x ∷ w) g h.0, h.1)

both_children : Path → List Path
both_children r = (r ++ false ∷ []) ∷ (r ++ true ∷ []) ∷ []

two_children : (x r : Path) → times x (both_children r) ≡ times x ((r ++ false ∷ []) ∷ []) + times x ((r ++ true ∷ []) ∷ [])
unfolding both_children
two_children x r = times_cons x (r ++ false ∷ []) ((r ++ true ∷ []) ∷ [])

single_other : (x y : Path) → x ≢ y → times x (y ∷ []) ≡ 0
single_other x y ne = times_other x y [] ne ∙ times_none x

single_same : (x y : Path) → x ≡ y → times x (y ∷ []) ≡ 1
single_same x y e = let h : times x (y ∷ []) ≡ 1 + times x [] = times_same x y [] e in omega (arith, times_none x)

times_le_one : (x y : Path) → times x (y ∷ []) ≤ 1
times_le_one x y = or (path_or_not x y)
  where
    or : ((x ≡ y) ⊎ (x ≢ y)) → times x (y ∷ []) ≤ 1
    or (inl e) = omega (arith, single_same x y e)
    or (inr ne) = omega (arith, single_other x y ne)

snoc_in_both : (p : Path) (side : Bool) (r : Path) → times (p ++ side ∷ []) (both_children r) ≤ times p (r ∷ [])
snoc_in_both p side r = by (path_or_not p r)
  where
    x : Path
    x = p ++ side ∷ []

    at_side : (side : Bool) → times (p ++ side ∷ []) ((r ++ false ∷ []) ∷ []) + times (p ++ side ∷ []) ((r ++ true ∷ []) ∷ []) ≤ 1
    at_side false = let a : times (p ++ false ∷ []) ((r ++ true ∷ []) ∷ []) ≡ 0 =
        single_other _ _ (λ e. let h : false ≡ true = (snoc_same p r false true e).1 in cc) in
        let b = times_le_one (p ++ false ∷ []) (r ++ false ∷ []) in omega arith
    at_side true = let a : times (p ++ true ∷ []) ((r ++ false ∷ []) ∷ []) ≡ 0 =
        single_other _ _ (λ e. let h : true ≡ false = (snoc_same p r true false e).1 in cc) in
        let b = times_le_one (p ++ true ∷ []) (r ++ true ∷ []) in omega arith

    by : ((p ≡ r) ⊎ (p ≢ r)) → times (p ++ side ∷ []) (both_children r) ≤ times p (r ∷ [])
    by (inl e) = let a = at_side side in let b : times p (r ∷ []) ≡ 1 = single_same p r e in omega (arith, two_children (p ++ side ∷ []) r)
    by (inr ne) =
        let a : times (p ++ side ∷ []) ((r ++ false ∷ []) ∷ []) ≡ 0 = single_other _ _ (λ e. ne (snoc_same p r side false e).0) in
        let b : times (p ++ side ∷ []) ((r ++ true ∷ []) ∷ []) ≡ 0 = single_other _ _ (λ e. ne (snoc_same p r side true e).0) in
        omega (arith, two_children (p ++ side ∷ []) r)

root_in_both : (r : Path) → times [] (both_children r) ≡ 0
root_in_both r = let a = single_other [] (r ++ false ∷ []) (λ e. no_snoc r false (sym e)) in let b =
    single_other [] (r ++ true ∷ []) (λ e. no_snoc r true (sym e)) in omega (arith, two_children [] r)

children_none : (f : Fate) (r x : Path) → (times x (children_of r f) ≡ 0) ⊎ (children_of r f ≡ both_children r)
unfolding both_children
children_none (Closed w) r x = inl (times_none x)
children_none (Split i j w) r x = inr refl
children_none (Low k) r x = inl (times_none x)
children_none (Dropped w) r x = inl (times_none x)
children_none (AtLimit w) r x = inl (times_none x)
children_none (Wide w at) r x = inl (times_none x)

pub snoc_in_children : (p : Path) (side : Bool) (r : Path) (f : Fate) → times (p ++ side ∷ []) (children_of r f) ≤ times p (r ∷ [])
snoc_in_children p side r f = by (children_none f r (p ++ side ∷ []))
  where
    by : ((times (p ++ side ∷ []) (children_of r f) ≡ 0) ⊎ (children_of r f ≡ both_children r)) → times (p ++ side ∷ []) (children_of r f) ≤ times p (r ∷ [])
    by (inl z) = omega arith
    by (inr e) = rw e (snoc_in_both p side r)

pub root_in_children : (r : Path) (f : Fate) → times [] (children_of r f) ≡ 0
root_in_children r f = by (children_none f r [])
  where
    by : ((times [] (children_of r f) ≡ 0) ⊎ (children_of r f ≡ both_children r)) → times [] (children_of r f) ≡ 0
    by (inl z) = z
    by (inr e) = rw e (root_in_both r)

-- a child that is due stands no more often than its parent is judged
pub snoc_below_splits : (p : Path) (side : Bool) (judged : List Judged) → times (p ++ side ∷ []) (below_splits judged) ≤ times p (paths judged)
snoc_below_splits p side [] = omega (arith, times_none p, times_none (p ++ side ∷ []))
snoc_below_splits p side (j ∷ judged) =
    let h : times (p ++ side ∷ []) (below_splits judged) ≤ times p (paths judged) = snoc_below_splits p side judged in
    let c : times (p ++ side ∷ []) (children_of j.path j.fate) ≤ times p (j.path ∷ []) = snoc_in_children p side j.path j.fate in
    omega (arith, times-append (p ++ side ∷ []) (children_of j.path j.fate) (below_splits judged), times_cons p j.path (paths judged))

pub snoc_due : (p : Path) (side : Bool) (judged : List Judged) → times (p ++ side ∷ []) (due judged) ≤ times p (paths judged)
snoc_due p side judged = rw (times_other (p ++ side ∷ []) [] (below_splits judged) (no_snoc p side)) (snoc_below_splits p side judged)

pub root_below_splits : (judged : List Judged) → times [] (below_splits judged) ≡ 0
root_below_splits [] = times_none []
root_below_splits (j ∷ judged) = let h : times [] (below_splits judged) ≡ 0 = root_below_splits judged in
    omega (arith, times-append [] (children_of j.path j.fate) (below_splits judged), root_in_children j.path j.fate)

-- no path is due twice, where no path is judged more often than it is due
pub due_once : (judged : List Judged) → ((x : Path) → times x (paths judged) ≤ times x (due judged)) → (x : Path) → times x (due judged) ≤ 1
due_once judged h x = go (length x) x (omega arith)
  where
    go : (fuel : ℕ) (x : Path) → length x ≤ fuel → times x (due judged) ≤ 1
    go zero [] l = omega (arith, times_same [] [] (below_splits judged) refl, root_below_splits judged)
    go zero (a ∷ x) l = absurd (omega arith)
    go (suc fuel) x l = by (root_or_child x) (go fuel)
      where
        by : ((x ≡ []) ⊎ ((p : Path) × (side : Bool) × (x ≡ p ++ side ∷ []))) → ((y : Path) → length y ≤ fuel → times y (due judged) ≤ 1)
            → times x (due judged) ≤ 1
        by (inl e) rec =
            subst (λ (w : Path). times w (due judged) ≤ 1) (sym e) (omega (arith, times_same [] [] (below_splits judged) refl, root_below_splits judged))
        by (inr (p, side, e)) rec = subst (λ (w : Path). times w (due judged) ≤ 1) (sym e)
            (let a : times (p ++ side ∷ []) (due judged) ≤ times p (paths judged) = snoc_due p side judged in
            let b : times p (paths judged) ≤ times p (due judged) = h p in
            let c : times p (due judged) ≤ 1 = rec p (omega (arith, ap length e, length-append {A = Bool})) in omega arith)
