-- The orders of paths by their words.
use Rattle.std.specs.Prelude.{◌≡◌, ℕ, zero, suc, ◌<◌, ◌≤◌, ◌*◌, true, false, List, [], ◌∷◌, length, drop}
use Rattle.std.specs.Ordering.{MatchOrdering, nat_cmp, ordering_then}
use Rattle.std.specs.Cmp.{ranks, nat_cmp_is}
use Rattle.std.specs.Cmp.Lexicographic.{slice_cmp}
use Rattle.std.specs.declared.cmp.Ordering.{Ordering}
use Rattle.std.specs.declared.cmp.Ordering.TheVariants.{Less, Equal, Greater}
use Rattle.std.proofs.Common.{arith, sym, ◌∙◌, ap, ap₂, refl, length-drop}
use Rattle.unimodular_cone.specs.declared.path.Path.TheInside.{Inside}
use Rattle.unimodular_cone.specs.Paths.{Path, place_order, depth_order}
use Rattle.unimodular_cone.specs.PackedDigits.{binary, packed, digits_of, IsPacked}
use Rattle.unimodular_cone.proofs.Packing.{binary_below, words_are, len_is}

-- ---- by the first words, where they differ
less_first : (k : ℕ) (d e : Path) → binary k d < binary k e → place_order d e ≡ Less
unfolding binary place_order
less_first zero d e h = absurd (omega arith)
less_first (suc k) [] [] h = absurd (omega arith)
less_first (suc k) [] (c ∷ e) h = refl
less_first (suc k) (b ∷ d) [] h = absurd (omega arith)
less_first (suc k) (false ∷ d) (false ∷ e) h = less_first k d e (omega arith)
less_first (suc k) (false ∷ d) (true ∷ e) h = refl
less_first (suc k) (true ∷ d) (false ∷ e) h = absurd (omega (arith, binary_below k e))
less_first (suc k) (true ∷ d) (true ∷ e) h = less_first k d e (omega arith)

greater_first : (k : ℕ) (d e : Path) → binary k e < binary k d → place_order d e ≡ Greater
unfolding binary place_order
greater_first zero d e h = absurd (omega arith)
greater_first (suc k) [] [] h = absurd (omega arith)
greater_first (suc k) (b ∷ d) [] h = refl
greater_first (suc k) [] (c ∷ e) h = absurd (omega arith)
greater_first (suc k) (false ∷ d) (false ∷ e) h = greater_first k d e (omega arith)
greater_first (suc k) (true ∷ d) (false ∷ e) h = refl
greater_first (suc k) (false ∷ d) (true ∷ e) h = absurd (omega (arith, binary_below k d))
greater_first (suc k) (true ∷ d) (true ∷ e) h = greater_first k d e (omega arith)

-- ---- by what is left, where they are the same
compare_suc : (a b : ℕ) → nat_cmp (suc a) (suc b) ≡ nat_cmp a b
compare_suc a b = sym (nat_cmp_is (suc a) (suc b) (nat_cmp a b) (by (nat_cmp a b) (ranks a b)))
  where
    by : (o : Ordering) → MatchOrdering o (a < b) (a ≡ b) (b < a) → MatchOrdering o (suc a < suc b) (suc a ≡ suc b) (suc b < suc a)
    by Less h = omega arith
    by Equal h = ap suc h
    by Greater h = omega arith

compare_less : (n : ℕ) → nat_cmp 0 (suc n) ≡ Less
compare_less n = sym (nat_cmp_is 0 (suc n) Less (omega arith))

compare_greater : (n : ℕ) → nat_cmp (suc n) 0 ≡ Greater
compare_greater n = sym (nat_cmp_is (suc n) 0 Greater (omega arith))

compare_same : (a b : ℕ) → a ≡ b → nat_cmp a b ≡ Equal
compare_same a b e = sym (nat_cmp_is a b Equal e)

shorter_first : (o : Ordering) (r : Path) (n : ℕ) → ordering_then o (nat_cmp 0 (length r)) ≡ place_order [] r → ordering_then o (nat_cmp 0 (suc n)) ≡ Less
unfolding place_order
shorter_first Less r n h = refl
shorter_first Equal r n h = compare_less n
shorter_first Greater [] n h = (cc)
shorter_first Greater (s ∷ r) n h = (cc)

longer_last : (o : Ordering) (r : Path) (n : ℕ) → ordering_then o (nat_cmp (length r) 0) ≡ place_order r [] → ordering_then o (nat_cmp (suc n) 0) ≡ Greater
unfolding place_order
longer_last Greater r n h = refl
longer_last Equal r n h = compare_greater n
longer_last Less [] n h = (cc)
longer_last Less (s ∷ r) n h = (cc)

same_first : (k : ℕ) (d e : Path) (o : Ordering) → binary k d ≡ binary k e
    → ordering_then o (nat_cmp (length (drop k d)) (length (drop k e))) ≡ place_order (drop k d) (drop k e)
    → ordering_then o (nat_cmp (length d) (length e)) ≡ place_order d e
unfolding binary place_order
same_first zero d e o same h = h
same_first (suc k) [] [] o same h = h
same_first (suc k) [] (c ∷ e) o same h = shorter_first o (drop k e) (length e) h
same_first (suc k) (b ∷ d) [] o same h = longer_last o (drop k d) (length d) h
same_first (suc k) (false ∷ d) (false ∷ e) o same h = ap (ordering_then o) (compare_suc (length d) (length e)) ∙ same_first k d e o (omega arith) h
same_first (suc k) (false ∷ d) (true ∷ e) o same h = absurd (omega (arith, binary_below k d))
same_first (suc k) (true ∷ d) (false ∷ e) o same h = absurd (omega (arith, binary_below k e))
same_first (suc k) (true ∷ d) (true ∷ e) o same h = ap (ordering_then o) (compare_suc (length d) (length e)) ∙ same_first k d e o (omega arith) h

pub packed-order : (m : ℕ) (d e : Path) → length d ≤ 64 * m → length e ≤ 64 * m
    → ordering_then (slice_cmp nat_cmp (packed m d) (packed m e)) (nat_cmp (length d) (length e)) ≡ place_order d e
unfolding packed place_order
packed-order zero [] [] l r = refl
packed-order zero (b ∷ d) e l r = absurd (omega arith)
packed-order zero [] (c ∷ e) l r = absurd (omega arith)
packed-order (suc m) d e l r = by (nat_cmp (binary 64 d) (binary 64 e)) (ranks (binary 64 d) (binary 64 e))
    (packed-order m (drop 64 d) (drop 64 e) (omega (arith, length-drop 64 d)) (omega (arith, length-drop 64 e)))
  where
    rest : Ordering
    rest = slice_cmp nat_cmp (packed m (drop 64 d)) (packed m (drop 64 e))

    by : (o : Ordering) → MatchOrdering o (binary 64 d < binary 64 e) (binary 64 d ≡ binary 64 e) (binary 64 e < binary 64 d)
        → ordering_then rest (nat_cmp (length (drop 64 d)) (length (drop 64 e))) ≡ place_order (drop 64 d) (drop 64 e)
        → ordering_then (ordering_then o rest) (nat_cmp (length d) (length e)) ≡ place_order d e
    by Less h k = sym (less_first 64 d e h)
    by Equal h k = same_first 64 d e rest h k
    by Greater h k = sym (greater_first 64 d e h)

pub packed-depth_order : (m : ℕ) (d e : Path) → length d ≤ 64 * m → length e ≤ 64 * m
    → ordering_then (nat_cmp (length d) (length e)) (slice_cmp nat_cmp (packed m d) (packed m e)) ≡ depth_order d e
unfolding depth_order
packed-depth_order m d e l r = by (nat_cmp (length d) (length e)) refl (slice_cmp nat_cmp (packed m d) (packed m e)) (packed-order m d e l r)
  where
    by : (o : Ordering) → nat_cmp (length d) (length e) ≡ o → (w : Ordering) → ordering_then w (nat_cmp (length d) (length e)) ≡ place_order d e
        → ordering_then o w ≡ ordering_then o (place_order d e)
    by Less f w h = refl
    by Greater f w h = refl
    by Equal f Less h = h
    by Equal f Equal h = sym f ∙ h
    by Equal f Greater h = h

-- ---- the fields of two paths
at_most : (p : Inside) → IsPacked p → length (digits_of p) ≤ 64 * 4
at_most p h = let l : p.len ≡ length (digits_of p) = len_is p h in let room : p.len ≤ 200 = h.room in omega arith

pub fields-order : (p r : Inside) → IsPacked p → IsPacked r
    → ordering_then (slice_cmp nat_cmp p.words r.words) (nat_cmp p.len r.len) ≡ place_order (digits_of p) (digits_of r)
fields-order p r h k =
    ap₂ (λ (ws : List ℕ) (vs : List ℕ). ordering_then (slice_cmp nat_cmp ws vs) (nat_cmp p.len r.len)) (words_are p h) (words_are r k)
    ∙ ap₂ (λ (a : ℕ) (b : ℕ). ordering_then (slice_cmp nat_cmp (packed 4 (digits_of p)) (packed 4 (digits_of r))) (nat_cmp a b)) (len_is p h) (len_is r k)
    ∙ packed-order 4 (digits_of p) (digits_of r) (at_most p h) (at_most r k)

pub fields-depth_order : (p r : Inside) → IsPacked p → IsPacked r
    → ordering_then (nat_cmp p.len r.len) (slice_cmp nat_cmp p.words r.words) ≡ depth_order (digits_of p) (digits_of r)
fields-depth_order p r h k =
    ap₂ (λ (ws : List ℕ) (vs : List ℕ). ordering_then (nat_cmp p.len r.len) (slice_cmp nat_cmp ws vs)) (words_are p h) (words_are r k)
    ∙ ap₂ (λ (a : ℕ) (b : ℕ). ordering_then (nat_cmp a b) (slice_cmp nat_cmp (packed 4 (digits_of p)) (packed 4 (digits_of r)))) (len_is p h) (len_is r k)
    ∙ packed-depth_order 4 (digits_of p) (digits_of r) (at_most p h) (at_most r k)
