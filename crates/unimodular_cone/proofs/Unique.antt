-- Each relation of the search holds of at most one value.
use Rattle.std.specs.Prelude.{◌≡◌, ℕ, ◌<◌, true, false, ◌⊎◌, [], ◌∷◌, ◌++◌}
use Rattle.std.proofs.Common.{arith, sym, ◌∙◌, ap, ap₂, refl, inl, inr, subst}
use Rattle.commutative_ring.proofs.SmallCases.{three_ways}
pub use Rattle.commutative_ring.proofs.SmallCases.{both_at_most as both_le}
use Rattle.unimodular_cone.specs.Paths.{Path, IsNoLater, IsNoDeeper}
use Rattle.unimodular_cone.specs.Cones.{Matrix, Generators, child, cone_at, Fits, WideEntry, Coordinate, Gram, StandsBefore, IsFirstOver}
use Rattle.unimodular_cone.specs.Tree.{Mode, IsFirstLowAt, IsFirstOverBelow}
use Rattle.unimodular_cone.proofs.Pairs.{some_pair}

-- ---- paths
pub no_later_both : (p r : Path) → IsNoLater p r → IsNoLater r p → p ≡ r
no_later_both [] [] h k = refl
no_later_both [] (s ∷ r) h k = absurd k
no_later_both (s ∷ p) [] h k = absurd h
no_later_both (false ∷ p) (false ∷ r) h k = ap (λ (w : Path). false ∷ w) (no_later_both p r h k)
no_later_both (false ∷ p) (true ∷ r) h k = absurd k
no_later_both (true ∷ p) (false ∷ r) h k = absurd h
no_later_both (true ∷ p) (true ∷ r) h k = ap (λ (w : Path). true ∷ w) (no_later_both p r h k)

pub no_deeper_both : (p r : Path) → IsNoDeeper p r → IsNoDeeper r p → p ≡ r
no_deeper_both p r (inl h) (inl k) = absurd (omega arith)
no_deeper_both p r (inl h) (inr k) = absurd (omega arith)
no_deeper_both p r (inr h) (inl k) = absurd (omega arith)
no_deeper_both p r (inr h) (inr k) = no_later_both p r h.1 k.1

pub first_low_at_unique : (m : Mode) (n : ℕ) (q : Matrix) (v : Generators) (k l : ℕ) → IsFirstLowAt m n q v k → IsFirstLowAt m n q v l → k ≡ l
first_low_at_unique m n q v k l a b = by (three_ways k l)
  where
    by : ((k < l) ⊎ ((k ≡ l) ⊎ (l < k))) → k ≡ l
    by (inl lt) = absurd (b.first k lt a.low)
    by (inr (inl e)) = e
    by (inr (inr lt)) = absurd (a.first l lt b.low)

-- ---- entries over their limit
pairs_order : (a b c d : ℕ) → ((a < c) ⊎ ((a ≡ c) × (b < d))) ⊎ (((a ≡ c) × (b ≡ d)) ⊎ ((c < a) ⊎ ((c ≡ a) × (d < b))))
pairs_order a b c d = by (three_ways a c) (three_ways b d)
  where
    by : ((a < c) ⊎ ((a ≡ c) ⊎ (c < a))) → ((b < d) ⊎ ((b ≡ d) ⊎ (d < b)))
        → ((a < c) ⊎ ((a ≡ c) × (b < d))) ⊎ (((a ≡ c) × (b ≡ d)) ⊎ ((c < a) ⊎ ((c ≡ a) × (d < b))))
    by (inl h) k = inl (inl h)
    by (inr (inl e)) (inl h) = inl (inr (e, h))
    by (inr (inl e)) (inr (inl f)) = inr (inl (e, f))
    by (inr (inl e)) (inr (inr h)) = inr (inr (inr (sym e, h)))
    by (inr (inr h)) k = inr (inr (inl h))

-- entries of one kind stand in the order of their places
ordered : (kind : ℕ → ℕ → WideEntry) (a b c d : ℕ) → (((a < c) ⊎ ((a ≡ c) × (b < d))) → StandsBefore (kind a b) (kind c d))
    → (((c < a) ⊎ ((c ≡ a) × (d < b))) → StandsBefore (kind c d) (kind a b))
    → StandsBefore (kind a b) (kind c d) ⊎ ((kind a b ≡ kind c d) ⊎ StandsBefore (kind c d) (kind a b))
ordered kind a b c d before after = by (pairs_order a b c d)
  where
    by : (((a < c) ⊎ ((a ≡ c) × (b < d))) ⊎ (((a ≡ c) × (b ≡ d)) ⊎ ((c < a) ⊎ ((c ≡ a) × (d < b)))))
        → StandsBefore (kind a b) (kind c d) ⊎ ((kind a b ≡ kind c d) ⊎ StandsBefore (kind c d) (kind a b))
    by (inl h) = inl (before h)
    by (inr (inl (e, f))) = inr (inl (ap₂ kind e f))
    by (inr (inr h)) = inr (inr (after h))

pub entries_order : (e f : WideEntry) → StandsBefore e f ⊎ ((e ≡ f) ⊎ StandsBefore f e)
entries_order (Coordinate k p) (Coordinate l r) = ordered Coordinate k p l r (λ h. h) (λ h. h)
entries_order (Coordinate k p) (Gram i j) = inl tt
entries_order (Gram i j) (Coordinate k p) = inr (inr tt)
entries_order (Gram i j) (Gram k l) = ordered Gram i j k l (λ h. h) (λ h. h)

pub first_over_unique : (n : ℕ) (q : Matrix) (v : Generators) (e f : WideEntry) → IsFirstOver n q v e → IsFirstOver n q v f → e ≡ f
first_over_unique n q v e f a b = by (entries_order e f)
  where
    by : (StandsBefore e f ⊎ ((e ≡ f) ⊎ StandsBefore f e)) → e ≡ f
    by (inl h) = absurd (b.first e h a.over)
    by (inr (inl same)) = same
    by (inr (inr h)) = absurd (a.first f h b.over)

abbrev IsInChild : ℕ → Matrix → Path → Path → WideEntry → ℕ → ℕ → Type 0
IsInChild n q p at_path entry i j = ((at_path ≡ p ++ false ∷ []) × IsFirstOver n q (child (cone_at n q p) i j) entry)
    ⊎ (Fits n q (child (cone_at n q p) i j) × (at_path ≡ p ++ true ∷ []) × IsFirstOver n q (child (cone_at n q p) j i) entry)

pub first_over_below_unique : (n : ℕ) (q : Matrix) (p a b : Path) (e f : WideEntry) → IsFirstOverBelow n q p a e → IsFirstOverBelow n q p b f
    → (a ≡ b) × (e ≡ f)
first_over_below_unique n q p a b e f x y = by x.in_child moved
  where
    same : (y.i ≡ x.i) × (y.j ≡ x.j)
    same = some_pair (sym y.pair ∙ x.pair)

    moved : IsInChild n q p b f x.i x.j
    moved = subst (λ (i : ℕ). IsInChild n q p b f i x.j) same.0 (subst (λ (j : ℕ). IsInChild n q p b f y.i j) same.1 y.in_child)

    by : IsInChild n q p a e x.i x.j → IsInChild n q p b f x.i x.j → (a ≡ b) × (e ≡ f)
    by (inl (g, o)) (inl (h, o')) = (g ∙ sym h, first_over_unique n q _ e f o o')
    by (inl (g, o)) (inr (fits, h, o')) = absurd (fits e o.over)
    by (inr (fits, g, o)) (inl (h, o')) = absurd (fits f o'.over)
    by (inr (fits, g, o)) (inr (fits', h, o')) = (g ∙ sym h, first_over_unique n q _ e f o o')
