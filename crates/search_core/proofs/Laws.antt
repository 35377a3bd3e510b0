-- Further laws that the code wants.
use Rattle.std.specs.Prelude.{◌≡◌, ◌≢◌, ℕ, suc, ◌<◌, ◌≤◌, ◌⊎◌, length}
use Rattle.std.proofs.Common.{arith, sym, ◌∙◌, ap, ap₂, inl, inr}
use Rattle.unimodular_cone.specs.declared.WideAt.{WideAt}
use Rattle.unimodular_cone.specs.Paths.{Path}
use Rattle.unimodular_cone.specs.declared.WideEntry.{WideEntry}
use Rattle.unimodular_cone.specs.Cones.{Matrix, cone_at}
use Rattle.unimodular_cone.specs.declared.Mode.{Mode}
use Rattle.unimodular_cone.specs.Tree.{IsLow, IsFirstLowAt, IsFirstOverBelow}
use Rattle.search_core.specs.Fair.{Fate, Closed, Split, Low, Dropped, AtLimit, Wide}
use Rattle.search_core.proofs.PathFates.{IsClosedUnder, IsSplitAt, IsPathFate}
use Rattle.unimodular_cone.proofs.Pairs.{some_pair}
use Rattle.search_core.proofs.Settle.{split_not_wide}
use Rattle.unimodular_cone.proofs.Unique.{first_low_at_unique, first_over_below_unique}

-- ---- at most one fate
abbrev IsEnding : Mode → ℕ → Matrix → ℕ → Path → ℕ → Fate → Type 0
IsEnding m n q d p word f = ((f ≡ AtLimit word) × (length p ≡ d))
    ⊎ ((length p ≢ d) × (((at : WideAt) × (f ≡ Wide word at) × IsFirstOverBelow n q p at.path at.entry)
    ⊎ ((i : ℕ) × (j : ℕ) × (f ≡ Split i j word) × IsSplitAt n q p i j)))

abbrev IsThirdFate : Mode → ℕ → Matrix → ℕ → Path → ℕ → Fate → Type 0
IsThirdFate m n q d p word f = ((f ≡ Closed word) × IsClosedUnder m n q p word)
    ⊎ ((¬ IsClosedUnder m n q p word)
    × (((f ≡ Dropped word) × (word < 256) × (word ≡ length p)) ⊎ ((word < 256 → length p < word) × IsEnding m n q d p word f)))

abbrev IsFirstFate : Mode → ℕ → Matrix → ℕ → Path → ℕ → Fate → Type 0
IsFirstFate m n q d p word f = ((f ≡ Dropped word) × (word < 256) × (word < length p))
    ⊎ ((word < 256 → length p ≤ word)
    × (((k : ℕ) × (f ≡ Low (suc k)) × IsFirstLowAt m n q (cone_at n q p) k) ⊎ ((¬ IsLow m n q (cone_at n q p)) × IsThirdFate m n q d p word f)))

soften : (a b : ℕ) → (b < 256 → a < b) → b < 256 → a ≤ b
soften a b h l = let k : a < b = h l in omega arith

fate_in_order : (m : Mode) (n : ℕ) (q : Matrix) (d : ℕ) (p : Path) (word : ℕ) (f : Fate) → IsPathFate m n q d p word f → IsFirstFate m n q d p word f
fate_in_order m n q d p word (Closed w) (e, l, not_low, c) = inr (l, inr (not_low, inl (ap Closed e, c)))
fate_in_order m n q d p word (Low which) (l, (k, e, h)) = inr (l, inl (k, ap Low e, h))
fate_in_order m n q d p word (Dropped w) (e, l, inl lt) = inl (ap Dropped e, l, lt)
fate_in_order m n q d p word (Dropped w) (e, l, inr (same, not_low, not_closed)) =
    inr ((λ _. omega arith), inr (not_low, inr (not_closed, inl (ap Dropped e, l, same))))
fate_in_order m n q d p word (AtLimit w) (e, u, l) =
    inr (soften (length p) word u.not_past, inr (u.not_low, inr (u.not_closed, inr (u.not_past, inl (ap AtLimit e, l)))))
fate_in_order m n q d p word (Wide w at) (e, u, l, o) =
    inr (soften (length p) word u.not_past, inr (u.not_low, inr (u.not_closed, inr (u.not_past, inr (l, inl (at, ap (λ (u : ℕ). Wide u at) e, o))))))
fate_in_order m n q d p word (Split i j w) (e, u, l, o) =
    inr (soften (length p) word u.not_past, inr (u.not_low, inr (u.not_closed, inr (u.not_past, inr (l, inr (i, j, ap (Split i j) e, o))))))

wide_not_both : (n : ℕ) (q : Matrix) (p at_path : Path) (entry : WideEntry) (i j : ℕ) → IsFirstOverBelow n q p at_path entry → IsSplitAt n q p i j → ⊥
wide_not_both n q p at_path entry i j w h =
    split_not_wide n q p at_path entry (record { i = h.row; j = h.column; pair = h.pair; first_fits = h.first_fits; second_fits = h.second_fits }) w

ending_unique : (m : Mode) (n : ℕ) (q : Matrix) (d : ℕ) (p : Path) (word : ℕ) (f g : Fate) → IsEnding m n q d p word f → IsEnding m n q d p word g → f ≡ g
ending_unique m n q d p word f g (inl (x, l)) (inl (y, k)) = x ∙ sym y
ending_unique m n q d p word f g (inl (x, l)) (inr (k, y)) = absurd (k l)
ending_unique m n q d p word f g (inr (k, y)) (inl (x, l)) = absurd (k l)
ending_unique m n q d p word f g (inr (l, inl (a, x, w))) (inr (k, inl (b, y, w'))) = let u =
    first_over_below_unique n q p a.path b.path a.entry b.entry w w' in x
    ∙ ap₂ (λ (r : Path) (t : WideEntry). Wide word (record { path = r; entry = t })) u.0 u.1 ∙ sym y
ending_unique m n q d p word f g (inr (l, inl (a, x, w))) (inr (k, inr (i, j, y, o))) = absurd (wide_not_both n q p a.path a.entry i j w o)
ending_unique m n q d p word f g (inr (l, inr (i, j, y, o))) (inr (k, inl (a, x, w))) = absurd (wide_not_both n q p a.path a.entry i j w o)
ending_unique m n q d p word f g (inr (l, inr (i, j, x, o))) (inr (k, inr (i', j', y, o'))) = let v : (o.row ≡ o'.row) × (o.column ≡ o'.column) =
    some_pair (sym o.pair ∙ o'.pair) in let u : (i ≡ i') × (j ≡ j') = (o.is_row ∙ ap suc v.0 ∙ sym o'.is_row, o.is_column ∙ ap suc v.1 ∙ sym o'.is_column) in x
    ∙ ap₂ (λ (a : ℕ) (b : ℕ). Split a b word) u.0 u.1 ∙ sym y

third_unique : (m : Mode) (n : ℕ) (q : Matrix) (d : ℕ) (p : Path) (word : ℕ) (f g : Fate) → IsThirdFate m n q d p word f → IsThirdFate m n q d p word g → f ≡ g
third_unique m n q d p word f g (inl (x, c)) (inl (y, c')) = x ∙ sym y
third_unique m n q d p word f g (inl (x, c)) (inr (nc, h)) = absurd (nc c)
third_unique m n q d p word f g (inr (nc, h)) (inl (x, c)) = absurd (nc c)
third_unique m n q d p word f g (inr (nc, inl (x, l, e))) (inr (nc', inl (y, l', e'))) = x ∙ sym y
third_unique m n q d p word f g (inr (nc, inl (x, l, e))) (inr (nc', inr (lt, h))) = absurd (let k : length p < word = lt l in omega arith)
third_unique m n q d p word f g (inr (nc', inr (lt, h))) (inr (nc, inl (x, l, e))) = absurd (let k : length p < word = lt l in omega arith)
third_unique m n q d p word f g (inr (nc, inr (lt, h))) (inr (nc', inr (lt', h'))) = ending_unique m n q d p word f g h h'

pub fate_unique : (m : Mode) (n : ℕ) (q : Matrix) (d : ℕ) (p : Path) (word : ℕ) (f g : Fate) → IsPathFate m n q d p word f → IsPathFate m n q d p word g → f ≡ g
fate_unique m n q d p word f g h k = by (fate_in_order m n q d p word f h) (fate_in_order m n q d p word g k)
  where
    by : IsFirstFate m n q d p word f → IsFirstFate m n q d p word g → f ≡ g
    by (inl (x, l, lt)) (inl (y, l', lt')) = x ∙ sym y
    by (inl (x, l, lt)) (inr (le, r)) = absurd (let e : length p ≤ word = le l in omega arith)
    by (inr (le, r)) (inl (x, l, lt)) = absurd (let e : length p ≤ word = le l in omega arith)
    by (inr (le, inl (a, x, u))) (inr (le', inl (b, y, v))) = x ∙ ap (λ (k : ℕ). Low (suc k)) (first_low_at_unique m n q (cone_at n q p) a b u v) ∙ sym y
    by (inr (le, inl (a, x, u))) (inr (le', inr (not_low, r))) = absurd (not_low (a, u.range, u.low))
    by (inr (le', inr (not_low, r))) (inr (le, inl (a, x, u))) = absurd (not_low (a, u.range, u.low))
    by (inr (le, inr (not_low, r))) (inr (le', inr (not_low', r'))) = third_unique m n q d p word f g r r'
