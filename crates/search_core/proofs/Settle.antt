-- A fair list of judgements settles to the search's answer.
use Rattle.std.specs.Prelude.{◌≡◌, ◌≢◌, ℕ, ◌<◌, ◌≤◌, ◌-◌, max, ℤ, pos, ◌≤ℤ◌, true, false, ◌⊎◌, Option, Some, [], ◌∷◌, ◌++◌, length}
use Rattle.std.proofs.Common.{arith, sym, ◌∙◌, refl, inl, inr, subst}
use Rattle.std.proofs.lemmas.Int.{ints}
use Rattle.exact_forms.specs.Forms.{form, IsSymmetric}
use Rattle.exact_forms.specs.Slacks.{IsClosed}
use Rattle.unimodular_cone.specs.declared.WideAt.{WideAt}
use Rattle.unimodular_cone.specs.Paths.{Path, IsAbove}
use Rattle.unimodular_cone.specs.declared.WideEntry.{WideEntry}
use Rattle.unimodular_cone.specs.Cones.{Matrix, Generators, gram, child, cone_at, LiesIn, Fits, IsFirstOver}
use Rattle.unimodular_cone.specs.declared.Mode.{Mode}
use Rattle.unimodular_cone.specs.declared.Mode.TheVariants.{Sign, Least}
use Rattle.unimodular_cone.specs.Tree.{CanSplit, IsInTree, IsLowValue, IsLow, IsFirstOverBelow}
use Rattle.search_core.specs.Fair.{Fate, Closed, Split, Dropped, AtLimit, word_of, bound_under, IsSplit, IsLowFate}
use Rattle.search_core.proofs.PathFates.{IsClosedUnder, IsPathFate}
use Rattle.unimodular_cone.proofs.Pairs.{some_pair}
use Rattle.unimodular_cone.proofs.Covers.{generator_lies, closed_at_least, closed_nonnegative, IsNonzeroBelow}
use Rattle.unimodular_cone.proofs.Bounded.{closed_or_not}
use Rattle.unimodular_cone.proofs.Generators.{proper}
use Rattle.unimodular_cone.proofs.Tree.{above_shorter, lies_above_path}

-- ---- one cone
pub split_not_wide : (n : ℕ) (q : Matrix) (p at_path : Path) (entry : WideEntry) → CanSplit n q (cone_at n q p) → IsFirstOverBelow n q p at_path entry → ⊥
split_not_wide n q p at_path entry c w = by w.in_child
  where
    v : Generators
    v = cone_at n q p

    both : ◌≡◌ {A = Option (ℕ × ℕ)} (Some (c.i, c.j)) (Some (w.i, w.j))
    both = sym c.pair ∙ w.pair

    same : (c.i ≡ w.i) × (c.j ≡ w.j)
    same = some_pair both

    by : (((at_path ≡ p ++ false ∷ []) × IsFirstOver n q (child v w.i w.j) entry)
        ⊎ (Fits n q (child v w.i w.j) × (at_path ≡ p ++ true ∷ []) × IsFirstOver n q (child v w.j w.i) entry)) → ⊥
    by (inl (e, over)) = subst (λ (k : ℕ). Fits n q (child v k w.j)) same.0 (subst (λ (k : ℕ). Fits n q (child v c.i k)) same.1 c.first_fits) entry over.over
    by (inr (f, e, over)) =
        subst (λ (k : ℕ). Fits n q (child v w.j k)) same.0 (subst (λ (k : ℕ). Fits n q (child v k c.i)) same.1 c.second_fits) entry over.over

pub bound_grows : (m : Mode) (a b : ℕ) → a ≤ b → bound_under m a ≤ℤ bound_under m b
bound_grows Sign a b h = omega (arith, ints)
bound_grows Least a b h = omega (arith, ints)

pub closed_below : (n : ℕ) (g : Matrix) (b c : ℤ) → b ≤ℤ c → IsClosed n g c → IsClosed n g b
closed_below n g b c h closed i l = let k : c ≤ℤ _ = closed i l in omega (arith, ints)

-- no low vector lies in a closed cone
low_not_in_closed : (m : Mode) (n : ℕ) (q : Matrix) (v : Generators) (word : ℕ) (x : ℕ → ℤ) → IsSymmetric n q → IsClosed n (gram n q v) (bound_under m word)
    → LiesIn n v x → IsNonzeroBelow n x → IsLowValue m (form n q x) → ⊥
low_not_in_closed Sign n q v word x s closed l nonzero low = let h : pos 0 ≤ℤ form n q x = closed_nonnegative n q v x s closed l in omega (arith, ints)
low_not_in_closed Least n q v word x s closed l nonzero low =
    let h : pos (max 1 (word - 256)) ≤ℤ form n q x = closed_at_least n q v _ x s (omega (arith, ints)) closed l nonzero in
    omega (arith, ints)

low_not_closed : (m : Mode) (n : ℕ) (q : Matrix) (p : Path) (word : ℕ) → IsSymmetric n q → IsLow m n q (cone_at n q p) → IsClosedUnder m n q p word → ⊥
low_not_closed m n q p word s (k, l, low) closed =
    low_not_in_closed m n q (cone_at n q p) word (cone_at n q p k) s closed (generator_lies n (cone_at n q p) k l) ((proper n q p).nonzero k l) low

low_not_closed_above : (m : Mode) (n : ℕ) (q : Matrix) (a p : Path) (word : ℕ) → IsSymmetric n q → IsAbove a p → IsLow m n q (cone_at n q p)
    → IsClosedUnder m n q a word → ⊥
low_not_closed_above m n q a p word s h (k, l, low) closed =
    low_not_in_closed m n q (cone_at n q a) word (cone_at n q p k) s closed (lies_above_path n q a p (cone_at n q p k) h (generator_lies n (cone_at n q p) k l))
    ((proper n q p).nonzero k l) low

-- ---- above a low path of the tree that is no deeper than the final word every judgement is a Split
pub split_above_low : (m : Mode) (n : ℕ) (q : Matrix) (d final : ℕ) (a p : Path) (f : Fate) → IsSymmetric n q → IsPathFate m n q d a (word_of a f) f
    → final ≤ word_of a f
    → IsAbove a p → IsInTree n q d p → IsLow m n q (cone_at n q p) → length p ≤ final → IsSplit f
split_above_low m n q d final a p (Closed w) s fate le above t low short = absurd (low_not_closed_above m n q a p w s above low fate.3)
split_above_low m n q d final a p (Split i j w) s fate le above t low short = tt
split_above_low m n q d final a p (Fate.Low k) s fate le above t low short = absurd (let l : length a < length p = above_shorter a p above in omega arith)
split_above_low m n q d final a p (Dropped w) s fate le above t low short = absurd (by fate.2)
  where
    l : length a < length p
    l = above_shorter a p above

    by : ((w < length a) ⊎ ((w ≡ length a) × (¬ IsLow m n q (cone_at n q a)) × (¬ IsClosedUnder m n q a w))) → ⊥
    by (inl h) = let l' = l in omega arith
    by (inr (e, _, _)) = let l' = l in omega arith
split_above_low m n q d final a p (AtLimit w) s fate le above t low short =
    absurd (let l : length a < length p = above_shorter a p above in let h : length p ≤ d = t.short in let e : length a ≡ d = fate.2 in omega arith)
split_above_low m n q d final a p (Fate.Wide w at) s fate le above t low short = absurd (split_not_wide n q a at.path at.entry (t.above a above) fate.3)

-- and the path's own judgement is Low
pub low_itself : (m : Mode) (n : ℕ) (q : Matrix) (d final : ℕ) (p : Path) (f : Fate) → IsPathFate m n q d p (word_of p f) f → final ≤ word_of p f
    → IsLow m n q (cone_at n q p) → length p ≤ final → IsLowFate f
low_itself m n q d final p (Closed w) fate le low short = absurd (fate.2 low)
low_itself m n q d final p (Split i j w) fate le low short = absurd (fate.1.not_low low)
low_itself m n q d final p (Fate.Low k) fate le low short = tt
low_itself m n q d final p (Dropped w) fate le low short = absurd (by fate.2)
  where
    by : ((w < length p) ⊎ ((w ≡ length p) × (¬ IsLow m n q (cone_at n q p)) × (¬ IsClosedUnder m n q p w))) → ⊥
    by (inl h) = omega arith
    by (inr (_, not_low, _)) = not_low low
low_itself m n q d final p (AtLimit w) fate le low short = absurd (fate.1.not_low low)
low_itself m n q d final p (Fate.Wide w at) fate le low short = absurd (fate.1.not_low low)

pub word_of_low : (p : Path) (f : Fate) → IsLowFate f → word_of p f ≡ length p
word_of_low p (Closed w) h = absurd h
word_of_low p (Split i j w) h = absurd h
word_of_low p (Fate.Low k) h = refl
word_of_low p (Dropped w) h = absurd h
word_of_low p (AtLimit w) h = absurd h
word_of_low p (Fate.Wide w at) h = absurd h

-- ---- where no cone of the tree is low: above a path with no closed cone above it every judgement is a Split
pub split_above_open : (m : Mode) (n : ℕ) (q : Matrix) (d final : ℕ) (a p : Path) (f : Fate) → d ≤ 200 → 256 ≤ final → IsPathFate m n q d a (word_of a f) f
    → final ≤ word_of a f
    → IsAbove a p → IsInTree n q d p → (¬ IsClosedUnder m n q a final) → IsSplit f
split_above_open m n q d final a p (Closed w) small large fate le above t not_closed =
    absurd (not_closed (closed_below n (gram n q (cone_at n q a)) _ _ (bound_grows m final w le) fate.3))
split_above_open m n q d final a p (Split i j w) small large fate le above t not_closed = tt
split_above_open m n q d final a p (Fate.Low k) small large fate le above t not_closed =
    absurd (let l : length a < length p = above_shorter a p above in let h : length p ≤ d = t.short in omega arith)
split_above_open m n q d final a p (Dropped w) small large fate le above t not_closed = absurd (let h : w < 256 = fate.1 in omega arith)
split_above_open m n q d final a p (AtLimit w) small large fate le above t not_closed =
    absurd (let l : length a < length p = above_shorter a p above in let h : length p ≤ d = t.short in let e : length a ≡ d = fate.2 in omega arith)
split_above_open m n q d final a p (Fate.Wide w at) small large fate le above t not_closed =
    absurd (split_not_wide n q a at.path at.entry (t.above a above) fate.3)

-- what a judgement says of a cone that is not closed at the final bound
pub record IsLimitFate (n : ℕ) (q : Matrix) (d : ℕ) (p : Path) (f : Fate) : Type 0 where
  pub word : ℕ
  pub which : ((f ≡ AtLimit word) × (length p ≡ d)) ⊎ ((at : WideAt) × (f ≡ Fate.Wide word at) × (length p ≢ d) × IsFirstOverBelow n q p at.path at.entry)

pub split_or_limit : (m : Mode) (n : ℕ) (q : Matrix) (d final : ℕ) (p : Path) (f : Fate) → d ≤ 200 → 256 ≤ final → IsPathFate m n q d p (word_of p f) f
    → final ≤ word_of p f
    → length p ≤ d → (¬ IsClosedUnder m n q p final) → IsSplit f ⊎ IsLimitFate n q d p f
split_or_limit m n q d final p (Closed w) small large fate le short not_closed =
    absurd (not_closed (closed_below n (gram n q (cone_at n q p)) _ _ (bound_grows m final w le) fate.3))
split_or_limit m n q d final p (Split i j w) small large fate le short not_closed = inl tt
split_or_limit m n q d final p (Fate.Low k) small large fate le short not_closed = absurd (omega arith)
split_or_limit m n q d final p (Dropped w) small large fate le short not_closed = absurd (let h : w < 256 = fate.1 in omega arith)
split_or_limit m n q d final p (AtLimit w) small large fate le short not_closed = inr (record { word = w; which = inl (refl, fate.2) })
split_or_limit m n q d final p (Fate.Wide w at) small large fate le short not_closed = inr (record { word = w; which = inr (at, refl, fate.2, fate.3) })

-- a Split's cone can split, and is not at the limit
pub split_can : (m : Mode) (n : ℕ) (q : Matrix) (d : ℕ) (p : Path) (f : Fate) → IsPathFate m n q d p (word_of p f) f → IsSplit f
    → CanSplit n q (cone_at n q p) × (length p ≢ d)
split_can m n q d p (Closed w) fate h = absurd h
split_can m n q d p (Split i j w) fate h =
    (record { i = fate.3.row; j = fate.3.column; pair = fate.3.pair; first_fits = fate.3.first_fits; second_fits = fate.3.second_fits }, fate.2)
split_can m n q d p (Fate.Low k) fate h = absurd h
split_can m n q d p (Dropped w) fate h = absurd h
split_can m n q d p (AtLimit w) fate h = absurd h
split_can m n q d p (Fate.Wide w at) fate h = absurd h

-- above a path of the tree, where no cone is low, a judgement is a Split or closed at the final bound
pub split_or_closed : (m : Mode) (n : ℕ) (q : Matrix) (d final : ℕ) (a p : Path) (f : Fate) → d ≤ 200 → 256 ≤ final → IsPathFate m n q d a (word_of a f) f
    → final ≤ word_of a f
    → IsAbove a p → IsInTree n q d p → IsSplit f ⊎ IsClosedUnder m n q a final
split_or_closed m n q d final a p f small large fate le above t = by (closed_or_not n (gram n q (cone_at n q a)) (bound_under m final))
  where
    by : (IsClosedUnder m n q a final ⊎ (¬ IsClosedUnder m n q a final)) → IsSplit f ⊎ IsClosedUnder m n q a final
    by (inl c) = inr c
    by (inr not_closed) = inl (split_above_open m n q d final a p f small large fate le above t not_closed)
