-- The search of the first matrix for a value below 0: its root is closed at 0, so nothing is low and no path is open.
use Rattle.std.specs.Prelude.{◌≡◌, ◌≢◌, ◌⊎◌, ℕ, zero, suc, ◌+◌, ◌<◌, ◌≤◌, nat_eq, nat_le, if◌then◌else◌, cond, eqb, Bool, true, false, [], ◌∷◌}
use Rattle.std.specs.Prelude.{ℤ, pos, negsuc, nat_abs, ◌+ℤ◌, ◌-ℤ◌, ◌≤ℤ◌}
use Rattle.std.proofs.Common.{arith, sym, ◌∙◌, ap, refl, subst, inl, inr}
use Rattle.std.proofs.lemmas.Int.{ints}
use Rattle.commutative_ring.proofs.SmallCases.{same_or_not}
use Rattle.exact_forms.specs.Forms.{IsSymmetric}
use Rattle.exact_forms.specs.Copositive.{Matrix}
use Rattle.exact_forms.specs.Slacks.{shortfall, slack, IsClosed}
use Rattle.exact_forms.specs.Sums.{sum_to}
use Rattle.exact_forms.proofs.Slacks.{replaced_here, replaced_other, slack_is_diagonal_less, slack_same}
use Rattle.exact_forms.proofs.Sums.{sum_to-zero, sum_to-suc}
use Rattle.symmetric_matrix.specs.Symmetric.{entry}
use Rattle.symmetric_matrix.specs.Recipes.{Place}
use Rattle.symmetric_matrix.specs.FirstMatrix.{first_minimum, first_entry, first_matrix}
use Rattle.symmetric_matrix.proofs.Places.{entry_flip}
use Rattle.symmetric_matrix.proofs.TrianglePlaces.{placed_entry}
use Rattle.symmetric_matrix.proofs.FirstMatrix.{first_minimum_two, first_minimum_cases, first_entry_cases}
use Rattle.unimodular_cone.specs.declared.Mode.{Mode}
use Rattle.unimodular_cone.specs.declared.WideEntry.{WideEntry}
use Rattle.unimodular_cone.specs.declared.WideEntry.TheVariants.{Coordinate, Gram}
use Rattle.unimodular_cone.specs.Paths.{Path}
use Rattle.unimodular_cone.specs.Cones.{unit_vectors, gram, cone_from, cone_at, LiesIn, Fits, IsOverLimit}
use Rattle.unimodular_cone.specs.Tree.{IsLow, IsClosedAt, IsOpen}
use Rattle.unimodular_cone.specs.Answer.{Copositive, IsSearchAnswer}
use Rattle.unimodular_cone.proofs.Covers.{generator_lies, lies_above, closed_nonnegative}
use Rattle.unimodular_cone.proofs.Roots.{gram-unit}

-- ---- a matrix whose root is closed at 0
module _ (n : ℕ) (q : Matrix) (depth : ℕ) (s : IsSymmetric n q) (fits : Fits n q unit_vectors) (closed : IsClosed n (gram n q unit_vectors) (pos 0)) where
  -- each generator of the tree is a combination of the root's
  none_low : (path : Path) → IsLow Mode.Sign n q (cone_at n q path) → ⊥
  none_low path (k, l, low) =
      let lies : LiesIn n unit_vectors (cone_at n q path k) = lies_above n q unit_vectors path (cone_at n q path k) (generator_lies n (cone_at n q path) k l) in
      absurd (let h = closed_nonnegative n q unit_vectors (cone_at n q path k) s closed lies in omega (arith, ints))

  closed_root : IsClosedAt n q [] (pos 0)
  unfolding cone_from
  closed_root = closed

  none_open : (path : Path) → IsOpen n q depth (pos 0) path → ⊥
  none_open [] o = o.itself closed_root
  none_open (side ∷ path) o = o.above [] (side, path, refl) closed_root

  pub closed_root_answers : IsSearchAnswer Mode.Sign n q depth Copositive
  closed_root_answers = (
    refl,
    record {
      clear = record { bound_fits = tt; root_fits = fits; none_low = λ path within low. none_low path low };
      is_bound = refl;
      none_open = none_open;
    },
  )

-- ---- the entries of the first matrix
first_below : (n i j : ℕ) → j ≤ i → i < n → entry (first_matrix n) i j ≡ first_entry n (record { row = i; column = j })
unfolding first_matrix
first_below n i j h l = placed_entry n (first_entry n) i j h l

-- how many entries beside the diagonal at row i, column j are -1, and how many at the columns below j
abbrev touches : ℕ → ℕ → ℕ
touches i j = if nat_eq (j + 1) i then 1 else (if nat_eq j (i + 1) then 1 else 0)

abbrev seen : ℕ → ℕ → ℕ
seen i j = (if nat_le i j then 1 else 0) + (if nat_le (i + 2) j then 1 else 0)

seen_more : (i j : ℕ) → seen i j + touches i j ≤ seen i (suc j)
seen_more i j = grind arith

abbrev beside : ℕ → ℕ → ℕ → ℤ
beside n i j = cond (eqb j i) (pos 0) (shortfall (entry (first_matrix n) i j))

diagonal_is : (n i : ℕ) → first_entry n (record { row = i; column = i }) ≡ first_minimum n
diagonal_is n i = grind arith

left_is : (n i j : ℕ) → j < i → first_entry n (record { row = i; column = j }) ≡ (if nat_eq (j + 1) i then negsuc 0 else pos 0)
left_is n i j l = grind arith

right_is : (n i j : ℕ) → i < j → first_entry n (record { row = j; column = i }) ≡ (if nat_eq j (i + 1) then negsuc 0 else pos 0)
right_is n i j l = grind arith

touches_left : (i j : ℕ) → j < i → touches i j ≡ (if nat_eq (j + 1) i then 1 else 0)
touches_left i j l = grind arith

touches_right : (i j : ℕ) → i < j → touches i j ≡ (if nat_eq j (i + 1) then 1 else 0)
touches_right i j l = grind arith

touches_none : (i : ℕ) → touches i i ≡ 0
touches_none i = grind arith

short : (b : Bool) → shortfall (if b then negsuc 0 else pos 0) ≡ pos (if b then 1 else 0)
unfolding shortfall
short true = refl
short false = refl

beside_is : (n i j : ℕ) → i < n → j < n → beside n i j ≡ pos (touches i j)
beside_is n i j li lj = by (order i j)
  where
    order : (i j : ℕ) → (j ≡ i) ⊎ ((j < i) ⊎ (i < j))
    order i j = grind arith

    off : j ≢ i → beside n i j ≡ shortfall (entry (first_matrix n) i j)
    off ne = replaced_other (λ (k : ℕ). shortfall (entry (first_matrix n) i k)) i (pos 0) j ne

    by : ((j ≡ i) ⊎ ((j < i) ⊎ (i < j))) → beside n i j ≡ pos (touches i j)
    by (inl e) =
        replaced_here (λ (k : ℕ). shortfall (entry (first_matrix n) i k)) i (pos 0) j e
        ∙ ap pos (sym (touches_none i)) ∙ ap (λ (k : ℕ). pos (touches i k)) (sym e)
    by (inr (inl l)) =
        off (λ e. omega arith) ∙ ap shortfall (first_below n i j (omega arith) li ∙ left_is n i j l)
        ∙ short (nat_eq (j + 1) i) ∙ ap pos (sym (touches_left i j l))
    by (inr (inr l)) =
        off (λ e. omega arith) ∙ ap shortfall (entry_flip (first_matrix n) i j ∙ first_below n j i (omega arith) lj ∙ right_is n i j l)
        ∙ short (nat_eq j (i + 1)) ∙ ap pos (sym (touches_right i j l))

sum_beside : (n i m : ℕ) → i < n → m ≤ n → sum_to m (beside n i) ≤ℤ pos (seen i m)
sum_beside n i zero li lm = rw (sum_to-zero (beside n i)) (omega (arith, ints))
sum_beside n i (suc m) li lm =
    let before : sum_to m (beside n i) ≤ℤ pos (seen i m) = sum_beside n i m li (omega arith) in
    let here : beside n i m ≡ pos (touches i m) = beside_is n i m li (omega arith) in
    let more = seen_more i m in
    subst (λ (z : ℤ). z ≤ℤ pos (seen i (suc m))) (sym (sum_to-suc m (beside n i)))
    (le (sum_to m (beside n i)) (beside n i m) (seen i m) (touches i m) (seen i (suc m)) before here more)
  where
    le : (x y : ℤ) (a b c : ℕ) → x ≤ℤ pos a → y ≡ pos b → a + b ≤ c → (x +ℤ y) ≤ℤ pos c
    le x y a b c h e l = omega (arith, ints)

seen_few : (n i : ℕ) → i < n → pos (seen i n) ≤ℤ first_minimum n
seen_few n i l = by (one_or_more n)
  where
    one_or_more : (n : ℕ) → (n ≡ 1) ⊎ (n ≢ 1)
    one_or_more n = grind arith

    once : (i n : ℕ) → i < n → n ≡ 1 → seen i n ≤ 1
    once i n l e = grind arith

    twice : (i n : ℕ) → seen i n ≤ 2
    twice i n = grind arith

    one : (n : ℕ) → n ≡ 1 → first_minimum n ≡ pos 1
    one n e = grind arith

    by : ((n ≡ 1) ⊎ (n ≢ 1)) → pos (seen i n) ≤ℤ first_minimum n
    by (inl e) = subst (λ (z : ℤ). pos (seen i n) ≤ℤ z) (sym (one n e)) (let h = once i n l e in omega (arith, ints))
    by (inr e) = subst (λ (z : ℤ). pos (seen i n) ≤ℤ z) (sym (first_minimum_two n e)) (let h = twice i n in omega (arith, ints))

module _ (n : ℕ) where
  first_slack : (i : ℕ) → i < n → pos 0 ≤ℤ slack n (entry (first_matrix n)) i
  first_slack i l =
      let diagonal : entry (first_matrix n) i i ≡ first_minimum n = first_below n i i (omega arith) l ∙ diagonal_is n i in
      subst (λ (z : ℤ). pos 0 ≤ℤ z) (sym (slack_is_diagonal_less n (entry (first_matrix n)) i))
      (least (entry (first_matrix n) i i) (sum_to n (beside n i)) (first_minimum n) (pos (seen i n)) diagonal
      (sum_beside n i n l (omega arith)) (seen_few n i l))
    where
      least : (d x m c : ℤ) → d ≡ m → x ≤ℤ c → c ≤ℤ m → pos 0 ≤ℤ (d -ℤ x)
      least d x m c e h k = omega (arith, ints)

  first_closed : IsClosed n (gram n (entry (first_matrix n)) unit_vectors) (pos 0)
  first_closed i l =
      subst (λ (z : ℤ). pos 0 ≤ℤ z)
      (sym (slack_same n (gram n (entry (first_matrix n)) unit_vectors) (entry (first_matrix n)) i l (λ j lj. gram-unit n (entry (first_matrix n)) i j l lj)))
      (first_slack i l)

  -- ---- they are within their limits
  unit_small : (k p : ℕ) → unit_vectors k p ≤ℤ pos 1
  unit_small k p = by (same_or_not k p)
    where
      by : ((k ≡ p) ⊎ (k ≢ p)) → unit_vectors k p ≤ℤ pos 1
      by (inl e) = rw (replaced_here (λ (i : ℕ). pos 0) p (pos 1) k e) (omega (arith, ints))
      by (inr ne) = rw (replaced_other (λ (i : ℕ). pos 0) p (pos 1) k ne) (omega (arith, ints))

  entry_small : (c : Place) → nat_abs (first_entry n c) ≤ 2
  entry_small c = by (first_entry_cases n c) (first_minimum_cases n)
    where
      of : (z : ℤ) → first_entry n c ≡ z → nat_abs z ≤ 2 → nat_abs (first_entry n c) ≤ 2
      of z e h = subst (λ (z : ℤ). nat_abs z ≤ 2) (sym e) h

      by : ((first_entry n c ≡ first_minimum n) ⊎ ((first_entry n c ≡ negsuc 0) ⊎ (first_entry n c ≡ pos 0)))
          → ((first_minimum n ≡ pos 1) ⊎ (first_minimum n ≡ pos 2)) → nat_abs (first_entry n c) ≤ 2
      by (inl f) (inl g) = of (pos 1) (f ∙ g) (omega arith)
      by (inl f) (inr g) = of (pos 2) (f ∙ g) (omega arith)
      by (inr (inl f)) g = of (negsuc 0) f (omega arith)
      by (inr (inr f)) g = of (pos 0) f (omega arith)

  within : (e : WideEntry) → IsOverLimit n unit_vectors (gram n (entry (first_matrix n)) unit_vectors) e → ⊥
  within (Coordinate zero p) h = h
  within (Coordinate (suc k) zero) h = h
  within (Coordinate (suc k) (suc p)) (lk, lp, over) = absurd (let s = unit_small k p in omega (arith, ints))
  within (Gram zero j) h = h
  within (Gram (suc i) zero) h = h
  within (Gram (suc i) (suc j)) (li, le, over) =
      let same : gram n (entry (first_matrix n)) unit_vectors i j ≡ first_entry n (record { row = i; column = j }) =
      gram-unit n (entry (first_matrix n)) i j li (omega arith) ∙ first_below n i j le li in
      let small : nat_abs (gram n (entry (first_matrix n)) unit_vectors i j) ≤ 2 =
      subst (λ (z : ℤ). nat_abs z ≤ 2) (sym same) (entry_small (record { row = i; column = j })) in
      absurd (omega arith)

pub first_is_copositive : (n depth : ℕ) → IsSearchAnswer Mode.Sign (first_matrix n).size (entry (first_matrix n)) depth Copositive
unfolding first_matrix
first_is_copositive n depth = closed_root_answers n (entry (first_matrix n)) depth (λ i j li lj. entry_flip (first_matrix n) i j) (within n) (first_closed n)
