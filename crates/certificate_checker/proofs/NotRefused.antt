-- Of the checks of a right verdict only operations can fail.
use Rattle.std.specs.Prelude.{◌≡◌, ℕ, zero, suc, ◌+◌, ◌-◌, ◌<◌, ◌≤◌, ◌⊎◌, nat_eq, Bool, true, false, ◌&&◌, ◌||◌, int_lt, int_le, ℤ, pos, ◌≤ℤ◌, ◌<ℤ◌, List, []}
use Rattle.std.specs.Prelude.{◌∷◌, ◌++◌, length, map, slice_index_or, Some, None}
use Rattle.std.specs.List.{All, AllByRecursion, list_all, range_with_len}
use Rattle.std.proofs.Common.{arith, sym, ◌∙◌, ap, refl, inl, inr, subst, int_eq}
use Rattle.std.proofs.lemmas.Int.{ints}
use Rattle.std.proofs.lemmas.List.Elements.{All-get_or}
use Rattle.std.proofs.lemmas.List.Folds.{list_all-append}
use Rattle.commutative_ring.proofs.SmallCases.{test_of_same}
use Rattle.exact_forms.specs.Rational.{Rational, whole}
use Rattle.exact_forms.specs.Signs.{IsPositive, IsNegative}
use Rattle.exact_forms.specs.Slacks.{slack, IsClosed}
use Rattle.exact_forms.specs.Vectors.{coordinate, IsNonzero, ComesBefore}
use Rattle.exact_forms.specs.Factors.{WeightedVector, weighted_sum, inner_ℚ, IsFactorization}
use Rattle.exact_forms.specs.PositiveTerms.{IsInOrder}
use Rattle.unimodular_cone.specs.Cones.{Matrix, Generators, unit_vectors, gram, child}
use Rattle.symmetric_matrix.specs.declared.operation.IntOp.{IntOp}
use Rattle.symmetric_matrix.specs.Operations.{is_owed}
use Rattle.symmetric_matrix.specs.Symmetric.{Symmetric, entry}
use Rattle.symmetric_matrix.proofs.Runs.{range_more}
use Rattle.matrix_text.specs.RationalMatrix.{RationalMatrix, rational_entry}
use Rattle.matrix_text.specs.Matrix.{same_number}
use Rattle.cone_tree_certificate.specs.declared.tree.TreeLine.TheVariants.{Leaf, Split}
use Rattle.cone_tree_certificate.specs.declared.verdict.Verdict.{Verdict}
use Rattle.cone_tree_certificate.specs.declared.verdict.Verdict.TheVariants.{Factors, Separator}
use Rattle.cone_tree_certificate.specs.Trees.{Lines, ReadsTree, TreeProves}
use Rattle.certificate_checker.specs.declared.checked.Checked.{Checked}
use Rattle.certificate_checker.specs.declared.checked.Checked.TheVariants.{Dimension, BadTerm, SumDiffers, NotNegative, ValueDiffers, OpenLeaf}
use Rattle.certificate_checker.specs.Checks.{Check, made_check, test, first_refusal}
use Rattle.certificate_checker.specs.Leaves.{leaf_ops, is_closed, leaf_checks}
use Rattle.certificate_checker.specs.Loops.{steps, by_places}
use Rattle.certificate_checker.specs.Pairing.{pair_ops, is_below_zero, value_checks}
use Rattle.certificate_checker.specs.Terms.{has_place, comes_before, term_at, is_good_term, weighted_step, sum_checks, factor_checks}
use Rattle.certificate_checker.specs.Theorems.{IsOrdered, IsNoneOrWide}
use Rattle.certificate_checker.specs.Tree.{Node, mediant_ops, node_checks, tree_checks}
use Rattle.certificate_checker.specs.Verdicts.{factors_checks, separator_checks, checks, IsSeparation, IsRight}
use Rattle.certificate_checker.proofs.Accepted.{split_step}
use Rattle.certificate_checker.proofs.Loops.{steps_none, steps_more}
use Rattle.certificate_checker.proofs.TermSums.{before_is, order_step, order_checks_are, first_is_good, later_is_good}

-- ---- lists of checks

-- a check that passes, or an operation
abbrev pub IsSafe : Check → Type 0
IsSafe c = (c.fails ≡ false) ⊎ ((op : IntOp) × (c ≡ made_check op))

abbrev pub AreSafe : List Check → Type 0
AreSafe xs = AllByRecursion IsSafe xs

safe-append : (xs ys : List Check) → AreSafe xs → AreSafe ys → AreSafe (xs ++ ys)
safe-append [] ys hs ks = ks
safe-append (x ∷ xs) ys hs ks = (hs.0, safe-append xs ys hs.1 ks)

safe-made : (ops : List IntOp) → AreSafe (map made_check ops)
safe-made [] = tt
safe-made (op ∷ ops) = (inr (op, refl), safe-made ops)

safe-test : (r : Checked) (b : Bool) → b ≡ true → IsSafe (test r b)
safe-test r b e = inl (rw e refl)

safe-steps : (f : ℕ → List Check) (n : ℕ) → ((k : ℕ) → k < n → AreSafe (f k)) → AreSafe (steps f n)
safe-steps f zero h = subst AreSafe (sym (steps_none f)) tt
safe-steps f (suc n) h =
    let e : n + 1 ≡ suc n = omega arith in
    subst (λ (m : ℕ). AreSafe (steps f m)) e (subst AreSafe (sym (steps_more f n))
    (safe-append (steps f n) (f n) (safe-steps f n (λ k l. h k (omega arith))) (h n (omega arith))))

safe-refusal : (xs : List Check) → AreSafe xs → IsNoneOrWide (first_refusal xs)
unfolding first_refusal
safe-refusal [] hs = tt
safe-refusal (x ∷ xs) hs = by x hs.0 (safe-refusal xs hs.1)
  where
    made : (op : IntOp) (b : Bool) → is_owed op ≡ b → IsNoneOrWide (first_refusal xs) → IsNoneOrWide (first_refusal (made_check op ∷ xs))
    made op true e rest = rw e e
    made op false e rest = rw e rest

    by : (x : Check) → IsSafe x → IsNoneOrWide (first_refusal xs) → IsNoneOrWide (first_refusal (x ∷ xs))
    by x (inl passes) rest = rw passes rest
    by x (inr (op, same)) rest = subst (λ (c : Check). IsNoneOrWide (first_refusal (c ∷ xs))) (sym same) (made op (is_owed op) refl rest)

-- ---- numbers
number_same : (x y : Rational) → x ≡ y → same_number x y ≡ true
number_same x y e = rw (e, same y.num, same (pos y.den)) refl
  where
    same : (z : ℤ) → int_eq z z ≡ true
    same z = grind (arith, ints)

-- ---- a factorization
positive_is : (z : ℤ) → pos 1 ≤ℤ z → int_lt (pos 0) z ≡ true
positive_is z h = grind (arith, ints)

place_is : (x : List ℕ) (p : ℕ) → p < length x → (coordinate x p ≡ pos 0 → ⊥) → has_place x ≡ true
place_is [] p l h = absurd (omega arith)
place_is (zero ∷ x) zero l h = absurd (h refl)
place_is (zero ∷ x) (suc p) l h = place_is x p (omega arith) h
place_is (suc c ∷ x) p l h = let e : nat_eq (suc c) 0 ≡ false = grind arith in rw e refl

module _ (n : ℕ) (a : ℕ → ℕ → Rational) (terms : List WeightedVector) (right : IsFactorization n a terms) (ordered : IsInOrder terms) where
  none : WeightedVector
  none = record { weight = whole (pos 0); vector = [] }

  weight_good : (k : ℕ) → k < length terms → int_lt (pos 0) (term_at terms k).weight.num ≡ true
  weight_good k l = positive_is _ (All-get_or (λ term. IsPositive term.weight) terms k
      (record { weight = whole (pos 0); vector = [] }) l right.positive).numerator

  place_good : (k : ℕ) → k < length terms → has_place (term_at terms k).vector ≡ true
  place_good k l =
      let nonzero = All-get_or (λ term. IsNonzero n term.vector) terms k (record { weight = whole (pos 0); vector = [] }) l right.nonzero in
      let size : length (term_at terms k).vector ≡ n =
      All-get_or (λ term. length term.vector ≡ n) terms k (record { weight = whole (pos 0); vector = [] }) l right.sized in
      place_is (term_at terms k).vector nonzero.0 (omega (arith, size, nonzero.1)) nonzero.2

  term_good : (k : ℕ) → k < length terms → is_good_term terms k ≡ true
  term_good zero l = sym (first_is_good terms 0 (term_at terms 0) refl (weight_good 0 l) (place_good 0 l) refl)
  term_good (suc k) l =
      let before = ordered k (suc k) (record { weight = whole (pos 0); vector = [] }) (omega arith) l in
      let less : suc k - 1 ≡ k = omega arith in
      let e : term_at terms (suc k - 1) ≡ term_at terms k = ap (term_at terms) less in
      sym (later_is_good terms (suc k) (term_at terms (suc k)) (term_at terms k) refl e (weight_good (suc k) l) (place_good (suc k) l) (λ z. omega arith))
      ∙ before_is _ _ before

factors_safe : (a : RationalMatrix) (n : ℕ) (terms : List WeightedVector) → IsRight a (Factors n terms) → IsInOrder terms → AreSafe (factors_checks a n terms)
unfolding factors_checks factor_checks sum_checks
factors_safe a n terms right ordered = (
  safe-test Dimension (nat_eq n a.size) (test_of_same n a.size right.0),
  safe-append _ (by_places a.size (sum_checks a terms))
      (subst AreSafe (sym (order_checks_are terms)) (safe-steps (order_step terms) (length terms)
      (λ k l. (safe-test (BadTerm (k + 1)) (is_good_term terms k) (term_good a.size (rational_entry a) terms right.1 ordered k l), tt))))
      (safe-steps (λ i. steps (sum_checks a terms i) (i + 1)) a.size
      (λ i li. safe-steps (sum_checks a terms i) (i + 1) (λ j lj. place i j li (omega (arith, li, lj))))),
)
  where
    place : (i j : ℕ) → i < a.size → j < a.size → AreSafe (sum_checks a terms i j)
    place i j li lj =
        safe-append (map made_check (steps (weighted_step terms i j) (length terms))) _ (safe-made (steps (weighted_step terms i j) (length terms)))
        (safe-test (SumDiffers (i + 1) (j + 1)) _ (number_same (weighted_sum terms i j) (rational_entry a i j) (right.1.sum i j li lj)), tt)

-- ---- the value
value_safe : (w : Symmetric) (value : Rational) (a : RationalMatrix) → IsNegative (inner_ℚ a.size (entry w) (rational_entry a))
    → value ≡ inner_ℚ a.size (entry w) (rational_entry a) → AreSafe (value_checks w value a)
unfolding value_checks
value_safe w value a negative is =
    safe-append (map made_check (pair_ops w a)) _ (safe-made (pair_ops w a)) (
      safe-test NotNegative _ (below (inner_ℚ a.size (entry w) (rational_entry a)).num negative.numerator),
      (safe-test ValueDiffers _ (number_same (inner_ℚ a.size (entry w) (rational_entry a)) value (sym is)), tt),
    )
  where
    below : (z : ℤ) → z <ℤ pos 0 → int_lt z (pos 0) ≡ true
    below z h = grind (arith, ints)

-- ---- the tree
below_all : (p : ℕ → Bool) (n : ℕ) → ((k : ℕ) → k < n → p k ≡ true) → list_all p (range_with_len 0 n) ≡ true
below_all p zero h = refl
below_all p (suc n) h =
    let e : n + 1 ≡ suc n = omega arith in
    let front = below_all p n (λ k l. h k (omega arith)) in
    let whole : list_all p (range_with_len 0 (n + 1)) ≡ true = ap (list_all p) (range_more n) ∙ list_all-append p (range_with_len 0 n) (n ∷ [])
    ∙ rw (front, h n (omega arith)) refl in
    subst (λ (m : ℕ). list_all p (range_with_len 0 m) ≡ true) e whole

is_closed-closed : (n : ℕ) (g : Matrix) → IsClosed n g (pos 0) → is_closed n g ≡ true
unfolding is_closed
is_closed-closed n g h = below_all (λ a. int_le (pos 0) (slack n g a)) n (λ k l. at_least (slack n g k) (h k l))
  where
    at_least : (z : ℤ) → pos 0 ≤ℤ z → int_le (pos 0) z ≡ true
    at_least z h = grind (arith, ints)

leaf_safe : (n : ℕ) (w : Matrix) (g : Generators) (index : ℕ) → IsClosed n (gram n w g) (pos 0) → AreSafe (leaf_checks n w g index)
unfolding leaf_checks
leaf_safe n w g index closed =
    safe-append (map made_check (leaf_ops n w g)) _ (safe-made (leaf_ops n w g))
    (safe-test (OpenLeaf index) (is_closed n (gram n w g)) (is_closed-closed n (gram n w g) closed), tt)

-- the lines of a node, if what follows them is safe
node_safe : (n : ℕ) (w : Matrix) (count levels index : ℕ) (g : Generators) (due : List Node) (xs rest : Lines) → ReadsTree n w levels g xs rest
    → ((k : ℕ) → AreSafe (node_checks n w count k due rest))
    → AreSafe (node_checks n w count index (record { generators = g; levels = levels } ∷ due) xs)
unfolding node_checks
node_safe n w count levels index g due [] rest reads after = absurd reads
node_safe n w count levels index g due (Leaf ∷ more) rest (closed, same) after =
    safe-append (leaf_checks n w g index) (node_checks n w count (index + 1) due more) (leaf_safe n w g index closed)
    (subst (λ (xs : Lines). AreSafe (node_checks n w count (index + 1) due xs)) (sym same) (after (index + 1)))
node_safe n w count zero index g due (Split i j ∷ more) rest reads after = absurd reads
node_safe n w count (suc levels) index g due (Split i j ∷ more) rest (pair, (between, one, two)) after =
    subst AreSafe (sym (split_step n w count levels index i j g due more))
    (safe-append (map made_check (mediant_ops n g (i - 1) (j - 1))) _ (safe-made (mediant_ops n g (i - 1) (j - 1)))
    (node_safe n w count levels (index + 1) (child g (i - 1) (j - 1)) (record { generators = child g (j - 1) (i - 1); levels = levels } ∷ due) more between one
    (λ k. node_safe n w count levels k (child g (j - 1) (i - 1)) due between rest two after)))

tree_safe : (n : ℕ) (w : Matrix) (lines : Lines) → TreeProves n w lines → AreSafe (tree_checks n w lines)
unfolding tree_checks TreeProves node_checks
tree_safe n w lines proves = node_safe n w (length lines) 200 1 unit_vectors [] lines [] proves (λ k. nothing k)
  where
    nothing : (k : ℕ) → AreSafe (node_checks n w (length lines) k [] [])
    nothing k = tt

separator_safe : (a : RationalMatrix) (w : Symmetric) (value : Rational) (tree : Lines) → IsSeparation a w value tree
    → AreSafe (separator_checks a w value tree)
unfolding separator_checks
separator_safe a w value tree right = (
  safe-test Dimension (nat_eq w.size a.size) (test_of_same w.size a.size right.size),
  safe-append (value_checks w value a) (tree_checks w.size (entry w) tree) (value_safe w value a right.separates.negative right.value_is)
      (tree_safe w.size (entry w) tree (subst (λ (n : ℕ). TreeProves n (entry w) tree) (sym right.size) right.proved)),
)

pub right_not_refused : (a : RationalMatrix) (v : Verdict) → IsRight a v → IsOrdered v → IsNoneOrWide (first_refusal (checks a v))
right_not_refused a (Factors n terms) right ordered = safe-refusal (factors_checks a n terms) (factors_safe a n terms right ordered)
right_not_refused a (Separator w value tree) right ordered = safe-refusal (separator_checks a w value tree) (separator_safe a w value tree right)
