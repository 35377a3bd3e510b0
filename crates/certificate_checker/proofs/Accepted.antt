-- What holds of a verdict none of whose checks fails.
use Rattle.std.specs.Prelude.{◌≡◌, ℕ, zero, suc, ◌+◌, ◌-◌, ◌<◌, ◌⊎◌, nat_eq, Bool, true, false, ◌&&◌, int_lt, int_le, ℤ, pos, ◌≤ℤ◌, ◌<ℤ◌, List, [], ◌∷◌, ◌++◌}
use Rattle.std.specs.Prelude.{length, map, None}
use Rattle.std.specs.List.{All, list_all, range_with_len}
use Rattle.std.proofs.Common.{arith, sym, ◌∙◌, ap, refl, inl, inr, subst, int_eq}
use Rattle.std.proofs.lemmas.Int.{ints}
use Rattle.std.proofs.lemmas.List.Elements.{All-head, All-tail}
use Rattle.std.proofs.lemmas.List.Folds.{list_all-append}
use Rattle.commutative_ring.proofs.SmallCases.{before_or_last, both_true, same_of_test}
use Rattle.exact_forms.specs.Rational.{Rational}
use Rattle.exact_forms.specs.Signs.{IsNegative}
use Rattle.exact_forms.specs.Slacks.{slack, IsClosed}
use Rattle.exact_forms.specs.Factors.{inner_ℚ}
use Rattle.exact_forms.proofs.Rational.{same_parts}
use Rattle.unimodular_cone.specs.Cones.{Matrix, Generators, unit_vectors, gram, child}
use Rattle.symmetric_matrix.specs.Symmetric.{Symmetric, entry}
use Rattle.symmetric_matrix.proofs.Runs.{range_more}
use Rattle.symmetric_matrix.proofs.Places.{entry_flip}
use Rattle.matrix_text.specs.RationalMatrix.{RationalMatrix, rational_entry}
use Rattle.matrix_text.specs.Matrix.{same_number}
use Rattle.cone_tree_certificate.specs.declared.tree.TreeLine.TheVariants.{Leaf, Split}
use Rattle.cone_tree_certificate.specs.Trees.{Lines, ReadsTree, TreeProves}
use Rattle.cone_tree_certificate.proofs.Trees.{trees_prove}
use Rattle.certificate_checker.specs.declared.checked.Checked.TheVariants.{Dimension, NotNegative, ValueDiffers, TreeShape, OpenLeaf}
use Rattle.certificate_checker.specs.Checks.{made_check, test, first_refusal}
use Rattle.certificate_checker.specs.Leaves.{leaf_ops, is_closed, leaf_checks}
use Rattle.certificate_checker.specs.Tree.{Node, mediant_ops, node_checks, tree_checks}
use Rattle.certificate_checker.specs.Verdicts.{IsSeparation, separator_checks}
use Rattle.cone_tree_certificate.specs.VerdictText.{HasSplit}
use Rattle.certificate_checker.specs.Pairing.{pair_ops, is_below_zero, value_checks}
use Rattle.certificate_checker.proofs.Checks.{none-append, test_passed}

-- ---- the tree
pub all_below : (p : ℕ → Bool) (n : ℕ) → list_all p (range_with_len 0 n) ≡ true → (k : ℕ) → k < n → p k ≡ true
all_below p zero h k l = absurd (omega arith)
all_below p (suc n) h k l = by (before_or_last k n l) (both (list_all p (range_with_len 0 n)) (p n) whole) (λ g m. all_below p n g k m)
  where
    e : suc n ≡ n + 1
    e = omega arith

    whole : (list_all p (range_with_len 0 n) && (p n && true)) ≡ true
    whole = sym (list_all-append p (range_with_len 0 n) (n ∷ [])) ∙ ap (list_all p) (sym (range_more n))
        ∙ ap (λ (m : ℕ). list_all p (range_with_len 0 m)) (sym e) ∙ h

    both : (x y : Bool) → (x && (y && true)) ≡ true → (x ≡ true) × (y ≡ true)
    both true true h = (refl, refl)
    both true false h = absurd cc
    both false y h = absurd cc

    by : ((k < n) ⊎ (k ≡ n)) → (list_all p (range_with_len 0 n) ≡ true) × (p n ≡ true) → (list_all p (range_with_len 0 n) ≡ true → k < n → p k ≡ true)
        → p k ≡ true
    by (inl m) b rec = rec b.0 m
    by (inr same) b rec = ap p same ∙ b.1

closed_is : (n : ℕ) (g : Matrix) → is_closed n g ≡ true → IsClosed n g (pos 0)
unfolding is_closed
closed_is n g h a l = at_least (slack n g a) (all_below (λ a. int_le (pos 0) (slack n g a)) n h a l)
  where
    at_least : (z : ℤ) → int_le (pos 0) z ≡ true → pos 0 ≤ℤ z
    at_least z h = grind (arith, ints)

-- the lines of one node, what follows them, and that no check of that fails
record Reads (n : ℕ) (w : Matrix) (count levels : ℕ) (g : Generators) (due : List Node) (xs : Lines) : Type 0 where
  rest : Lines
  index : ℕ
  reads : ReadsTree n w levels g xs rest
  splits : All (HasSplit n) rest
  passes : first_refusal (node_checks n w count index due rest) ≡ None

pub split_step : (n : ℕ) (w : Matrix) (count levels index i j : ℕ) (g : Generators) (due : List Node) (more : Lines)
    → node_checks n w count index (record { generators = g; levels = suc levels } ∷ due) (Split i j ∷ more)
    ≡ map made_check (mediant_ops n g (i - 1) (j - 1))
    ++ node_checks n w count (index + 1) (record { generators = child g (i - 1) (j - 1); levels = levels } ∷ record {
      generators = child g (j - 1) (i - 1);
      levels = levels;
    } ∷ due) more
unfolding node_checks
split_step n w count levels index i j g due more =
    let some : nat_eq (suc levels) 0 ≡ false = grind arith in
    let less : suc levels - 1 ≡ levels = omega arith in
    rw (some, less) refl

node_reads : (n : ℕ) (w : Matrix) (count levels index : ℕ) (g : Generators) (due : List Node) (xs : Lines) → All (HasSplit n) xs
    → first_refusal (node_checks n w count index (record { generators = g; levels = levels } ∷ due) xs) ≡ None → Reads n w count levels g due xs
unfolding node_checks leaf_checks
node_reads n w count levels index g due [] splits h = let p = test_passed (TreeShape count) false [] h in absurd (let e = p.0 in cc)
node_reads n w count levels index g due (Leaf ∷ more) splits h =
    let p = none-append (leaf_checks n w g index) (node_checks n w count (index + 1) due more) h in
    let q = none-append (map made_check (leaf_ops n w g)) (test (OpenLeaf index) (is_closed n (gram n w g)) ∷ []) p.0 in
    let closed = (test_passed (OpenLeaf index) (is_closed n (gram n w g)) [] q.1).0 in
    record { rest = more; index = index + 1; reads = (closed_is n (gram n w g) closed, refl); splits = All-tail (HasSplit n) Leaf more splits; passes = p.1 }
node_reads n w count zero index g due (Split i j ∷ more) splits h = let p = test_passed (TreeShape index) false [] h in absurd (let e = p.0 in cc)
node_reads n w count (suc levels) index g due (Split i j ∷ more) splits h =
    let p = none-append (map made_check (mediant_ops n g (i - 1) (j - 1)))
    (node_checks n w count (index + 1) (record { generators = child g (i - 1) (j - 1); levels = levels } ∷ record {
      generators = child g (j - 1) (i - 1);
      levels = levels;
    } ∷ due) more)
    (ap first_refusal (sym (split_step n w count levels index i j g due more)) ∙ h) in
    let one = node_reads n w count levels (index + 1) (child g (i - 1) (j - 1)) (record { generators = child g (j - 1) (i - 1); levels = levels } ∷ due) more
    (All-tail (HasSplit n) (Split i j) more splits) p.1 in
    let two = node_reads n w count levels one.index (child g (j - 1) (i - 1)) due one.rest one.splits one.passes in
    record {
      rest = two.rest;
      index = two.index;
      reads = (All-head (HasSplit n) (Split i j) more splits, (one.rest, one.reads, two.reads));
      splits = two.splits;
      passes = two.passes;
    }

pub tree_reads : (n : ℕ) (w : Matrix) (lines : Lines) → All (HasSplit n) lines → first_refusal (tree_checks n w lines) ≡ None → TreeProves n w lines
unfolding tree_checks TreeProves node_checks
tree_reads n w lines splits h =
    let r = node_reads n w (length lines) 200 1 unit_vectors [] lines splits h in
    subst (λ (xs : Lines). ReadsTree n w 200 unit_vectors lines xs) (nothing r.rest r.index r.passes) r.reads
  where
    nothing : (xs : Lines) (index : ℕ) → first_refusal (node_checks n w (length lines) index [] xs) ≡ None → xs ≡ []
    nothing [] index h = refl
    nothing (x ∷ xs) index h = let p = test_passed (TreeShape index) false [] h in absurd (let e = p.0 in cc)

-- ---- numbers
pub same_is : (x y : Rational) → same_number x y ≡ true → x ≡ y
same_is x y h = let p = both_true (int_eq x.num y.num) (int_eq (pos x.den) (pos y.den)) h in same_parts x y (num_is x.num y.num p.0) (den_is x.den y.den p.1)
  where
    num_is : (a b : ℤ) → int_eq a b ≡ true → a ≡ b
    num_is a b h = grind (arith, ints)

    den_is : (a b : ℕ) → int_eq (pos a) (pos b) ≡ true → a ≡ b
    den_is a b h = let e : pos a ≡ pos b = num_is (pos a) (pos b) h in omega (arith, ints)

-- ---- the value
value_right : (w : Symmetric) (value : Rational) (a : RationalMatrix) → first_refusal (value_checks w value a) ≡ None
    → IsNegative (inner_ℚ a.size (entry w) (rational_entry a)) × (value ≡ inner_ℚ a.size (entry w) (rational_entry a))
unfolding value_checks
value_right w value a h =
    let s : Rational = inner_ℚ a.size (entry w) (rational_entry a) in
    let p = (none-append (map made_check (pair_ops w a)) (test NotNegative (is_below_zero s) ∷ test ValueDiffers (same_number s value) ∷ []) h).1 in
    let q = test_passed NotNegative (is_below_zero s) (test ValueDiffers (same_number s value) ∷ []) p in
    let r = test_passed ValueDiffers (same_number s value) [] q.1 in
    (record { numerator = below s.num q.0 }, sym (same_is s value r.0))
  where
    below : (z : ℤ) → int_lt z (pos 0) ≡ true → z <ℤ pos 0
    below z h = grind (arith, ints)

pub separator_right : (a : RationalMatrix) (w : Symmetric) (value : Rational) (tree : Lines) → All (HasSplit w.size) tree
    → first_refusal (separator_checks a w value tree) ≡ None → IsSeparation a w value tree
unfolding separator_checks
separator_right a w value tree splits h =
    let d = test_passed Dimension (nat_eq w.size a.size) (value_checks w value a ++ tree_checks w.size (entry w) tree) h in
    let e = same_of_test w.size a.size d.0 in
    let p = none-append (value_checks w value a) (tree_checks w.size (entry w) tree) d.1 in
    let v = value_right w value a p.0 in
    let t : TreeProves a.size (entry w) tree = subst (λ (n : ℕ). TreeProves n (entry w) tree) e (tree_reads w.size (entry w) tree splits p.1) in
    record {
      size = e;
      separates = record { copositive = trees_prove a.size (entry w) tree (λ i j li lj. entry_flip w i j) t; negative = v.0 };
      value_is = v.1;
      proved = t;
    }
