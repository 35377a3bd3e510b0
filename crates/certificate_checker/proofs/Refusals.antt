-- No check of a verdict is refused as Accepted, or for want of memory.
use Rattle.std.specs.Prelude.{◌≡◌, ◌≢◌, ℕ, zero, suc, ◌+◌, ◌-◌, nat_eq, if◌then◌else◌, Bool, true, false, List, [], ◌∷◌, ◌++◌, length, map, Option, Some, None}
use Rattle.std.proofs.Common.{arith, sym, ◌∙◌, ap, refl, subst}
use Rattle.exact_forms.specs.Rational.{Rational}
use Rattle.exact_forms.specs.Factors.{WeightedVector, weighted_sum, inner_ℚ}
use Rattle.unimodular_cone.specs.Cones.{Matrix, Generators, unit_vectors, gram}
use Rattle.symmetric_matrix.specs.declared.operation.IntOp.{IntOp}
use Rattle.symmetric_matrix.specs.Symmetric.{Symmetric, entry}
use Rattle.matrix_text.specs.RationalMatrix.{RationalMatrix, rational_entry}
use Rattle.matrix_text.specs.Matrix.{same_number}
use Rattle.cone_tree_certificate.specs.declared.tree.TreeLine.TheVariants.{Leaf, Split}
use Rattle.cone_tree_certificate.specs.declared.verdict.Verdict.{Verdict}
use Rattle.cone_tree_certificate.specs.declared.verdict.Verdict.TheVariants.{Factors, Separator}
use Rattle.cone_tree_certificate.specs.Trees.{Lines}
use Rattle.certificate_checker.specs.declared.checked.Checked.{Checked}
use Rattle.certificate_checker.specs.declared.checked.Checked.TheVariants.{Accepted, OutOfMemory, OpenLeaf, TreeShape, SumDiffers, NotNegative, ValueDiffers}
use Rattle.certificate_checker.specs.Checks.{Check, made_check, test, first_refusal, answer_of, IsRefusal}
use Rattle.certificate_checker.specs.Loops.{steps, by_places}
use Rattle.certificate_checker.specs.Terms.{order_checks, weighted_step, sum_checks, factor_checks}
use Rattle.certificate_checker.specs.Pairing.{pair_ops, is_below_zero, value_checks}
use Rattle.certificate_checker.specs.Leaves.{leaf_ops, is_closed, leaf_checks}
use Rattle.certificate_checker.specs.Tree.{Node, mediant_ops, children, node_checks, tree_checks}
use Rattle.certificate_checker.specs.Verdicts.{factors_checks, separator_checks, checks}
use Rattle.certificate_checker.proofs.TermSums.{order_step}
use Rattle.certificate_checker.proofs.Loops.{steps_none, steps_more}

abbrev pub AreRefusals : List Check → Type 0
AreRefusals [] = Unit {0}
AreRefusals (c ∷ cs) = IsRefusal c.refusal × AreRefusals cs

are-append : (xs ys : List Check) → AreRefusals xs → AreRefusals ys → AreRefusals (xs ++ ys)
are-append [] ys h k = k
are-append (x ∷ xs) ys h k = (h.0, are-append xs ys h.1 k)

made_then_are : (ops : List IntOp) (rest : List Check) → AreRefusals rest → AreRefusals (map made_check ops ++ rest)
made_then_are [] rest h = h
made_then_are (op ∷ ops) rest h = (tt, made_then_are ops rest h)

steps_are : (f : ℕ → List Check) → ((k : ℕ) → AreRefusals (f k)) → (n : ℕ) → AreRefusals (steps f n)
steps_are f h zero = subst AreRefusals (sym (steps_none f)) tt
steps_are f h (suc n) = let e : suc n ≡ n + 1 = omega arith in
    subst AreRefusals (sym (ap (steps f) e ∙ steps_more f n)) (are-append (steps f n) (f n) (steps_are f h n) (h n))

leaf_are : (n : ℕ) (w : Matrix) (v : Generators) (index : ℕ) → AreRefusals (leaf_checks n w v index)
unfolding leaf_checks
leaf_are n w v index = made_then_are (leaf_ops n w v) (test (OpenLeaf index) (is_closed n (gram n w v)) ∷ []) (tt, tt)

node_are : (n : ℕ) (w : Matrix) (count index : ℕ) (due : List Node) (xs : Lines) → AreRefusals (node_checks n w count index due xs)
unfolding node_checks
node_are n w count index [] [] = tt
node_are n w count index [] (line ∷ more) = (tt, tt)
node_are n w count index (node ∷ due) [] = (tt, tt)
node_are n w count index (node ∷ due) (Leaf ∷ more) =
    are-append (leaf_checks n w node.generators index) (node_checks n w count (index + 1) due more) (leaf_are n w node.generators index)
    (node_are n w count (index + 1) due more)
node_are n w count index (node ∷ due) (Split i j ∷ more) =
    by (nat_eq node.levels 0) (node_are n w count (index + 1) (children node (i - 1) (j - 1) ++ due) more)
  where
    by : (b : Bool) → AreRefusals (node_checks n w count (index + 1) (children node (i - 1) (j - 1) ++ due) more)
        → AreRefusals (if b then test (TreeShape index) false
        ∷ [] else (map made_check (mediant_ops n node.generators (i - 1) (j - 1))
        ++ node_checks n w count (index + 1) (children node (i - 1) (j - 1) ++ due) more))
    by true h = (tt, tt)
    by false h = made_then_are (mediant_ops n node.generators (i - 1) (j - 1)) (node_checks n w count (index + 1) (children node (i - 1) (j - 1) ++ due) more) h

sums_are : (a : RationalMatrix) (terms : List WeightedVector) (i j : ℕ) → AreRefusals (sum_checks a terms i j)
unfolding sum_checks
sums_are a terms i j =
    made_then_are (steps (weighted_step terms i j) (length terms))
    (test (SumDiffers (i + 1) (j + 1)) (same_number (weighted_sum terms i j) (rational_entry a i j)) ∷ []) (tt, tt)

values_are : (w : Symmetric) (value : Rational) (a : RationalMatrix) → AreRefusals (value_checks w value a)
unfolding value_checks
values_are w value a =
    made_then_are (pair_ops w a) (test NotNegative (is_below_zero (inner_ℚ a.size (entry w) (rational_entry a)))
    ∷ test ValueDiffers (same_number (inner_ℚ a.size (entry w) (rational_entry a)) value) ∷ []) (tt, (tt, tt))

pub all_refuse : (a : RationalMatrix) (v : Verdict) → AreRefusals (checks a v)
unfolding factors_checks separator_checks factor_checks order_checks tree_checks
all_refuse a (Factors n terms) = (
  tt,
  are-append (steps (order_step terms) (length terms)) (by_places a.size (sum_checks a terms)) (steps_are (order_step terms) (λ k. (tt, tt)) (length terms))
      (steps_are (λ (i : ℕ). steps (sum_checks a terms i) (i + 1)) (λ i. steps_are (sum_checks a terms i) (λ j. sums_are a terms i j) (i + 1)) a.size),
)
all_refuse a (Separator w value tree) = (
  tt,
  are-append (value_checks w value a) (node_checks w.size (entry w) (length tree) 1 (record { generators = unit_vectors; levels = 200 } ∷ []) tree)
      (values_are w value a)
      (node_are w.size (entry w) (length tree) 1 (record { generators = unit_vectors; levels = 200 } ∷ []) tree),
)

pub refusal_is : (cs : List Check) (r : Checked) → AreRefusals cs → first_refusal cs ≡ Some r → IsRefusal r
unfolding first_refusal
refusal_is [] r h e = absurd cc
refusal_is (c ∷ cs) r h e = by c.fails e (refusal_is cs r h.1) h.0
  where
    by : (b : Bool) → (if b then Some c.refusal else first_refusal cs) ≡ Some r → (first_refusal cs ≡ Some r → IsRefusal r) → IsRefusal c.refusal → IsRefusal r
    by true e rec head = let same : c.refusal ≡ r = cc in subst IsRefusal same head
    by false e rec head = rec e

-- Accepted is answered exactly where nothing is refused, and want of memory never
pub accepted_is : (a : RationalMatrix) (v : Verdict) → answer_of (first_refusal (checks a v)) ≡ Accepted → first_refusal (checks a v) ≡ None
accepted_is a v h = by (first_refusal (checks a v)) refl h
  where
    by : (o : Option Checked) → first_refusal (checks a v) ≡ o → answer_of o ≡ Accepted → o ≡ None
    by None e h = refl
    by (Some r) e h = absurd (subst IsRefusal h (refusal_is (checks a v) r (all_refuse a v) e))

pub no_memory : (a : RationalMatrix) (v : Verdict) → answer_of (first_refusal (checks a v)) ≢ OutOfMemory
no_memory a v h = by (first_refusal (checks a v)) refl h
  where
    by : (o : Option Checked) → first_refusal (checks a v) ≡ o → answer_of o ≡ OutOfMemory → ⊥
    by None e h = cc
    by (Some r) e h = subst IsRefusal h (refusal_is (checks a v) r (all_refuse a v) e)
