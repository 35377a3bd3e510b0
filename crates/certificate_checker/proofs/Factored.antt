-- Terms none of whose checks fails factor the matrix.
use Rattle.std.specs.Prelude.{◌≡◌, ◌≢◌, ℕ, zero, suc, ◌+◌, ◌-◌, ◌<◌, ◌≤◌, ◌⊎◌, nat_eq, Bool, true, false, ◌&&◌, ◌||◌, int_lt, ℤ, pos, List, [], ◌∷◌, ◌++◌}
use Rattle.std.specs.Prelude.{length, map, slice_index_or, None}
use Rattle.std.specs.List.{All}
use Rattle.std.proofs.Common.{arith, sym, ◌∙◌, ap, ap₂, inl, inr, subst}
use Rattle.std.proofs.lemmas.Int.{ints}
use Rattle.std.proofs.lemmas.List.{get_or_default}
use Rattle.std.proofs.lemmas.List.Elements.{All-from_get_or, All-get_or, All-weaker}
use lib.IntN.{*ℤ_comm}
use Rattle.commutative_ring.proofs.SmallCases.{at_least_or_at_most, both_true, positive_of_test, same_of_test}
use Rattle.exact_forms.specs.Rational.{Rational, whole, ◌+ℚ◌, ◌*ℚ◌}
use Rattle.exact_forms.specs.Signs.{IsPositive}
use Rattle.exact_forms.specs.Vectors.{coordinate, IsNonzero, ComesBefore}
use Rattle.exact_forms.specs.Factors.{WeightedVector, weighted_sum, IsFactorization}
use Rattle.exact_forms.proofs.Vectors.{before_irreflexive, before_transitive}
use Rattle.exact_forms.proofs.Factors.{weighted_sum-nil, weighted_sum-cons}
use Rattle.matrix_text.specs.RationalMatrix.{RationalMatrix, rational_entry}
use Rattle.matrix_text.specs.Matrix.{same_number}
use Rattle.cone_tree_certificate.specs.declared.verdict.Verdict.{Verdict}
use Rattle.cone_tree_certificate.specs.declared.verdict.Verdict.TheVariants.{Factors, Separator}
use Rattle.certificate_checker.specs.declared.checked.Checked.TheVariants.{Dimension, BadTerm, SumDiffers}
use Rattle.certificate_checker.specs.Checks.{made_check, test, first_refusal}
use Rattle.certificate_checker.specs.Loops.{steps, by_places}
use Rattle.certificate_checker.specs.Terms.{comes_before, has_place, term_at, is_good_term, order_checks, weighted_step, sum_checks, factor_checks}
use Rattle.certificate_checker.specs.Verdicts.{factors_checks, checks, IsRight}
use Rattle.cone_tree_certificate.specs.VerdictText.{IsCheckable}
use Rattle.certificate_checker.proofs.Checks.{none-append, test_passed, checks_each}
use Rattle.certificate_checker.proofs.TermSums.{is_before, order_step, order_checks_are}
use Rattle.certificate_checker.proofs.PairSums.{rational_entry_flip}
use Rattle.certificate_checker.proofs.Accepted.{same_is, separator_right}

pub record IsGood (terms : List WeightedVector) (k : ℕ) : Type 0 where
  pub weight : int_lt (pos 0) (term_at terms k).weight.num ≡ true
  pub place : has_place (term_at terms k).vector ≡ true
  pub after : (nat_eq k 0 || comes_before (term_at terms (k - 1)).vector (term_at terms k).vector) ≡ true

good_is : (terms : List WeightedVector) (k : ℕ) → is_good_term terms k ≡ true → IsGood terms k
unfolding is_good_term
good_is terms k h =
    let p = both_true (int_lt (pos 0) (term_at terms k).weight.num && has_place (term_at terms k).vector)
    (nat_eq k 0 || comes_before (term_at terms (k - 1)).vector (term_at terms k).vector) h in
    let q = both_true (int_lt (pos 0) (term_at terms k).weight.num) (has_place (term_at terms k).vector) p.0 in
    record { weight = q.0; place = q.1; after = p.1 }

some_place : (x : List ℕ) → has_place x ≡ true → (p : ℕ) × (p < length x) × (slice_index_or x p 0 ≢ 0)
some_place [] h = absurd cc
some_place (zero ∷ x) h = let r = some_place x h in (suc r.0, omega (arith, r.1), r.2)
some_place (suc c ∷ x) h = (0, omega arith, λ e. absurd (omega arith))

module _ (terms : List WeightedVector) (good : (k : ℕ) → k < length terms → IsGood terms k) where
  next_before : (k : ℕ) → k + 1 < length terms → ComesBefore (term_at terms k).vector (term_at terms (k + 1)).vector
  next_before k l =
      let not_first : nat_eq (k + 1) 0 ≡ false = grind arith in
      let less : k + 1 - 1 ≡ k = omega arith in
      let h : comes_before (term_at terms (k + 1 - 1)).vector (term_at terms (k + 1)).vector ≡ true =
      sym (ap (λ (b : Bool). b || comes_before (term_at terms (k + 1 - 1)).vector (term_at terms (k + 1)).vector) not_first) ∙ (good (k + 1) l).after in
      subst (λ (m : ℕ). ComesBefore (term_at terms m).vector (term_at terms (k + 1)).vector) less (is_before _ _ h)

  chain : (i m : ℕ) → i + m + 1 < length terms → ComesBefore (term_at terms i).vector (term_at terms (i + m + 1)).vector
  chain i zero l = let e : i + 0 + 1 ≡ i + 1 = omega arith in
      subst (λ (k : ℕ). ComesBefore (term_at terms i).vector (term_at terms k).vector) (sym e) (next_before i (omega arith))
  chain i (suc m) l =
      let e : i + m + 1 + 1 ≡ i + suc m + 1 = omega arith in
      let next = next_before (i + m + 1) (omega arith) in
      before_transitive _ _ _ (chain i m (omega arith)) (subst (λ (k : ℕ). ComesBefore (term_at terms (i + m + 1)).vector (term_at terms k).vector) e next)

  pub before : (i j : ℕ) → i < j → j < length terms → ComesBefore (term_at terms i).vector (term_at terms j).vector
  before i j l m =
      let e : i + (j - i - 1) + 1 ≡ j = omega arith in
      subst (λ (k : ℕ). ComesBefore (term_at terms i).vector (term_at terms k).vector) e (chain i (j - i - 1) (omega arith))

sum_flip : (terms : List WeightedVector) (i j : ℕ) → weighted_sum terms i j ≡ weighted_sum terms j i
sum_flip [] i j = weighted_sum-nil i j ∙ sym (weighted_sum-nil j i)
sum_flip (t ∷ ts) i j =
    weighted_sum-cons t ts i j
    ∙ ap₂ (λ (z : ℤ) (s : Rational). t.weight *ℚ whole z +ℚ s) (*ℤ_comm (coordinate t.vector i) (coordinate t.vector j)) (sum_flip ts i j)
    ∙ sym (weighted_sum-cons t ts j i)

sum_at : (a : RationalMatrix) (terms : List WeightedVector) → first_refusal (by_places a.size (sum_checks a terms)) ≡ None → (i j : ℕ) → i < a.size → j ≤ i
    → weighted_sum terms i j ≡ rational_entry a i j
unfolding sum_checks
sum_at a terms h i j li lj =
    let row = checks_each (λ (i : ℕ). steps (sum_checks a terms i) (i + 1)) a.size i li h in
    let place = checks_each (sum_checks a terms i) (i + 1) j (omega arith) row in
    let p = none-append (map made_check (steps (weighted_step terms i j) (length terms)))
    (test (SumDiffers (i + 1) (j + 1)) (same_number (weighted_sum terms i j) (rational_entry a i j)) ∷ []) place in
    same_is (weighted_sum terms i j) (rational_entry a i j)
    (test_passed (SumDiffers (i + 1) (j + 1)) (same_number (weighted_sum terms i j) (rational_entry a i j)) [] p.1).0

pub factors_right : (a : RationalMatrix) (n : ℕ) (terms : List WeightedVector) → All (λ term. length term.vector ≡ n) terms
    → first_refusal (factors_checks a n terms) ≡ None → (n ≡ a.size) × IsFactorization a.size (rational_entry a) terms
unfolding factors_checks factor_checks
factors_right a n terms sized h = (
  e,
  record {
    positive = All-from_get_or (λ term. IsPositive term.weight) terms none
        (λ k l. record { numerator = positive_of_test (term_at terms k).weight.num (good k l).weight });
    sized = All-weaker (λ term. length term.vector ≡ n) (λ term. length term.vector ≡ a.size) (λ term f. f ∙ e) terms sized;
    nonzero = All-from_get_or (λ term. IsNonzero a.size term.vector) terms none (λ k l. nonzero_at k l);
    distinct = λ i j d l m same. differ i j d l m same;
    sum = λ i j li lj. by i j li lj (at_least_or_at_most i j);
  },
)
  where
    none : WeightedVector
    none = record { weight = whole (pos 0); vector = [] }

    d : (nat_eq n a.size ≡ true) × (first_refusal (order_checks terms ++ by_places a.size (sum_checks a terms)) ≡ None)
    d = test_passed Dimension (nat_eq n a.size) (order_checks terms ++ by_places a.size (sum_checks a terms)) h

    e : n ≡ a.size
    e = same_of_test n a.size d.0

    parts : (first_refusal (order_checks terms) ≡ None) × (first_refusal (by_places a.size (sum_checks a terms)) ≡ None)
    parts = none-append (order_checks terms) (by_places a.size (sum_checks a terms)) d.1

    good : (k : ℕ) → k < length terms → IsGood terms k
    good k l = good_is terms k
        (test_passed (BadTerm (k + 1)) (is_good_term terms k) []
        (checks_each (order_step terms) (length terms) k l (ap first_refusal (sym (order_checks_are terms)) ∙ parts.0))).0

    nonzero_at : (k : ℕ) → k < length terms → IsNonzero a.size (term_at terms k).vector
    nonzero_at k l =
        let r = some_place (term_at terms k).vector (good k l).place in
        let s : length (term_at terms k).vector ≡ n = All-get_or (λ term. length term.vector ≡ n) terms k none l sized in
        (r.0, omega (arith, r.1, s, e), λ same. r.2 (let p : pos (slice_index_or (term_at terms k).vector r.0 0) ≡ pos 0 = same in omega (arith, ints)))

    differ : (i j : ℕ) (d : WeightedVector) → i < j → j < length terms → (slice_index_or terms i d).vector ≡ (slice_index_or terms j d).vector → ⊥
    differ i j d l m same =
        let first : slice_index_or terms i d ≡ term_at terms i = get_or_default terms i d none (omega arith) in
        let second : slice_index_or terms j d ≡ term_at terms j = get_or_default terms j d none m in
        let equal : (term_at terms i).vector ≡ (term_at terms j).vector = sym (ap (λ (t : WeightedVector). t.vector) first) ∙ same
        ∙ ap (λ (t : WeightedVector). t.vector) second in
        before_irreflexive (term_at terms j).vector (subst (λ (x : List ℕ). ComesBefore x (term_at terms j).vector) equal (before terms good i j l m))

    by : (i j : ℕ) → i < a.size → j < a.size → ((j ≤ i) ⊎ (i ≤ j)) → weighted_sum terms i j ≡ rational_entry a i j
    by i j li lj (inl below) = sum_at a terms parts.1 i j li below
    by i j li lj (inr beyond) = sum_flip terms i j ∙ sum_at a terms parts.1 j i lj beyond ∙ rational_entry_flip a j i

pub verdict_right : (a : RationalMatrix) (v : Verdict) → IsCheckable v → first_refusal (checks a v) ≡ None → IsRight a v
verdict_right a (Factors n terms) checkable h = factors_right a n terms checkable h
verdict_right a (Separator w value tree) checkable h = separator_right a w value tree checkable h
