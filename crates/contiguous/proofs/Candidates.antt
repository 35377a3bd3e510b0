-- The candidate of a Tighten, and its level.
use Rattle.std.specs.Prelude.{◌≡◌, ◌≢◌, ℕ, zero, suc, ◌<◌, ℤ, pos, negsuc, nat_abs, neg_ℤ, ◌+ℤ◌, ◌-ℤ◌, ◌*ℤ◌, ◌≤ℤ◌, ◌<ℤ◌, List, length}
use Rattle.std.proofs.Common.{arith, sym, ◌∙◌, ap, ap₂, refl, subst}
use Rattle.std.proofs.lemmas.Int.{ints, unsigned_abs-mul}
use Rattle.std.proofs.Math.Nat.{dvd-mul_right}
use native.Mathlib.Nat.{div-mul_cancel}
use Prim.Native.Nat.{◌∣◌}
use lib.IntN.{*ℤ_comm}
use Rattle.commutative_ring.proofs.Expand.{expand, linear}
use Rattle.commutative_ring.proofs.Laws.{one_mul_ℤ, zero_mul_ℤ}
use Rattle.commutative_ring.specs.Gcd.{divided}
use Rattle.commutative_ring.proofs.SmallCases.{at_least_one}
use Rattle.exact_forms.specs.Rational.{ratio}
use Rattle.exact_forms.specs.Forms.{form}
use Rattle.exact_forms.specs.Vectors.{coordinate, IsNonzero}
use Rattle.exact_forms.specs.Neighbours.{IsTightening, IsCandidate}
use Rattle.exact_forms.specs.Triangles.{triangle}
use Rattle.exact_forms.proofs.Forms.{form_same, form-mul}
use Rattle.exact_forms.proofs.Neighbours.{form_combined}
use Rattle.exact_forms.proofs.Order.{positive_mul, positive_factor, cancel_positive}
use Rattle.exact_forms.proofs.Rational.{ratio_value, den_positive, divided_times}
use Rattle.symmetric_matrix.specs.Symmetric.{Symmetric, entry}
use Rattle.symmetric_matrix.specs.Combining.{combined, divisor_of, primitive_of}
use Rattle.symmetric_matrix.proofs.Combinations.{combined_entry, length-combined, size-combined}
use Rattle.symmetric_matrix.proofs.Primitives.{primitive_size, primitive_times}
use Rattle.contiguous.specs.declared.neighbour.Tighten.{Tighten}
use Rattle.contiguous.specs.Tightenings.{Line, value_at, tighten_of, candidate, level, IsTightenable, combined_by}
use Rattle.contiguous.specs.Making.{IsCandidateReached}

-- of the Tighten with a vector
abbrev pub combined_at : Line → List ℕ → Symmetric
combined_at l w = combined_by l (tighten_of l w)

abbrev pub candidate_at : Line → List ℕ → Symmetric
candidate_at l w = candidate l (tighten_of l w)

abbrev pub candidate_level_at : Line → List ℕ → ℤ
candidate_level_at l w = level l (tighten_of l w)

-- the divisor times a value of the primitive form is the value
pub value_times : (m : Symmetric) (w : List ℕ) → length m.lower ≡ triangle m.size → pos (divisor_of m) *ℤ value_at (primitive_of m) w ≡ value_at m w
value_times m w long =
    ap (λ (n : ℕ). pos (divisor_of m) *ℤ form n (entry (primitive_of m)) (coordinate w)) (primitive_size m)
    ∙ sym (form-mul m.size (pos (divisor_of m)) (entry (primitive_of m)) (coordinate w))
    ∙ form_same m.size (λ i j. pos (divisor_of m) *ℤ entry (primitive_of m) i j) (entry m) (coordinate w) (coordinate w)
    (λ i j li lj. primitive_times m i j long li lj) (λ i l. refl)

pub p_is : (l : Line) (w : List ℕ) → (tighten_of l w).p ≡ (ratio (value_at l.matrix w -ℤ l.mu) (nat_abs (value_at l.direction w))).num
unfolding tighten_of
p_is l w = refl

pub q_is : (l : Line) (w : List ℕ) → (tighten_of l w).q ≡ pos (ratio (value_at l.matrix w -ℤ l.mu) (nat_abs (value_at l.direction w))).den
unfolding tighten_of
q_is l w = refl

pub vector_is : (l : Line) (w : List ℕ) → (tighten_of l w).vector ≡ w
unfolding tighten_of
vector_is l w = refl

pub candidate_is : (l : Line) (t : Tighten) → candidate l t ≡ primitive_of (combined t.q l.matrix t.p l.direction)
unfolding candidate
candidate_is l t = refl

pub level_of : (l : Line) (t : Tighten) → level l t ≡ divided (t.q *ℤ l.mu) (divisor_of (combined t.q l.matrix t.p l.direction))
unfolding level
level_of l t = refl

pub candidate_size : (l : Line) (t : Tighten) → (candidate l t).size ≡ l.matrix.size
candidate_size l t =
    ap (λ (m : Symmetric). m.size) (candidate_is l t) ∙ primitive_size (combined t.q l.matrix t.p l.direction) ∙ size-combined t.q l.matrix t.p l.direction

abs_of_negative : (b : ℤ) → b <ℤ pos 0 → pos (nat_abs b) ≡ neg_ℤ b
abs_of_negative (pos n) h = absurd (omega (arith, ints))
abs_of_negative (negsuc n) h = refl

positive_abs : (b : ℤ) → b <ℤ pos 0 → 0 < nat_abs b
positive_abs (pos n) h = absurd (omega (arith, ints))
positive_abs (negsuc n) h = omega arith

nonzero_at_least : (n : ℕ) → n ≢ 0 → pos 1 ≤ℤ pos n
nonzero_at_least zero e = absurd (e refl)
nonzero_at_least (suc n) e = omega (arith, ints)

module _ (l : Line) (sizes : l.direction.size ≡ l.matrix.size) (w : List ℕ) (h : IsTightenable l w) where
  same_value : value_at l.direction w ≡ form l.matrix.size (entry l.direction) (coordinate w)
  same_value = ap (λ (n : ℕ). form n (entry l.direction) (coordinate w)) sizes

  pub is_tightening : IsTightening l.matrix.size (entry l.matrix) (entry l.direction) l.mu w (tighten_of l w).p (tighten_of l w).q
  is_tightening =
      let r = ratio (value_at l.matrix w -ℤ l.mu) (nat_abs (value_at l.direction w)) in
      record {
        size = h.size;
        nonzero = h.nonzero;
        below = subst (λ (b : ℤ). b <ℤ pos 0) same_value h.below;
        den = subst (λ (q : ℤ). pos 1 ≤ℤ q) (sym (q_is l w)) (at_least_one r.den (den_positive r));
        ratio = ap₂ (λ (p : ℤ) (b : ℤ). p *ℤ b) (p_is l w) (sym (abs_of_negative (value_at l.direction w) h.below ∙ ap neg_ℤ same_value))
            ∙ ratio_value (value_at l.matrix w -ℤ l.mu) (nat_abs (value_at l.direction w)) (positive_abs (value_at l.direction w) h.below)
            ∙ *ℤ_comm (value_at l.matrix w -ℤ l.mu) (pos r.den)
            ∙ ap (λ (q : ℤ). q *ℤ (value_at l.matrix w -ℤ l.mu)) (sym (q_is l w));
      }

  -- q·P + p·R has the value q·mu
  combined_value : value_at (combined_at l w) w ≡ (tighten_of l w).q *ℤ l.mu
  combined_value =
      ap (λ (n : ℕ). form n (entry C) (coordinate w)) (size-combined q l.matrix p l.direction)
      ∙ sym (one_mul_ℤ (form l.matrix.size (entry C) (coordinate w)))
      ∙ form_combined l.matrix.size (pos 1) q p (entry l.matrix) (entry l.direction) (entry C) (coordinate w)
      record { entries = λ i j li lj. one_mul_ℤ (entry C i j) ∙ combined_entry q l.matrix p l.direction i j li lj }
      ∙ turn q p l.mu (form l.matrix.size (entry l.matrix) (coordinate w)) (form l.matrix.size (entry l.direction) (coordinate w)) is_tightening.ratio
    where
      q : ℤ
      q = (tighten_of l w).q

      p : ℤ
      p = (tighten_of l w).p

      C : Symmetric
      C = combined_at l w

      turn : (x y mu a b : ℤ) → y *ℤ neg_ℤ b ≡ x *ℤ (a -ℤ mu) → x *ℤ a +ℤ y *ℤ b ≡ x *ℤ mu
      turn x y mu a b e = let e' = simp expand at e in omega (arith, linear)

  long : length (combined_at l w).lower ≡ triangle (combined_at l w).size
  long =
      length-combined (tighten_of l w).q l.matrix (tighten_of l w).p l.direction
      ∙ ap triangle (sym (size-combined (tighten_of l w).q l.matrix (tighten_of l w).p l.direction))

  abbrev divisor : ℕ
  divisor = divisor_of (combined_at l w)

  candidate_times : pos (divisor_of (combined_at l w)) *ℤ value_at (candidate_at l w) w ≡ (tighten_of l w).q *ℤ l.mu
  candidate_times =
      ap (λ (m : Symmetric). pos (divisor_of (combined_at l w)) *ℤ value_at m w) (candidate_is l (tighten_of l w))
      ∙ value_times (combined_at l w) w long ∙ combined_value

  level_times : candidate_level_at l w *ℤ pos (divisor_of (combined_at l w)) ≡ (tighten_of l w).q *ℤ l.mu
  level_times =
      ap (λ (z : ℤ). z *ℤ pos (divisor_of (combined_at l w))) (level_of l (tighten_of l w))
      ∙ divided_times ((tighten_of l w).q *ℤ l.mu) (divisor_of (combined_at l w))
      (div-mul_cancel (divisor_of (combined_at l w))
      (divides (divisor_of (combined_at l w)) (value_at (candidate_at l w) w) ((tighten_of l w).q *ℤ l.mu) candidate_times))
    where
      divides : (g : ℕ) (v z : ℤ) → pos g *ℤ v ≡ z → g ∣ nat_abs z
      divides g v z e = subst (λ (n : ℕ). g ∣ n) (sym (unsigned_abs-mul (pos g) v) ∙ ap nat_abs e) (dvd-mul_right g (nat_abs v))

  module _ (positive : pos 1 ≤ℤ l.mu) where
    scaled_positive : pos 1 ≤ℤ ((tighten_of l w).q *ℤ l.mu)
    scaled_positive = positive_mul (tighten_of l w).q l.mu is_tightening.den positive

    pub divisor_nonzero : divisor_of (combined_at l w) ≢ 0
    divisor_nonzero e =
        let none : pos 0 ≡ (tighten_of l w).q *ℤ l.mu = sym (zero_mul_ℤ (value_at (candidate_at l w) w)) ∙ ap
        (λ (g : ℕ). pos g *ℤ value_at (candidate_at l w) w) (sym e) ∙ candidate_times in
        no (subst (λ (z : ℤ). pos 1 ≤ℤ z) (sym none) scaled_positive)
      where
        no : pos 1 ≤ℤ pos 0 → ⊥
        no h = absurd (omega (arith, ints))

    pub divisor_positive : pos 1 ≤ℤ pos (divisor_of (combined_at l w))
    divisor_positive = nonzero_at_least _ divisor_nonzero

    pub is_candidate : IsCandidate l.matrix.size (entry l.matrix) (entry l.direction) l.mu (tighten_of l w).p (tighten_of l w).q
        (pos (divisor_of (combined_at l w))) (candidate_level_at l w) (entry (candidate_at l w))
    is_candidate = record {
      divisor = divisor_positive;
      combined = record { entries = λ i j li lj. one i j li lj };
      level_is = *ℤ_comm (pos (divisor_of (combined_at l w))) (candidate_level_at l w) ∙ level_times;
    }
      where
        one : (i j : ℕ) → i < l.matrix.size → j < l.matrix.size
            → pos (divisor_of (combined_at l w)) *ℤ entry (candidate_at l w) i j
            ≡ (tighten_of l w).q *ℤ entry l.matrix i j +ℤ (tighten_of l w).p *ℤ entry l.direction i j
        one i j li lj =
            let size = size-combined (tighten_of l w).q l.matrix (tighten_of l w).p l.direction in
            ap (λ (m : Symmetric). pos (divisor_of (combined_at l w)) *ℤ entry m i j) (candidate_is l (tighten_of l w))
            ∙ primitive_times (combined_at l w) i j long (rw size li) (rw size lj)
            ∙ combined_entry (tighten_of l w).q l.matrix (tighten_of l w).p l.direction i j li lj

    pub level_positive : pos 1 ≤ℤ candidate_level_at l w
    level_positive =
        positive_factor (pos (divisor_of (combined_at l w))) (candidate_level_at l w) divisor_positive
        (subst (λ (z : ℤ). pos 1 ≤ℤ z) (sym is_candidate.level_is) scaled_positive)

    pub reached_value : value_at (candidate_at l w) w ≡ candidate_level_at l w
    reached_value =
        cancel_positive (pos (divisor_of (combined_at l w))) (value_at (candidate_at l w) w) (candidate_level_at l w) divisor_positive
        (candidate_times ∙ sym is_candidate.level_is)

    pub is_reached : IsCandidateReached (candidate_at l w) (candidate_level_at l w)
    is_reached =
        let size = candidate_size l (tighten_of l w) in
        record { vector = w; size = h.size ∙ sym size; nonzero = subst (λ (n : ℕ). IsNonzero n w) (sym size) h.nonzero; value = reached_value }
