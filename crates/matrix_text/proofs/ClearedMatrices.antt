-- The two passes of clearing, put together.
use Rattle.std.proofs.Common.{◌≡◌, ℕ, ◌<◌, List, [], length, get_or, map, Result, Ok, Err, ℤ, pos, nat_abs, ◌*ℤ◌, ◌/◌, sym, ap, ap₂, subst, ◌∙◌}
use Rattle.std.proofs.lemmas.List.{append-nil, length-map}
use Rattle.std.proofs.lemmas.List.Elements.{recursion_from_All}
use Prim.Native.Nat.{◌∣◌}
use Rattle.exact_forms.specs.Rational.{Rational, ratio}
use Rattle.symmetric_matrix.specs.Owed.{answer}
use Rattle.symmetric_matrix.specs.Symmetric.{Symmetric, FitsInt, IsLower}
use Rattle.symmetric_matrix.proofs.Owed.{answer_nothing, answer-append_err, answer-append_ok}
use Rattle.matrix_text.specs.RationalMatrix.{RationalMatrix, IsRationalMatrix}
use Rattle.matrix_text.specs.Clearing.{PlacedOp, is_placed_owed, placed_entries, common_multiple, least_denominator, denominator_ops, numerator_ops}
use Rattle.matrix_text.specs.Clearing.{numerators_over, clear_ops, cleared_of, IsLeastCommon, IsCleared}
use Rattle.matrix_text.specs.Refusals.{RefusedAs}
use Rattle.matrix_text.specs.declared.clearing.ClearFail.{ClearFail}
use Rattle.matrix_text.specs.declared.clearing.ClearFail.TheVariants.{Wide, OutOfMemory}
use Rattle.matrix_text.proofs.Clearings.{top_left, placed_lower, least_common, numerators-over}

-- the first pass gave d
abbrev pub GivesDenominator : RationalMatrix → ℤ → Type 0
GivesDenominator a d = answer is_placed_owed (denominator_ops 1 (placed_entries a)) (pos (least_denominator a)) ≡ Ok d

-- the second pass gave these numbers
abbrev pub GivesNumerators : RationalMatrix → ℤ → List ℤ → Type 0
GivesNumerators a d xs = answer is_placed_owed (numerator_ops (nat_abs d) (placed_entries a)) (numerators_over (nat_abs d) a.lower) ≡ Ok xs

pub denominator_is : (a : RationalMatrix) (d : ℤ) → GivesDenominator a d → pos (least_denominator a) ≡ d
denominator_is a d h = (answer-append_ok is_placed_owed (denominator_ops 1 (placed_entries a)) [] (pos (least_denominator a)) d d h).1

pub numerators_are : (a : RationalMatrix) (d : ℤ) (xs : List ℤ) → GivesNumerators a d xs → numerators_over (nat_abs d) a.lower ≡ xs
numerators_are a d xs h = (answer-append_ok is_placed_owed (numerator_ops (nat_abs d) (placed_entries a)) [] (numerators_over (nat_abs d) a.lower) xs xs h).1

-- a list that refuses nothing gives any value
any_value : {U V : Type 0} (ops : List PlacedOp) (u z : U) (v : V) → answer is_placed_owed ops u ≡ Ok z → answer is_placed_owed ops v ≡ Ok v
any_value ops u z v h = ap (λ (xs : List PlacedOp). answer is_placed_owed xs v) (sym (append-nil ops)) ∙ (answer-append_ok is_placed_owed ops [] u z v h).0
    ∙ answer_nothing is_placed_owed v

any_refusal : {U V : Type 0} (ops : List PlacedOp) (u : U) (v : V) (op : PlacedOp) → answer is_placed_owed ops u ≡ Err op → answer is_placed_owed ops v ≡ Err op
any_refusal ops u v op h = ap (λ (xs : List PlacedOp). answer is_placed_owed xs v) (sym (append-nil ops)) ∙ answer-append_err is_placed_owed ops [] u v op h

pub clear_ok : (a : RationalMatrix) (d : ℤ) (s : Symmetric) (xs : List ℤ) → GivesDenominator a d → GivesNumerators a d xs
    → s ≡ record { size = a.size; lower = xs } → answer is_placed_owed (clear_ops a) (cleared_of a) ≡ Ok (s, d)
unfolding clear_ops cleared_of
clear_ok a d s xs first second is =
    let known = denominator_is a d first in
    let size : nat_abs d ≡ least_denominator a = ap nat_abs (sym known) in
    let given = rw size at second in
    let values : numerators_over (least_denominator a) a.lower ≡ xs = rw size at (numerators_are a d xs second) in
    (answer-append_ok is_placed_owed (denominator_ops 1 (placed_entries a)) (numerator_ops (least_denominator a) (placed_entries a)) (pos (least_denominator a))
    d (made (numerators_over (least_denominator a) a.lower) (pos (least_denominator a))) first).0
    ∙ any_value (numerator_ops (least_denominator a) (placed_entries a)) (numerators_over (least_denominator a) a.lower) xs
    (made (numerators_over (least_denominator a) a.lower) (pos (least_denominator a))) given
    ∙ ap₂ (λ xs d. ok (made xs d)) values known ∙ ap (λ (s : Symmetric). ok (s, d)) (sym is)
  where
    made : List ℤ → ℤ → Symmetric × ℤ
    made xs d = (record { size = a.size; lower = xs }, d)

    ok : Symmetric × ℤ → Result (Symmetric × ℤ) PlacedOp
    ok r = Ok r

pub refused_first : (a : RationalMatrix) (fail : ClearFail)
    → RefusedAs (answer is_placed_owed (denominator_ops 1 (placed_entries a)) (pos (least_denominator a))) fail
    → RefusedAs (answer is_placed_owed (clear_ops a) (cleared_of a)) fail
unfolding clear_ops
refused_first a (Wide row column op) h =
    answer-append_err is_placed_owed (denominator_ops 1 (placed_entries a)) (numerator_ops (least_denominator a) (placed_entries a)) (pos (least_denominator a))
    (cleared_of a) (record { row = row; column = column; op = op }) h
refused_first a OutOfMemory h = tt

pub refused_second : (a : RationalMatrix) (d : ℤ) (fail : ClearFail) → GivesDenominator a d
    → RefusedAs (answer is_placed_owed (numerator_ops (nat_abs d) (placed_entries a)) (numerators_over (nat_abs d) a.lower)) fail
    → RefusedAs (answer is_placed_owed (clear_ops a) (cleared_of a)) fail
unfolding clear_ops
refused_second a d (Wide row column op) first h =
    let size : nat_abs d ≡ least_denominator a = ap nat_abs (sym (denominator_is a d first)) in
    let given = rw size at h in
    (answer-append_ok is_placed_owed (denominator_ops 1 (placed_entries a)) (numerator_ops (least_denominator a) (placed_entries a)) (pos (least_denominator a))
    d (cleared_of a) first).0
    ∙ any_refusal (numerator_ops (least_denominator a) (placed_entries a)) (numerators_over (least_denominator a) a.lower) (cleared_of a)
    (record { row = row; column = column; op = op }) given
refused_second a d OutOfMemory first h = tt

least : (a : RationalMatrix) → IsRationalMatrix a → IsLeastCommon (least_denominator a) a.lower
least a is = subst (λ ps. IsLeastCommon (common_multiple 1 ps) a.lower) (placed_lower a is.triangle) (least_common top_left a.lower)

pub is_cleared : (a : RationalMatrix) (d : ℤ) (s : Symmetric) (xs : List ℤ) → IsRationalMatrix a → GivesDenominator a d → GivesNumerators a d xs
    → s ≡ record { size = a.size; lower = xs } → IsCleared a s (nat_abs d)
is_cleared a d s xs matrix first second is =
    let size : nat_abs d ≡ least_denominator a = ap nat_abs (sym (denominator_is a d first)) in
    let common = least a matrix in
    let values : numerators_over (least_denominator a) a.lower ≡ xs = rw size at (numerators_are a d xs second) in
    record {
      size = ap (λ (s : Symmetric). s.size) is;
      entries = rw size (ap (λ (s : Symmetric). map (λ z. ratio z (least_denominator a)) s.lower) is
          ∙ ap (map (λ z. ratio z (least_denominator a))) (sym values)
          ∙ numerators-over (least_denominator a) a.lower common.positive (recursion_from_All (λ q. q.den ∣ least_denominator a) a.lower common.common));
      denominator = rw size common;
    }

pub lower_is : (a : RationalMatrix) (d : ℤ) (n : ℕ) (xs ys : List ℤ) → IsRationalMatrix a → GivesNumerators a d xs → n ≡ a.size → ys ≡ xs
    → ((k : ℕ) → k < length xs → FitsInt (get_or xs k (pos 0))) → IsLower n ys
unfolding numerators_over
lower_is a d n xs ys matrix second e f narrow =
    let len : length xs ≡ length a.lower = ap (λ (zs : List ℤ). length zs) (sym (numerators_are a d xs second))
    ∙ length-map a.lower (λ (q : Rational). q.num *ℤ pos (nat_abs d / q.den)) in
    rw (e, f) (record { entries = len ∙ matrix.triangle; fits = narrow })
