-- Rules that multiply out: `simp expand (omega (arith, linear))` proves an identity of up to some thirty products.
use Rattle.std.specs.Prelude.{◌≡◌, ℤ, pos, ◌+ℤ◌, ◌*ℤ◌, neg_ℤ}
use Rattle.std.proofs.Common.{arith}
use Rattle.std.proofs.lemmas.Int.{ints}
use lib.IntN.{*ℤ_comm}
use borrow.Author.Differences.{same_out, lt_out, le_out, same_in, below_in, at_most_in, sum_is_lem, neg_is, Apart-out}
use Rattle.commutative_ring.proofs.Laws.{mul_assoc_ℤ, add_mul_ℤ, mul_add_ℤ, one_mul_ℤ, zero_mul_ℤ, mul_zero_ℤ, neg_is_mul, neg_mul_ℤ, mul_left_comm_ℤ}

pub mul_neg_ℤ : (x y : ℤ) → x *ℤ neg_ℤ y ≡ neg_ℤ (x *ℤ y)
mul_neg_ℤ x y = rw (*ℤ_comm x (neg_ℤ y), *ℤ_comm x y) (neg_mul_ℤ y x)

pub neg_neg_ℤ : (x : ℤ) → neg_ℤ (neg_ℤ x) ≡ x
neg_neg_ℤ x = omega (arith, ints)

pub two_times : (x : ℤ) → pos 2 *ℤ x ≡ x +ℤ x
two_times x = omega (arith, ints)

pub times_two : (x : ℤ) → x *ℤ pos 2 ≡ x +ℤ x
times_two x = omega (arith, ints)

pub three_times : (x : ℤ) → pos 3 *ℤ x ≡ x +ℤ x +ℤ x
three_times x = omega (arith, ints)

pub times_three : (x : ℤ) → x *ℤ pos 3 ≡ x +ℤ x +ℤ x
times_three x = omega (arith, ints)

pub times_one : (x : ℤ) → x *ℤ pos 1 ≡ x
times_one x = omega (arith, ints)

-- for `omega`, with each product as one number
pub ruleset linear = (same_out, lt_out, le_out, same_in, below_in, at_most_in, sum_is_lem, neg_is, Apart-out)

-- for `simp`: sums of sorted products
pub ruleset expand = (
  one_mul_ℤ,
  times_one,
  zero_mul_ℤ,
  mul_zero_ℤ,
  two_times,
  times_two,
  three_times,
  times_three,
  neg_neg_ℤ,
  neg_mul_ℤ,
  mul_neg_ℤ,
  add_mul_ℤ,
  mul_add_ℤ,
  mul_assoc_ℤ,
  mul_left_comm_ℤ,
  *ℤ_comm,
)
