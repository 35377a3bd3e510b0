-- Multiplications and additions of whole numbers, and which of them do not fit.
--
--     mul_op x y, add_op x y   the operation with its operands in the order written
--     exact_result op          its result, of whatever size
--     is_owed op               the magnitude of the result is over 2^127 - 1
use Rattle.std.specs.Prelude.{◌^◌, ◌-◌, Bool, ℤ, ◌+ℤ◌, ◌*ℤ◌, nat_lt, nat_abs}
use Rattle.symmetric_matrix.specs.declared.operation.IntKind.TheVariants.{Mul, Add}
use Rattle.symmetric_matrix.specs.declared.operation.IntOp.{IntOp}

abbrev pub exact_result : IntOp → ℤ
exact_result op = elim op.kind [ Mul ↦ op.left *ℤ op.right | Add ↦ op.left +ℤ op.right ]

abbrev pub is_owed : IntOp → Bool
is_owed op = nat_lt (2 ^ 127 - 1) (nat_abs (exact_result op))

abbrev pub mul_op : ℤ → ℤ → IntOp
mul_op x y = record { kind = Mul; left = x; right = y }

abbrev pub add_op : ℤ → ℤ → IntOp
add_op x y = record { kind = Add; left = x; right = y }
