-- What the steps of making a ray answer.
--
--     NoEntryOwed ops, NothingOwed ops   none of the operations on entries, or of clearing, is owed
--     IsEntryFail ops f        f is the first of the operations on entries that is owed
--     IsClearFail ops f        f is the first of the operations of clearing that is owed
--
--     columns_over n vectors names   the tableau over the units whose further columns are the vectors with these names
--     IsBroughtIn start k t    no operation is owed as the first k columns come into `start`, and t is what comes of it
--     AreOver e cs zs          none is owed as the numerators of the coefficients over e are made, which are zs
--     AreClearedOf cs zs       none is owed as the coefficients are cleared, which gives zs
--     IsRayOf n cs r           none is owed as they are cleared, and r is the primitive form of the matrix that this gives
--     LiftedIs e c a           a is the least common multiple of e and the denominator of c, or the multiplication owed
--     NumeratorIs e c a        a is the numerator of c over e, or the first multiplication that is owed
--     DenominatorIs cs a       a is the least common denominator, or the first multiplication that is owed
--
-- Want of memory is free.
use Rattle.std.specs.Prelude.{◌≡◌, ℕ, ℤ, pos, List, Result, Ok, Err}
use Rattle.symmetric_matrix.specs.declared.operation.IntOp.{IntOp}
use Rattle.symmetric_matrix.specs.Owed.{answer}
use Rattle.symmetric_matrix.specs.Operations.{is_owed}
use Rattle.exact_linear.specs.declared.entry.EntryOp.{EntryOp}
use Rattle.exact_linear.specs.Tables.{Table}
use Rattle.exact_linear.specs.Columns.{start_table}
use Rattle.exact_linear.specs.Exchange.{entry_is_owed, first_ops, first_bases}
use Rattle.exact_linear.specs.Squares.{squares, named}
use Rattle.symmetric_matrix.specs.Combining.{primitive_of}
use Rattle.symmetric_matrix.specs.Symmetric.{Symmetric}
use Rattle.extreme_ray.specs.declared.clearing.Coefficient.{Coefficient}
use Rattle.extreme_ray.specs.Clearing.{lifted, lift_ops, numerator, one_numerator_ops, denominator_over, ray_denominator_ops, numerators, ray_numerator_ops, cleared_coefficients, ray_clear_ops, cleared_matrix}
use Rattle.extreme_ray.specs.declared.ray.RayFail.{RayFail}
use Rattle.extreme_ray.specs.declared.ray.RayFail.TheVariants as fail

abbrev pub IsEntryFail : List EntryOp → RayFail → Type 0
IsEntryFail ops (fail.Entry op) = answer entry_is_owed ops (tt {0}) ≡ Err op
IsEntryFail ops (fail.Clear op) = ⊥
IsEntryFail ops fail.OutOfMemory = Unit {0}

abbrev pub IsClearFail : List IntOp → RayFail → Type 0
IsClearFail ops (fail.Entry op) = ⊥
IsClearFail ops (fail.Clear op) = answer is_owed ops (tt {0}) ≡ Err op
IsClearFail ops fail.OutOfMemory = Unit {0}

abbrev pub NoEntryOwed : List EntryOp → Type 0
NoEntryOwed ops = answer entry_is_owed ops (tt {0}) ≡ Ok (tt {0})

abbrev pub NothingOwed : List IntOp → Type 0
NothingOwed ops = answer is_owed ops (tt {0}) ≡ Ok (tt {0})

abbrev pub columns_over : ℕ → List (List ℕ) → List ℕ → Table
columns_over n vectors names = start_table n (squares (named vectors names))

abbrev pub IsBroughtIn : Table → ℕ → Table → Type 0
IsBroughtIn start k t = NoEntryOwed (first_ops start k) × (t ≡ first_bases start k)

abbrev pub AreOver : ℕ → List Coefficient → List ℤ → Type 0
AreOver e cs zs = NothingOwed (ray_numerator_ops e cs) × (zs ≡ numerators e cs)

abbrev pub AreClearedOf : List Coefficient → List ℤ → Type 0
AreClearedOf cs zs = NothingOwed (ray_clear_ops cs) × (zs ≡ cleared_coefficients cs)

abbrev pub IsRayOf : ℕ → List Coefficient → Symmetric → Type 0
IsRayOf n cs r = NothingOwed (ray_clear_ops cs) × (r ≡ primitive_of (cleared_matrix n cs))

abbrev pub DenominatorIs : List Coefficient → Result ℤ IntOp → Type 0
DenominatorIs cs a = a ≡ answer is_owed (ray_denominator_ops 1 cs) (pos (denominator_over 1 cs))

abbrev pub LiftedIs : ℕ → Coefficient → Result ℤ IntOp → Type 0
LiftedIs e c a = a ≡ answer is_owed (lift_ops e c) (pos (lifted e c))

abbrev pub NumeratorIs : ℕ → Coefficient → Result ℤ IntOp → Type 0
NumeratorIs e c a = a ≡ answer is_owed (one_numerator_ops e c) (numerator e c)
