-- A matrix of fractions as a whole matrix over a number: A = S/d.
--
--     whole_of a              the whole matrix S that clearing gives
--     denominator_of a        and d
--     IsClearable a           clearing owes nothing
--     IsQuotient a            A = S/d, where d, of at least 1, is the least common denominator
use Rattle.std.specs.Prelude.{◌≡◌, ℤ, pos, ◌≤ℤ◌, nat_abs, None}
use Rattle.symmetric_matrix.specs.Owed.{first_owed}
use Rattle.symmetric_matrix.specs.Symmetric.{Symmetric}
use Rattle.matrix_text.specs.RationalMatrix.{RationalMatrix}
use Rattle.matrix_text.specs.Clearing.{is_placed_owed, clear_ops, cleared_of, IsCleared}

abbrev pub whole_of : RationalMatrix → Symmetric
whole_of a = (cleared_of a).0

abbrev pub denominator_of : RationalMatrix → ℤ
denominator_of a = (cleared_of a).1

abbrev pub IsClearable : RationalMatrix → Type 0
IsClearable a = first_owed is_placed_owed (clear_ops a) ≡ None

pub record IsQuotient (a : RationalMatrix) : Type 0 where
  pub positive : pos 1 ≤ℤ denominator_of a
  pub cleared : IsCleared a (whole_of a) (nat_abs (denominator_of a))
