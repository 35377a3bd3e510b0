-- Clearing a matrix of its denominators.
--
--     multiple e d             e·(d/gcd(e,d)), the least common multiple of e and d
--     PlacedEntry, PlacedOp    an entry, an operation, with its row and column, from 1
--     is_placed_owed op        the operation is owed
--     at_place p op            the operation at the place of the entry p
--     placed_row a i           the entries of row i, from 0, up to the diagonal
--     placed_entries a         the entries in the order (1,1), (2,1), (2,2), (3,1) and so on
--     common_multiple e ps     the least common multiple of e and the entries' denominators
--     denominator_ops e ps     the multiplications that make it, each at its entry
--     numerator_ops d ps       the multiplications of each numerator by d over its denominator
--     least_denominator a      the least common multiple of all denominators
--     clear_ops a              both, for that denominator
--     numerators_over d qs     the numerators of the fractions over d
--     cleared_of a             the numerators over the least common denominator, and that denominator
--     IsLeastCommon d qs       d is a common multiple of the denominators, and divides each other one
--     IsCleared a s d          A = S/d, where d is the least common denominator
use Rattle.std.specs.Prelude.{◌≡◌, ℕ, ◌+◌, ◌*◌, ◌/◌, ◌<◌, Bool, List, [], ◌∷◌, ◌++◌, map, ℤ, pos, ◌*ℤ◌, All}
use Rattle.std.specs.List.{flat_map, range_with_len}
use Prim.Native.Nat.{◌∣◌}
use Rattle.commutative_ring.specs.Gcd.{gcd_of}
use Rattle.exact_forms.specs.Rational.{Rational, ratio}
use Rattle.symmetric_matrix.specs.declared.operation.IntOp.{IntOp}
use Rattle.symmetric_matrix.specs.Operations.{is_owed, mul_op}
use Rattle.symmetric_matrix.specs.Symmetric.{Symmetric}
use Rattle.matrix_text.specs.RationalMatrix.{RationalMatrix, rational_entry}

unfoldable pub multiple : ℕ → ℕ → ℕ
multiple e d = e * (d / gcd_of e d)

pub record PlacedEntry : Type 0 where
  pub row : ℕ
  pub column : ℕ
  pub value : Rational

pub record PlacedOp : Type 0 where
  pub row : ℕ
  pub column : ℕ
  pub op : IntOp

abbrev pub is_placed_owed : PlacedOp → Bool
is_placed_owed placed = is_owed placed.op

abbrev pub at_place : PlacedEntry → IntOp → PlacedOp
at_place p op = record { row = p.row; column = p.column; op = op }

unfoldable pub placed_row : RationalMatrix → ℕ → List PlacedEntry
placed_row a i =
    map (λ j. record { row = i + 1; column = j + 1; value = rational_entry a i j }) (range_with_len 0 (i + 1))

unfoldable pub placed_entries : RationalMatrix → List PlacedEntry
placed_entries a = flat_map (placed_row a) (range_with_len 0 a.size)

unfoldable pub common_multiple : ℕ → List PlacedEntry → ℕ
common_multiple e [] = e
common_multiple e (p ∷ ps) = common_multiple (multiple e p.value.den) ps

unfoldable pub denominator_ops : ℕ → List PlacedEntry → List PlacedOp
denominator_ops e [] = []
denominator_ops e (p ∷ ps) =
    at_place p (mul_op (pos e) (pos (p.value.den / gcd_of e p.value.den))) ∷ denominator_ops (multiple e p.value.den) ps

unfoldable pub numerator_ops : ℕ → List PlacedEntry → List PlacedOp
numerator_ops d ps = map (λ p. at_place p (mul_op p.value.num (pos (d / p.value.den)))) ps

abbrev pub least_denominator : RationalMatrix → ℕ
least_denominator a = common_multiple 1 (placed_entries a)

unfoldable pub clear_ops : RationalMatrix → List PlacedOp
clear_ops a = denominator_ops 1 (placed_entries a) ++ numerator_ops (least_denominator a) (placed_entries a)

unfoldable pub numerators_over : ℕ → List Rational → List ℤ
numerators_over d qs = map (λ q. q.num *ℤ pos (d / q.den)) qs

unfoldable pub cleared_of : RationalMatrix → Symmetric × ℤ
cleared_of a =
    (record { size = a.size; lower = numerators_over (least_denominator a) a.lower }, pos (least_denominator a))

pub record IsLeastCommon (d : ℕ) (qs : List Rational) : Type 0 where
  pub positive : 0 < d
  pub common : All (λ q. q.den ∣ d) qs
  pub least : (m : ℕ) → All (λ q. q.den ∣ m) qs → d ∣ m

pub record IsCleared (a : RationalMatrix) (s : Symmetric) (d : ℕ) : Type 0 where
  pub size : s.size ≡ a.size
  pub entries : map (λ z. ratio z d) s.lower ≡ a.lower
  pub denominator : IsLeastCommon d a.lower
