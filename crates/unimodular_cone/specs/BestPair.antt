-- The pair rule as a scan makes it: the least negative entry so far, by its value and its place.
--
--     best_pair b                the place of b, None where its value is 0
--     IsBestOf g b               a negative value of b is the entry of g at its place
--     better_best b z i j        the better of b and the value z at (i, j); b among equals
use Rattle.std.specs.Prelude.{ℕ, ℤ, pos, ◌≡◌, ◌≤ℤ◌, ◌<ℤ◌, int_lt, cond, Option, Some, None}
use Rattle.unimodular_cone.specs.declared.pair_rule.Best.{Best}
use Rattle.unimodular_cone.specs.Cones.{Matrix}

abbrev pub best_pair : Best → Option (ℕ × ℕ)
best_pair b = cond (int_lt b.value (pos 0)) (Some (b.row, b.column)) None

pub record IsBestOf (g : Matrix) (b : Best) : Type 0 where
  pub at_most : b.value ≤ℤ pos 0
  pub entry : b.value <ℤ pos 0 → b.value ≡ g b.row b.column

abbrev pub better_best : Best → ℤ → ℕ → ℕ → Best
better_best b z i j = cond (int_lt z b.value) (record { value = z; row = i; column = j }) b
