-- What contracts see of the rows of a block.
--
--     ShownRows   the cones in its rows, from the first on, and how many rows it has room for
use Rattle.std.specs.Prelude.{ℕ, List}
use Rattle.unimodular_cone.specs.Shown.{ShownCone}

pub record ShownRows : Type 0 where
  pub items : List ShownCone
  pub room : ℕ
