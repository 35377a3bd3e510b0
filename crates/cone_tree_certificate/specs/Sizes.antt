-- The sizes that a text may name.
--
--     IsSize n          from 1 to 6
--     IsSized header    the header names such a size
use Rattle.std.specs.Prelude.{ℕ, ◌≤◌}
use Rattle.cone_tree_certificate.specs.declared.header.Header.{Header}
use Rattle.cone_tree_certificate.specs.declared.header.Header.TheVariants.{OfFactors, OfSeparator}

pub record IsSize (n : ℕ) : Type 0 where
  pub some : 1 ≤ n
  pub few : n ≤ 6

abbrev pub IsSized : Header → Type 0
IsSized (OfFactors n count) = IsSize n
IsSized (OfSeparator n) = IsSize n
