-- Numbers that are copied.
--
--     IsCopiedTo count from into      the first numbers of into are those of from, and both are 36 long
--     AreRowsCopied count from into   the first rows of into are those of from, and it has 8
use Rattle.std.specs.Prelude.{ℕ, ℤ, pos, ◌<◌, ◌≡◌, List, [], length, slice_index_or}

pub record IsCopiedTo (count : ℕ) (from into : List ℤ) : Type 0 where
  pub full : length from ≡ 36
  pub room : length into ≡ 36
  pub same : (k : ℕ) → k < count → slice_index_or into k (pos 0) ≡ slice_index_or from k (pos 0)

pub record AreRowsCopied (count : ℕ) (from into : List (List ℕ)) : Type 0 where
  pub room : length into ≡ 8
  pub same : (k : ℕ) → k < count → slice_index_or into k [] ≡ slice_index_or from k []
