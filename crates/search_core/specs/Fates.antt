-- The fate of a cone, codes and words.
--
--     Fate                what is said of one cone; the last number of each but Low is the word that was used
--     word_of path fate   that word; of a Low the length of its path
--     least_upto n f      the least of f 0, .., f n
--     least_value n q v   the least generator value
--     least_diagonal n q  the least diagonal entry
--     code_of m depth z   the code of a cone of that depth whose least value is z
--     code m n q path     the path's depth if a generator is low, else 256 (Sign), or 256 plus the least value (Least)
--     start_of m z        the start word where the least diagonal entry is z
--     start_word m n q    the word before any cone is judged
--     bound_under m word  the bound that the word stands for
use Rattle.std.specs.Prelude.{ℕ, zero, suc, ℤ, pos, negsuc, ◌+◌, ◌-◌, ◌^◌, length, min, max}
use Rattle.std.specs.Int.{int_min}
use Rattle.unimodular_cone.specs.Paths.{Path}
pub use Rattle.search_core.specs.declared.fate.Fate.{Fate}
pub use Rattle.search_core.specs.declared.fate.Fate.TheVariants.{Closed, Split, Low, Dropped, AtLimit, Wide}
pub use Rattle.search_core.specs.declared.fate.Judged.{Judged}
use Rattle.unimodular_cone.specs.Cones.{Matrix, Generators, value, cone_at}
use Rattle.unimodular_cone.specs.declared.Mode.{Mode}
use Rattle.unimodular_cone.specs.declared.Mode.TheVariants.{Sign, Least}

abbrev pub word_of : Path → Fate → ℕ
word_of path (Closed word) = word
word_of path (Split i j word) = word
word_of path (Low which) = length path
word_of path (Dropped word) = word
word_of path (AtLimit word) = word
word_of path (Wide word at) = word

-- the least of f 0, .., f n
abbrev pub least_upto : ℕ → (ℕ → ℤ) → ℤ
least_upto zero f = f 0
least_upto (suc n) f = int_min (least_upto n f) (f (suc n))

unfoldable pub least_value : ℕ → Matrix → Generators → ℤ
least_value n q v = least_upto (n - 1) (value n q v)

unfoldable pub least_diagonal : ℕ → Matrix → ℤ
least_diagonal n q = least_upto (n - 1) (λ k. q k k)

-- the code of a cone of that depth and that least value
abbrev pub code_of : Mode → ℕ → ℤ → ℕ
code_of m depth (negsuc z) = depth
code_of Sign depth (pos z) = 256
code_of Least depth (pos zero) = depth
code_of Least depth (pos (suc z)) = min (256 + suc z) (2 ^ 64 - 1)

abbrev pub code : Mode → ℕ → Matrix → Path → ℕ
code m n q path = code_of m (length path) (least_value n q (cone_at n q path))

abbrev pub start_of : Mode → ℤ → ℕ
start_of Sign z = 256
start_of Least (negsuc z) = 257
start_of Least (pos zero) = 257
start_of Least (pos (suc z)) = 256 + suc z

abbrev pub start_word : Mode → ℕ → Matrix → ℕ
start_word m n q = start_of m (least_diagonal n q)

-- w - 256, and at least 1 in Least
abbrev pub bound_under : Mode → ℕ → ℤ
bound_under Sign word = pos 0
bound_under Least word = pos (max 1 (word - 256))
