-- What a search answers.
--
--     IsListOf n x v                 the list x is the vector v
--     IsLeastDiagonal n q z          z is the least diagonal entry
--     BoundFits m n q                that entry is at most 2^63 - 1, where the mode is Least
--     SearchAnswer                   an answer, with what it carries
--     IsLowVector m n q x z          x is a nonzero vector, and its value z is low: below 0 (Sign), at most 0 (Least)
--     IsClear m n q d                none of the first three kinds of answer: BoundWide, a root that does not fit, Low
--     IsOpenAnswer m n q d path      nothing is low, and this is the first path that is open at the final bound
--     IsLowAnswer m n q d x z path   the first low path, and the vector and the value of its first low generator
--     IsClosedAnswer m n q d b       nothing is low, and no path is open at the final bound b
--     IsSearchAnswer m n q d answer  the answer of the search of Q to depth d: the first of its six kinds that applies
--
-- The copositive minimum and its vectors are those of exact_forms.
use Rattle.std.specs.Prelude.{ℕ, ℤ, pos, ◌≤ℤ◌, ◌<ℤ◌, ◌<◌, ◌-◌, ◌^◌, ◌≡◌, ◌⊎◌, List, [], length}
pub use Rattle.exact_forms.specs.Vectors.{coordinate, IsNonzero, ComesBefore, IsIncreasing}
pub use Rattle.exact_forms.specs.Copositive.{Attains, ListsAttaining, IsMinimum, IsCopositive}
use Rattle.exact_forms.specs.Forms.{form}
use Rattle.unimodular_cone.specs.Paths.{Path}
use Rattle.unimodular_cone.specs.Cones.{Matrix, value, unit_vectors, cone_at, Fits, WideEntry, IsFirstOver}
use Rattle.unimodular_cone.specs.Tree.{Mode, Sign, Least, IsInTree, IsLowValue, IsLow, IsFirstLowAt, IsFirstLow, IsFinalBound, IsOpen, IsFirstOpen, IsFirstOverBelow}

pub data SearchAnswer : Type 0 where
  BoundWide : ℤ → SearchAnswer
  Wide : Path → WideEntry → SearchAnswer
  Low : List ℕ → ℤ → Path → SearchAnswer
  Depth : Path → SearchAnswer
  Copositive : SearchAnswer
  Found : ℤ → List (List ℕ) → SearchAnswer

-- the list x is the vector v below n
pub record IsListOf (n : ℕ) (x : List ℕ) (v : ℕ → ℤ) : Type 0 where
  pub size : length x ≡ n
  pub same : (p : ℕ) → p < n → coordinate x p ≡ v p

pub record IsLowVector (m : Mode) (n : ℕ) (q : Matrix) (x : List ℕ) (z : ℤ) : Type 0 where
  pub size : length x ≡ n
  pub nonzero : IsNonzero n x
  pub value : form n q (coordinate x) ≡ z
  pub low : IsLowValue m z

pub record IsLeastDiagonal (n : ℕ) (q : Matrix) (z : ℤ) : Type 0 where
  pub attained : (k : ℕ) × (k < n) × (q k k ≡ z)
  pub least : (k : ℕ) → k < n → z ≤ℤ q k k

-- in Least some diagonal entry is at most 2^63 - 1
abbrev pub BoundFits : Mode → ℕ → Matrix → Type 0
BoundFits Sign n q = Unit {0}
BoundFits Least n q = (k : ℕ) × (k < n) × (q k k ≤ℤ pos (2 ^ 63 - 1))

-- nothing of the first three kinds of answer
pub record IsClear (m : Mode) (n : ℕ) (q : Matrix) (d : ℕ) : Type 0 where
  pub bound_fits : BoundFits m n q
  pub root_fits : Fits n q unit_vectors
  pub none_low : (path : Path) → IsInTree n q d path → ¬ IsLow m n q (cone_at n q path)

pub record IsOpenAnswer (m : Mode) (n : ℕ) (q : Matrix) (d : ℕ) (path : Path) : Type 0 where
  pub clear : IsClear m n q d
  pub bound : ℤ
  pub is_bound : IsFinalBound m n q d bound
  pub first_open : IsFirstOpen n q d bound path

pub record IsLowAnswer (m : Mode) (n : ℕ) (q : Matrix) (d : ℕ) (x : List ℕ) (z : ℤ) (path : Path) : Type 0 where
  pub bound_fits : BoundFits m n q
  pub root_fits : Fits n q unit_vectors
  pub first_low : IsFirstLow m n q d path
  pub which : ℕ
  pub is_which : IsFirstLowAt m n q (cone_at n q path) which
  pub vector : IsListOf n x (cone_at n q path which)
  pub value : value n q (cone_at n q path) which ≡ z

pub record IsClosedAnswer (m : Mode) (n : ℕ) (q : Matrix) (d : ℕ) (bound : ℤ) : Type 0 where
  pub clear : IsClear m n q d
  pub is_bound : IsFinalBound m n q d bound
  pub none_open : (path : Path) → ¬ IsOpen n q d bound path

abbrev pub IsSearchAnswer : Mode → ℕ → Matrix → ℕ → SearchAnswer → Type 0
IsSearchAnswer m n q d (BoundWide z) = (m ≡ Least) × IsLeastDiagonal n q z × (pos (2 ^ 63 - 1) <ℤ z)
IsSearchAnswer m n q d (Wide at_path entry) = (BoundFits m n q × (at_path ≡ []) × IsFirstOver n q unit_vectors entry)
    ⊎ ((path : Path) × IsOpenAnswer m n q d path × (length path < d) × IsFirstOverBelow n q path at_path entry)
IsSearchAnswer m n q d (Low x z path) = IsLowAnswer m n q d x z path
IsSearchAnswer m n q d (Depth path) = IsOpenAnswer m n q d path × (length path ≡ d)
IsSearchAnswer m n q d Copositive = (m ≡ Sign) × IsClosedAnswer m n q d (pos 0)
IsSearchAnswer m n q d (Found b vectors) = (m ≡ Least) × IsClosedAnswer m n q d b × ListsAttaining n q b vectors
