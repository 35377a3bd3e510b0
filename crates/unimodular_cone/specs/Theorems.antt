-- The two laws of cones and their children, and that each relation of the search holds of at most one value.
--
--     ChildrenCover         a nonnegative integer combination of a cone's generators lies in a child: in child 0 of (i, j) where
--                           its j-th coefficient is at least the i-th, in child 1 where the i-th is at least the j-th
--     CoversOnBothSides     both cases of this, for one combination
--     IsNonzeroBelow n x, IsGenerator n v x   x is not zero below n; x is a generator of v
--     HasBound n q v b x    Q[x] is at least b, and b at generators alone
--     ClosedBounds          in a cone that is closed at b of at least 1, each nonzero combination with nonnegative integer
--                           coefficients has a value of at least b, and b at generators alone; in one that is closed at 0,
--                           no such combination has a negative value
--     AtMostOneFinalBound, AtMostOneFirstLow, AtMostOneFirstOpen, AtMostOneSearchAnswer
--                           two values with the relation are equal
--     FoundIsMinimum        Found carries the copositive minimum and its minimal vectors
--     CopositiveHolds       Copositive is answered of copositive matrices alone
--     LowHasItsValue        Low carries a nonzero vector with the value that it carries, and that is low
--     PairIsFirstLeast      the pair of a cone is its least negative Gram entry beside the diagonal, the first one among
--                           equals, and it has none where no such entry is negative
use Rattle.std.specs.Prelude.{ℕ, ℤ, pos, ◌≤ℤ◌, ◌<◌, ◌≡◌, ◌≢◌, List, Some, None}
use Rattle.exact_forms.specs.Forms.{form, combination, IsSymmetric}
use Rattle.exact_forms.specs.Slacks.{IsClosed, AreNonnegative}
use Rattle.unimodular_cone.specs.Paths.{Path}
use Rattle.unimodular_cone.specs.Cones.{Matrix, Generators, gram, child, LiesIn, IsPair, pair_of}
use Rattle.unimodular_cone.specs.Tree.{Mode, Sign, Least, IsFinalBound, IsFirstLow, IsFirstOpen}
use Rattle.unimodular_cone.specs.Answer.{IsMinimum, IsCopositive, IsLowVector, SearchAnswer, Low, Copositive, Found, IsSearchAnswer}

pub record CoversOnBothSides (n : ℕ) (v : Generators) (a : ℕ → ℤ) (i j : ℕ) : Type 0 where
  pub first : a i ≤ℤ a j → LiesIn n (child v i j) (combination n a v)
  pub second : a j ≤ℤ a i → LiesIn n (child v j i) (combination n a v)

abbrev pub ChildrenCover : Type 0
ChildrenCover = (n : ℕ) (v : Generators) (a : ℕ → ℤ) (i j : ℕ) → i < n → j < n → i ≢ j → AreNonnegative n a
    → CoversOnBothSides n v a i j

-- x is not zero below n
abbrev pub IsNonzeroBelow : ℕ → (ℕ → ℤ) → Type 0
IsNonzeroBelow n x = (p : ℕ) × (p < n) × (x p ≢ pos 0)

-- x is a generator
abbrev pub IsGenerator : ℕ → Generators → (ℕ → ℤ) → Type 0
IsGenerator n v x = (k : ℕ) × (k < n) × ((p : ℕ) → p < n → x p ≡ v k p)

pub record HasBound (n : ℕ) (q : Matrix) (v : Generators) (b : ℤ) (x : ℕ → ℤ) : Type 0 where
  pub at_least : b ≤ℤ form n q x
  pub equal_at_generators : form n q x ≡ b → IsGenerator n v x

pub record ClosedBounds : Type 0 where
  pub positive : (n : ℕ) (q : Matrix) (v : Generators) (b : ℤ) (x : ℕ → ℤ)
      → IsSymmetric n q → pos 1 ≤ℤ b → IsClosed n (gram n q v) b → LiesIn n v x → IsNonzeroBelow n x
      → HasBound n q v b x
  pub zero : (n : ℕ) (q : Matrix) (v : Generators) (x : ℕ → ℤ)
      → IsSymmetric n q → IsClosed n (gram n q v) (pos 0) → LiesIn n v x → pos 0 ≤ℤ form n q x

abbrev pub AtMostOneFinalBound : Type 0
AtMostOneFinalBound = (m : Mode) (n : ℕ) (q : Matrix) (d : ℕ) (b c : ℤ) → IsFinalBound m n q d b
    → IsFinalBound m n q d c → b ≡ c

abbrev pub AtMostOneFirstLow : Type 0
AtMostOneFirstLow = (m : Mode) (n : ℕ) (q : Matrix) (d : ℕ) (p r : Path) → IsFirstLow m n q d p → IsFirstLow m n q d r
    → p ≡ r

abbrev pub AtMostOneFirstOpen : Type 0
AtMostOneFirstOpen = (n : ℕ) (q : Matrix) (d : ℕ) (b : ℤ) (p r : Path) → IsFirstOpen n q d b p → IsFirstOpen n q d b r
    → p ≡ r

abbrev pub AtMostOneSearchAnswer : Type 0
AtMostOneSearchAnswer = (m : Mode) (n : ℕ) (q : Matrix) (d : ℕ) (a b : SearchAnswer) → IsSearchAnswer m n q d a
    → IsSearchAnswer m n q d b → a ≡ b

abbrev pub FoundIsMinimum : Type 0
FoundIsMinimum = (n : ℕ) (q : Matrix) (d : ℕ) (b : ℤ) (vectors : List (List ℕ)) → IsSymmetric n q
    → IsSearchAnswer Least n q d (Found b vectors) → IsMinimum n q b vectors

abbrev pub CopositiveHolds : Type 0
CopositiveHolds = (n : ℕ) (q : Matrix) (d : ℕ) → IsSymmetric n q → IsSearchAnswer Sign n q d Copositive
    → IsCopositive n q

abbrev pub LowHasItsValue : Type 0
LowHasItsValue = (m : Mode) (n : ℕ) (q : Matrix) (d : ℕ) (x : List ℕ) (z : ℤ) (path : Path)
    → IsSearchAnswer m n q d (Low x z path) → IsLowVector m n q x z

pub record PairIsFirstLeast : Type 0 where
  pub some : (n : ℕ) (g : Matrix) (i j : ℕ) → pair_of n g ≡ Some (i, j) → IsPair n g i j
  pub is_some : (n : ℕ) (g : Matrix) (i j : ℕ) → IsPair n g i j → pair_of n g ≡ Some (i, j)
  pub none : (n : ℕ) (g : Matrix) → pair_of n g ≡ None → (k l : ℕ) → k < l → l < n → pos 0 ≤ℤ g k l
  pub is_none : (n : ℕ) (g : Matrix) → ((k l : ℕ) → k < l → l < n → pos 0 ≤ℤ g k l) → pair_of n g ≡ None
