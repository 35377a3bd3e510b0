-- Judgements of cones, and fair lists of them. The fate, codes and words are those of Fates.
--
--     IsFate m n q d path word f f is the fate of the cone at path, as it is shown, with limit d, under the word
--     IsJudgement                a judgement's least value, fate and word are right, with the final word
--     IsSplit, IsLowFate         the fate is Split, or Low
--     IsEndFate                  the cone is at the limit, or a child does not fit
--     HasPath, HasNoPath         the path is judged, or it is not
--     IsDue judged path          the path is the root, or a child of a judged Split
--     IsOnceEach judged          no path is judged twice
--     IsFinalWord                the least of the start word and the codes of the judged cones
--     IsFair m n q d list final  one judgement for the root and for each child of a Split, and for no other path
--     IsSameGenerator n q p k o l  generator l of the cone at o is generator k of the cone at p
--     HasGenerator n q list p k  a judgement of the list has generator k of the cone at p
--     HasLowAndEnds all part     a part of a list has the judgements that are low or an end
--     IsFairEnds                 such a part of a fair list
--     HasAllRelevant             a part of a list has what an answer looks at: the judgements that are low or an end, and in
--                                Least each generator whose value is the final bound
--     IsRelevantFate m word f z  an answer may look at a judgement of fate f and least value z: it is low, an end, or z is at
--                                most the word's bound (Least)
--     IsIrrelevantFate m word f z   no answer looks at such a judgement, where the final word is at most this
--     IsIrrelevant m word j      no answer looks at j, where the final word is at most this
--     IsKeptOrIrrelevant         j is kept, or no answer looks at it
--     IsFairPart                 a part of a fair list that has what an answer looks at, and maybe more
use Rattle.std.specs.Prelude.{ℕ, ℤ, ◌<ℤ◌, ◌≤ℤ◌, ◌<◌, ◌≤◌, ◌≡◌, ◌≢◌, ◌⊎◌, Bool, List, [], ◌∷◌, ◌++◌}
use Rattle.std.specs.List.{Contains}
use Rattle.unimodular_cone.specs.Paths.{Path}
use Rattle.unimodular_cone.specs.Cones.{Matrix, value, cone_at}
use Rattle.unimodular_cone.specs.Shown.{ShownCone, IsConeAt}
use Rattle.unimodular_cone.specs.declared.Mode.{Mode}
use Rattle.unimodular_cone.specs.declared.Mode.TheVariants.{Least}
pub use Rattle.search_core.specs.Fates.{
  Fate,
  Closed,
  Split,
  Low,
  Dropped,
  AtLimit,
  Wide,
  Judged,
  word_of,
  least_upto,
  least_value,
  least_diagonal,
  code_of,
  code,
  start_of,
  start_word,
  bound_under,
}
use Rattle.search_core.specs.Judging.{IsShownFate}

abbrev pub IsFate : Mode → ℕ → Matrix → ℕ → Path → ℕ → Fate → Type 0
IsFate m n q d path word f = (c : ShownCone) × IsConeAt n q path c × IsShownFate m c d word f

abbrev pub IsSplit : Fate → Type 0
IsSplit (Closed w) = ⊥
IsSplit (Split i j w) = Unit {0}
IsSplit (Low k) = ⊥
IsSplit (Dropped w) = ⊥
IsSplit (AtLimit w) = ⊥
IsSplit (Wide w at) = ⊥

abbrev pub IsLowFate : Fate → Type 0
IsLowFate (Closed w) = ⊥
IsLowFate (Split i j w) = ⊥
IsLowFate (Low k) = Unit {0}
IsLowFate (Dropped w) = ⊥
IsLowFate (AtLimit w) = ⊥
IsLowFate (Wide w at) = ⊥

-- the cone is at the limit, or a child does not fit
abbrev pub IsEndFate : Fate → Type 0
IsEndFate (Closed w) = ⊥
IsEndFate (Split i j w) = ⊥
IsEndFate (Low k) = ⊥
IsEndFate (Dropped w) = ⊥
IsEndFate (AtLimit w) = Unit {0}
IsEndFate (Wide w at) = Unit {0}

pub record IsJudgement (m : Mode) (n : ℕ) (q : Matrix) (d : ℕ) (final : ℕ) (j : Judged) : Type 0 where
  pub least : j.least ≡ least_value n q (cone_at n q j.path)
  pub fate : IsFate m n q d j.path (word_of j.path j.fate) j.fate
  pub above_final : final ≤ word_of j.path j.fate
  pub below_code : word_of j.path j.fate ≤ code m n q j.path

-- path is judged
abbrev pub HasPath : List Judged → Path → Type 0
HasPath judged path = (j : Judged) × Contains judged j × (j.path ≡ path)

-- path is the root, or a child of a Split
abbrev pub IsDue : List Judged → Path → Type 0
IsDue judged path =
    (path ≡ []) ⊎ ((j : Judged) × (side : Bool) × Contains judged j × IsSplit j.fate × (path ≡ j.path ++ side ∷ []))

-- no path is judged twice
abbrev pub HasNoPath : List Judged → Path → Type 0
HasNoPath [] path = Unit {0}
HasNoPath (j ∷ rest) path = (j.path ≢ path) × HasNoPath rest path

abbrev pub IsOnceEach : List Judged → Type 0
IsOnceEach [] = Unit {0}
IsOnceEach (j ∷ rest) = HasNoPath rest j.path × IsOnceEach rest

pub record IsFinalWord (m : Mode) (n : ℕ) (q : Matrix) (judged : List Judged) (final : ℕ) : Type 0 where
  pub below_start : final ≤ start_word m n q
  pub below_codes : (j : Judged) → Contains judged j → final ≤ code m n q j.path
  pub attained : (final ≡ start_word m n q) ⊎ ((j : Judged) × Contains judged j × (final ≡ code m n q j.path))

pub record IsFair (m : Mode) (n : ℕ) (q : Matrix) (d : ℕ) (judged : List Judged) (final : ℕ) : Type 0 where
  pub due : (path : Path) → IsDue judged path → HasPath judged path
  pub no_other : (j : Judged) → Contains judged j → IsDue judged j.path
  pub once : IsOnceEach judged
  pub judgements : (j : Judged) → Contains judged j → IsJudgement m n q d final j
  pub final_word : IsFinalWord m n q judged final

-- generator l of the cone at other is generator k of the cone at p
pub record IsSameGenerator (n : ℕ) (q : Matrix) (p : Path) (k : ℕ) (other : Path) (l : ℕ) : Type 0 where
  pub range : l < n
  pub same : (i : ℕ) → i < n → cone_at n q other l i ≡ cone_at n q p k i

-- a judgement of the list has generator k of the cone at path
abbrev pub HasGenerator : ℕ → Matrix → List Judged → Path → ℕ → Type 0
HasGenerator n q judged path k = (j : Judged) × (l : ℕ) × Contains judged j × IsSameGenerator n q path k j.path l

pub record HasLowAndEnds (all part : List Judged) : Type 0 where
  pub within : (j : Judged) → Contains part j → Contains all j
  pub low : (j : Judged) → Contains all j → IsLowFate j.fate → Contains part j
  pub ends : (j : Judged) → Contains all j → IsEndFate j.fate → Contains part j

pub record IsFairEnds (m : Mode) (n : ℕ) (q : Matrix) (d : ℕ) (part : List Judged) (final : ℕ) : Type 0 where
  pub all : List Judged
  pub fair : IsFair m n q d all final
  pub has : HasLowAndEnds all part

-- part has what an answer looks at: the judgements that are low or an end, and in Least each generator whose value is the
-- final bound
pub record HasAllRelevant (m : Mode) (n : ℕ) (q : Matrix) (final : ℕ) (all part : List Judged) : Type 0 where
  pub within : (j : Judged) → Contains part j → Contains all j
  pub low : (j : Judged) → Contains all j → IsLowFate j.fate → Contains part j
  pub ends : (j : Judged) → Contains all j → IsEndFate j.fate → Contains part j
  pub attaining : m ≡ Least → 256 ≤ final → (j : Judged) (k : ℕ) → Contains all j → k < n
      → value n q (cone_at n q j.path) k ≡ bound_under Least final → HasGenerator n q part j.path k

-- an answer may look at a judgement of this fate and this least value, which was made under this word
abbrev pub IsRelevantFate : Mode → ℕ → Fate → ℤ → Type 0
IsRelevantFate m word fate least =
    IsLowFate fate ⊎ (IsEndFate fate ⊎ ((m ≡ Least) × (256 ≤ word) × (least ≤ℤ bound_under Least word)))

-- no answer looks at such a judgement, which was made under this word or a greater one
pub record IsIrrelevantFate (m : Mode) (word : ℕ) (fate : Fate) (least : ℤ) : Type 0 where
  pub not_low : ¬ IsLowFate fate
  pub no_end : ¬ IsEndFate fate
  pub above : m ≡ Least → 256 ≤ word → bound_under Least word <ℤ least

abbrev pub IsIrrelevant : Mode → ℕ → Judged → Type 0
IsIrrelevant m word j = IsIrrelevantFate m word j.fate j.least

-- j is kept, or no answer looks at it
abbrev pub IsKeptOrIrrelevant : Mode → ℕ → Judged → List Judged → List Judged → Type 0
IsKeptOrIrrelevant m word j old new = (new ≡ old ++ j ∷ []) ⊎ ((new ≡ old) × IsIrrelevant m word j)

pub record IsFairPart (m : Mode) (n : ℕ) (q : Matrix) (d : ℕ) (part : List Judged) (final : ℕ) : Type 0 where
  pub all : List Judged
  pub fair : IsFair m n q d all final
  pub relevant : HasAllRelevant m n q final all part
