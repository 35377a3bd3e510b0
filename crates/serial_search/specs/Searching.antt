-- What stands of a search depth first, between two turns.
--
--     path_of c                 the path of a cone
--     IsSearchedPlainly m n q d stack word judged   the cones of the stack are the tree's to depth d, and it is the machine's state
--                               whose paths wait, with empty hands, this word and these judgements
--     IsCovered n q word keys path k   the key of generator k of the cone at path is noted, if its value is at most the bound of
--                               the word, which is over 256
--     IsNewOnTop n q stack new path k   generator k of the cone at path is a new one of the top
--     IsSearched all stack path   the cone at path is judged or waits
--     IsOfSearched n q word all stack x   the key x is that of a generator of such a cone that attains the word's bound
--     HasNoted n q word all stack keys   under a word over 256 each key is that of such a generator, and each generator
--                               of a judged cone is covered
--     IsStack n q stack word new keys   each generator of a cone on the stack is covered, or is a new one of the top
--     IsSearching m n q d stack word new kept keys   all this of some list of judgements, of which the low ones and the ends are kept
--     IsSearchingOver m q d cones new found   so stands the search of Q that found this, whose final word is the word so far
--     IsOne cones               there is one cone
use Rattle.std.specs.Prelude.{◌≡◌, ℕ, ◌<◌, ◌≤◌, ◌≤ℤ◌, ◌⊎◌, List, [], ◌∷◌, length, map}
use Rattle.std.specs.List.{Contains}
use Rattle.symmetric_matrix.specs.Symmetric.{Symmetric, entry}
use Rattle.unimodular_cone.specs.declared.Mode.{Mode}
use Rattle.unimodular_cone.specs.declared.Mode.TheVariants.{Least}
use Rattle.unimodular_cone.specs.Paths.{Path}
use Rattle.unimodular_cone.specs.Cones.{Matrix, value, cone_at}
use Rattle.unimodular_cone.specs.Shown.{ShownCone, IsConeAt}
use Rattle.search_core.specs.declared.Judged.{Judged}
use Rattle.search_core.specs.declared.NewGenerators.{NewGenerators}
use Rattle.search_core.specs.Attaining.{IsPadded}
use Rattle.search_core.specs.Fair.{bound_under, HasLowAndEnds, IsSameGenerator}
use Rattle.search_core.specs.Machine.{IsKept, alone}
use Rattle.search_core.specs.Noting.{IsNew, NamesNew, HasKey}
use Rattle.serial_search.specs.declared.search.Judgements.{Judgements}
use Rattle.serial_search.specs.Turns.{IsOnTop}

abbrev pub path_of : ShownCone → Path
path_of c = c.path

pub record IsSearchedPlainly (m : Mode) (n : ℕ) (q : Matrix) (d : ℕ) (stack : List ShownCone) (word : ℕ)
    (judged : List Judged) : Type 0 where
  pub state : IsKept m n q d (alone (map path_of stack) word judged)
  pub cones : (c : ShownCone) → Contains stack c → IsConeAt n q c.path c × (length c.path ≤ d)

-- the key of generator k of the cone at path is noted, if its value is at most the word's bound
abbrev pub IsCovered : ℕ → Matrix → ℕ → List (List ℕ) → Path → ℕ → Type 0
IsCovered n q word keys path k =
    256 < word → value n q (cone_at n q path) k ≤ℤ bound_under Least word → HasKey n q keys path k

-- generator k of the cone at path is a new one of the top
pub record IsNewOnTop (n : ℕ) (q : Matrix) (stack : List ShownCone) (fresh : NewGenerators) (path : Path) (k : ℕ)
    : Type 0 where
  pub top : ShownCone
  pub rest : List ShownCone
  pub on_top : IsOnTop top rest stack
  pub l : ℕ
  pub is_new : IsNew fresh l
  pub same : IsSameGenerator n q path k top.path l

-- a path that is judged or waits
abbrev pub IsSearched : List Judged → List ShownCone → Path → Type 0
IsSearched all stack path =
    ((j : Judged) × Contains all j × (j.path ≡ path)) ⊎ ((c : ShownCone) × Contains stack c × (c.path ≡ path))

-- the key is that of a generator of a cone that is judged or waits, which attains the word's bound
abbrev pub IsOfSearched : ℕ → Matrix → ℕ → List Judged → List ShownCone → List ℕ → Type 0
IsOfSearched n q word all stack x = (path : Path) × (k : ℕ) × IsSearched all stack path × (k < n)
    × IsPadded n x (cone_at n q path k) × (value n q (cone_at n q path) k ≡ bound_under Least word)

-- each key is that of such a generator, and each generator of a judged cone is covered
pub record HasNoted (n : ℕ) (q : Matrix) (word : ℕ) (all : List Judged) (stack : List ShownCone) (keys : List (List ℕ))
    : Type 0 where
  pub each : 256 < word → (x : List ℕ) → Contains keys x → IsOfSearched n q word all stack x
  pub covered : (j : Judged) (k : ℕ) → Contains all j → k < n → IsCovered n q word keys j.path k

-- each generator of a cone on the stack is covered, or is a new one of the top
pub record IsStack (n : ℕ) (q : Matrix) (stack : List ShownCone) (word : ℕ) (fresh : NewGenerators)
    (keys : List (List ℕ)) : Type 0 where
  pub waiting : (c : ShownCone) → Contains stack c → (k : ℕ) → k < n
      → IsCovered n q word keys c.path k ⊎ IsNewOnTop n q stack fresh c.path k
  pub named : NamesNew n fresh

pub record IsSearching (m : Mode) (n : ℕ) (q : Matrix) (d : ℕ) (stack : List ShownCone) (word : ℕ)
    (fresh : NewGenerators) (kept : List Judged) (keys : List (List ℕ)) : Type 0 where
  pub all : List Judged
  pub plain : IsSearchedPlainly m n q d stack word all
  pub has : HasLowAndEnds all kept
  pub noted : HasNoted n q word all stack keys
  pub stack_is : IsStack n q stack word fresh keys

abbrev pub IsSearchingOver : Mode → Symmetric → ℕ → List ShownCone → NewGenerators → Judgements → Type 0
IsSearchingOver m q d cones fresh found =
    IsSearching m q.size (entry q) d cones found.final_word fresh found.judged.items found.attaining.keys

abbrev pub IsOne : List ShownCone → Type 0
IsOne cones = (c : ShownCone) × (cones ≡ c ∷ [])
