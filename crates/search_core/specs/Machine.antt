-- The machine of events: workers take paths that wait, offer their cones' codes to the shared word, and judge.
--
--     Hand                      a worker's hand: nothing, a cone, or an offered cone with the word that was noted
--     State                     waiting paths, a hand for each worker, the word, the judgements
--     hand s k                  what worker k has in hand
--     children_of path fate     the children of a Split, none of any other fate
--     IsTake s k path t         worker k takes a path that waits, which leads from s to t
--     IsOffer m n q s k t       worker k lowers the word to the code of the cone in hand, and notes the word
--     IsJudge m n q d s k t     worker k judges the cone in hand under the noted word, and its children wait
--     held h, in_hands hands    the path in one hand, and the paths in all
--     paths judged              the judged paths
--     standing s                the paths that wait, are in a hand or are judged
--     below_splits judged       the children of judged Splits
--     due judged                the root, and those
--     same_path p r             whether two paths are one
--     times p paths             how often p stands there
--     IsCoded s path            the path's cone is judged, or offered in a hand
--     IsKept m n q d s          what each of these three keeps
--     AreEmpty hands            nothing is in hand
--     alone stack word judged   the state with one worker, whose hand is empty
--     IsStart, IsEnd            the root waits and nothing else is; nothing waits, and nothing is in hand
use Rattle.std.specs.Prelude.{ℕ, ◌<◌, ◌≤◌, ◌+◌, ◌≡◌, ◌⊎◌, Bool, true, false, cond, List, [], ◌∷◌, ◌++◌, length, min, slice_index_or, slice_set}
use Rattle.std.specs.List.{Contains}
use Rattle.unimodular_cone.specs.Paths.{Path}
use Rattle.unimodular_cone.specs.Cones.{Matrix, cone_at}
use Rattle.unimodular_cone.specs.declared.Mode.{Mode}
pub use Rattle.search_core.specs.declared.hand.Hand.{Hand}
pub use Rattle.search_core.specs.declared.hand.Hand.TheVariants.{Empty, Taken, Offered}
use Rattle.search_core.specs.Fair.{Fate, Closed, Split, Low, Dropped, AtLimit, Wide, Judged, least_value, code, start_word, IsFate, IsJudgement}

pub record State : Type 0 where
  pub waiting : List Path
  pub hands : List Hand
  pub word : ℕ
  pub judged : List Judged

abbrev pub hand : State → ℕ → Hand
hand s k = slice_index_or s.hands k Empty

-- a Split's children wait
abbrev pub children_of : Path → Fate → List Path
children_of path (Closed word) = []
children_of path (Split i j word) = (path ++ false ∷ []) ∷ (path ++ true ∷ []) ∷ []
children_of path (Low which) = []
children_of path (Dropped word) = []
children_of path (AtLimit word) = []
children_of path (Wide word at) = []

pub record IsTake (s : State) (k : ℕ) (path : Path) (t : State) : Type 0 where
  pub worker : k < length s.hands
  pub empty : hand s k ≡ Empty
  pub before : List Path
  pub after : List Path
  pub was : s.waiting ≡ before ++ path ∷ after
  pub waiting : t.waiting ≡ before ++ after
  pub hands : t.hands ≡ slice_set s.hands k (Taken path)
  pub word : t.word ≡ s.word
  pub judged : t.judged ≡ s.judged

pub record IsOffer (m : Mode) (n : ℕ) (q : Matrix) (s : State) (k : ℕ) (t : State) : Type 0 where
  pub worker : k < length s.hands
  pub path : Path
  pub taken : hand s k ≡ Taken path
  pub word : t.word ≡ min s.word (code m n q path)
  pub hands : t.hands ≡ slice_set s.hands k (Offered path t.word)
  pub waiting : t.waiting ≡ s.waiting
  pub judged : t.judged ≡ s.judged

pub record IsJudge (m : Mode) (n : ℕ) (q : Matrix) (d : ℕ) (s : State) (k : ℕ) (t : State) : Type 0 where
  pub worker : k < length s.hands
  pub path : Path
  pub noted : ℕ
  pub offered : hand s k ≡ Offered path noted
  pub fate : Fate
  pub is_fate : IsFate m n q d path noted fate
  pub hands : t.hands ≡ slice_set s.hands k Empty
  pub waiting : t.waiting ≡ s.waiting ++ children_of path fate
  pub word : t.word ≡ s.word
  pub judged : t.judged ≡ s.judged ++ record { path = path; fate = fate; least = least_value n q (cone_at n q path) }
      ∷ []

abbrev pub held : Hand → List Path
held Empty = []
held (Taken path) = path ∷ []
held (Offered path word) = path ∷ []

abbrev pub in_hands : List Hand → List Path
in_hands [] = []
in_hands (h ∷ rest) = held h ++ in_hands rest

abbrev pub paths : List Judged → List Path
paths [] = []
paths (j ∷ rest) = j.path ∷ paths rest

abbrev pub standing : State → List Path
standing s = s.waiting ++ in_hands s.hands ++ paths s.judged

abbrev pub below_splits : List Judged → List Path
below_splits [] = []
below_splits (j ∷ rest) = children_of j.path j.fate ++ below_splits rest

abbrev pub due : List Judged → List Path
due judged = [] ∷ below_splits judged

abbrev pub same_path : Path → Path → Bool
same_path [] [] = true
same_path [] (b ∷ r) = false
same_path (a ∷ p) [] = false
same_path (false ∷ p) (false ∷ r) = same_path p r
same_path (false ∷ p) (true ∷ r) = false
same_path (true ∷ p) (false ∷ r) = false
same_path (true ∷ p) (true ∷ r) = same_path p r

unfoldable pub times : Path → List Path → ℕ
times p [] = 0
times p (r ∷ rest) = cond (same_path p r) 1 0 + times p rest

-- judged, or offered in a hand
abbrev pub IsCoded : State → Path → Type 0
IsCoded s path =
    ((j : Judged) × Contains s.judged j × (j.path ≡ path))
    ⊎ ((k : ℕ) × (word : ℕ) × (k < length s.hands) × (hand s k ≡ Offered path word))

pub record IsKept (m : Mode) (n : ℕ) (q : Matrix) (d : ℕ) (s : State) : Type 0 where
  -- each due path stands as often as it is due (which is at most once), and no other path stands anywhere
  pub stands : (path : Path) → times path (standing s) ≡ times path (due s.judged)
  -- the word is the least of the start word and the codes of the judged and the offered cones
  pub below_start : s.word ≤ start_word m n q
  pub below_codes : (path : Path) → IsCoded s path → s.word ≤ code m n q path
  pub attained : (s.word ≡ start_word m n q) ⊎ ((path : Path) × IsCoded s path × (s.word ≡ code m n q path))
  -- each noted word lies between the word and its cone's code
  pub noted : (k : ℕ) (path : Path) (word : ℕ) → k < length s.hands → hand s k ≡ Offered path word
      → (s.word ≤ word) × (word ≤ code m n q path)
  pub judgements : (j : Judged) → Contains s.judged j → IsJudgement m n q d s.word j

abbrev pub AreEmpty : List Hand → Type 0
AreEmpty hands = (k : ℕ) → slice_index_or hands k Empty ≡ Empty

-- the root waits, nothing is in hand or judged
pub record IsStart (m : Mode) (n : ℕ) (q : Matrix) (s : State) : Type 0 where
  pub waiting : s.waiting ≡ [] ∷ []
  pub hands : AreEmpty s.hands
  pub word : s.word ≡ start_word m n q
  pub judged : s.judged ≡ []

-- nothing waits, and nothing is in hand
pub record IsEnd (s : State) : Type 0 where
  pub waiting : s.waiting ≡ []
  pub hands : AreEmpty s.hands

abbrev pub alone : List Path → ℕ → List Judged → State
alone stack word judged = record { waiting = stack; hands = Empty ∷ []; word = word; judged = judged }
