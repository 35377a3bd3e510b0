-- The keys of the generators that attain the bound of a search's word, as they are noted in a search depth first.
--
--     IsNew new k                generator k, from 0, is a new one
--     NamesNew n new             the number of the new one is from 1 to n
--     new_after fate             after a split its mediant is new, in child 0, which is judged next; else none is
--     AddsNew c new z old keys   the keys are the old ones, those of c's new generators of value z, and maybe others of value z
--     AreRemembered before word old keys   what is left of the old keys: none where the word has fallen, else all
--     AddsToNoted c new before word old keys   under a word over 256 those of the new generators that attain its bound are added to
--                                what is left
--     HasKey n q keys path k     the keys have that of generator k of the cone at path
--     IsFairNoted m n q d part keys final   the part has the low ones and the ends of a fair list, and the keys are those of the
--                                generators that attain the final bound, if the final word is over 256
use Rattle.std.specs.Prelude.{◌≡◌, ◌≤◌, ◌<◌, ◌-◌, ◌⊎◌, ℕ, suc, ℤ, pos, List, []}
use Rattle.std.specs.List.{Contains}
use Rattle.unimodular_cone.specs.Paths.{Path}
use Rattle.unimodular_cone.specs.Cones.{Matrix, cone_at}
use Rattle.unimodular_cone.specs.declared.Mode.{Mode}
use Rattle.unimodular_cone.specs.declared.Mode.TheVariants.{Least}
use Rattle.unimodular_cone.specs.Shown.{ShownCone, shown_gram}
use Rattle.search_core.specs.Fair.{Fate, Closed, Split, Low, Dropped, AtLimit, Wide, Judged, bound_under, IsFairEnds}
use Rattle.search_core.specs.Attaining.{IsPadded, IsKeyOf, HasGenerators}
pub use Rattle.search_core.specs.declared.noting.NewGenerators.{NewGenerators}
pub use Rattle.search_core.specs.declared.noting.NewGenerators.TheVariants.{Each, One, NoOne}

abbrev pub IsNew : NewGenerators → ℕ → Type 0
IsNew Each k = Unit {0}
IsNew (One which) k = which ≡ suc k
IsNew NoOne k = ⊥

abbrev pub NamesNew : ℕ → NewGenerators → Type 0
NamesNew n Each = Unit {0}
NamesNew n (One which) = (1 ≤ which) × (which ≤ n)
NamesNew n NoOne = Unit {0}

abbrev pub new_after : Fate → NewGenerators
new_after (Closed w) = NoOne
new_after (Split i j w) = One i
new_after (Low k) = NoOne
new_after (Dropped w) = NoOne
new_after (AtLimit w) = NoOne
new_after (Wide w at) = NoOne

pub record AddsNew (c : ShownCone) (fresh : NewGenerators) (z : ℤ) (old new : List (List ℕ)) : Type 0 where
  pub kept : (x : List ℕ) → Contains old x → Contains new x
  pub added : (k : ℕ) → k < c.size → IsNew fresh k → shown_gram c k k ≡ z
      → (x : List ℕ) × Contains new x × IsKeyOf c k x
  pub only : (x : List ℕ) → Contains new x
      → Contains old x ⊎ ((k : ℕ) × (k < c.size) × (shown_gram c k k ≡ z) × IsKeyOf c k x)

abbrev pub AreRemembered : ℕ → ℕ → List (List ℕ) → List (List ℕ) → Type 0
AreRemembered before word old left = ((word < before) × (left ≡ [])) ⊎ ((before ≤ word) × (left ≡ old))

pub record AddsToNoted (c : ShownCone) (fresh : NewGenerators) (before word : ℕ) (old new : List (List ℕ))
    : Type 0 where
  pub left : List (List ℕ)
  pub is_left : AreRemembered before word old left
  pub adds : 256 < word → AddsNew c fresh (pos (word - 256)) left new

abbrev pub HasKey : ℕ → Matrix → List (List ℕ) → Path → ℕ → Type 0
HasKey n q keys path k = (x : List ℕ) × Contains keys x × IsPadded n x (cone_at n q path k)

pub record IsFairNoted (m : Mode) (n : ℕ) (q : Matrix) (d : ℕ) (part : List Judged) (keys : List (List ℕ)) (final : ℕ)
    : Type 0 where
  pub ends : IsFairEnds m n q d part final
  pub noted : 256 < final → HasGenerators n q ends.all (bound_under Least final) keys
