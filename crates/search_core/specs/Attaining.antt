-- The generators that attain a value, as their list is made.
--
--     IsPadded n x v             x is the vector v of n numbers of at most 2^62, and zeros up to 8
--     IsKeyOf c k x              x is the padded generator k of a shown cone, from 0
--     IsWithKey old key new      new has the keys of old and this key
--     AddsAttaining c m z ..     new has the keys of old and the padded generators of c before m with the value z
--     HasGenerators              the keys are the padded generators of value z of the judgements whose least value is z
--     IsKey n x                  x is n numbers of at most 2^62, and zeros up to 8
--     AreKeys n keys             each is such a key
--     IsVectorsOf n keys list    the list has the first n numbers of each key, and is increasing
--     ListsGenerators            the generators of value z of the judgements whose least value is z, increasing
use Rattle.std.specs.Prelude.{ℕ, ℤ, ◌<◌, ◌≤◌, ◌^◌, ◌≡◌, ◌⊎◌, List, length, map, take, slice_index_or}
use Rattle.std.specs.List.{Contains}
use Rattle.exact_forms.specs.Vectors.{coordinate, IsIncreasing}
use Rattle.unimodular_cone.specs.Cones.{Matrix, value, cone_at}
use Rattle.unimodular_cone.specs.Answer.{IsListOf}
use Rattle.unimodular_cone.specs.Shown.{ShownCone, shown_gram, shown_generators}
use Rattle.search_core.specs.Fair.{Judged}

pub record IsPadded (n : ℕ) (x : List ℕ) (v : ℕ → ℤ) : Type 0 where
  pub size : length x ≡ 8
  pub same : (p : ℕ) → p < n → coordinate x p ≡ v p
  pub small : (p : ℕ) → p < n → slice_index_or x p 0 ≤ 2 ^ 62
  pub rest : (p : ℕ) → n ≤ p → slice_index_or x p 0 ≡ 0

abbrev pub IsKeyOf : ShownCone → ℕ → List ℕ → Type 0
IsKeyOf c k x = IsPadded c.size x (shown_generators c k)

pub record IsWithKey (old : List (List ℕ)) (key : List ℕ) (new : List (List ℕ)) : Type 0 where
  pub kept : (x : List ℕ) → Contains old x → Contains new x
  pub added : Contains new key
  pub only : (x : List ℕ) → Contains new x → Contains old x ⊎ (key ≡ x)

pub record AddsAttaining (c : ShownCone) (m : ℕ) (z : ℤ) (old new : List (List ℕ)) : Type 0 where
  pub kept : (x : List ℕ) → Contains old x → Contains new x
  pub added : (k : ℕ) → k < m → shown_gram c k k ≡ z → (x : List ℕ) × Contains new x × IsKeyOf c k x
  pub only : (x : List ℕ) → Contains new x
      → Contains old x ⊎ ((k : ℕ) × (k < m) × (shown_gram c k k ≡ z) × IsKeyOf c k x)

pub record HasGenerators (n : ℕ) (q : Matrix) (judged : List Judged) (z : ℤ) (keys : List (List ℕ)) : Type 0 where
  pub each : (x : List ℕ) → Contains keys x
      → (j : Judged) × (k : ℕ) × Contains judged j × (k < n) × IsPadded n x (cone_at n q j.path k)
      × (value n q (cone_at n q j.path) k ≡ z)
  pub all : (j : Judged) (k : ℕ) → Contains judged j → j.least ≡ z → k < n → value n q (cone_at n q j.path) k ≡ z
      → (x : List ℕ) × Contains keys x × IsPadded n x (cone_at n q j.path k)

pub record IsKey (n : ℕ) (x : List ℕ) : Type 0 where
  pub size : length x ≡ 8
  pub small : (p : ℕ) → p < n → slice_index_or x p 0 ≤ 2 ^ 62
  pub rest : (p : ℕ) → n ≤ p → slice_index_or x p 0 ≡ 0

abbrev pub AreKeys : ℕ → List (List ℕ) → Type 0
AreKeys n keys = (x : List ℕ) → Contains keys x → IsKey n x

pub record IsVectorsOf (n : ℕ) (keys vectors : List (List ℕ)) : Type 0 where
  pub same : vectors ≡ map (take n) keys
  pub increasing : IsIncreasing vectors

pub record ListsGenerators (n : ℕ) (q : Matrix) (judged : List Judged) (z : ℤ) (vectors : List (List ℕ)) : Type 0 where
  pub each : (x : List ℕ) → Contains vectors x
      → (j : Judged) × (k : ℕ) × Contains judged j × (k < n) × IsListOf n x (cone_at n q j.path k)
      × (value n q (cone_at n q j.path) k ≡ z)
  pub all : (j : Judged) (k : ℕ) (x : List ℕ) → Contains judged j → j.least ≡ z → k < n
      → IsListOf n x (cone_at n q j.path k) → value n q (cone_at n q j.path) k ≡ z → Contains vectors x
  pub increasing : IsIncreasing vectors
