-- How a word falls at a cone in a search depth first.
--
--     IsNotUnder word z              the word is at most 256 and z
--     HasOthersOver m c new word     a word over 256 is not under a generator's value, unless that is the value of a new one (Least)
--     IsOver m c word                the word is at most the cone's code, and the cone is not low
--     ServesAsLeast m c word z       z serves in the place of the least value: by it the word falls as far, and the cone is low or not
use Rattle.std.specs.Prelude.{◌≡◌, ◌≤◌, ◌<◌, ◌↔◌, ◌⊎◌, ℕ, min, ℤ, pos, ◌+ℤ◌, ◌≤ℤ◌, length}
use Rattle.unimodular_cone.specs.declared.Mode.{Mode}
use Rattle.unimodular_cone.specs.declared.Mode.TheVariants.{Least}
use Rattle.unimodular_cone.specs.Tree.{IsLowValue}
use Rattle.unimodular_cone.specs.Shown.{ShownCone, shown_gram}
use Rattle.search_core.specs.Fates.{code_of}
use Rattle.search_core.specs.Judging.{shown_code, IsLowShown}
use Rattle.search_core.specs.Noting.{NewGenerators, IsNew, Each, One, NoOne}

abbrev pub IsNotUnder : ℕ → ℤ → Type 0
IsNotUnder word z = pos word ≤ℤ (pos 256 +ℤ z)

abbrev pub AreOthersOver : ShownCone → NewGenerators → ℕ → Type 0
AreOthersOver c fresh word = (k : ℕ) → k < c.size → IsNotUnder word (shown_gram c k k)
    ⊎ ((l : ℕ) × (l < c.size) × IsNew fresh l × (shown_gram c k k ≡ shown_gram c l l))

abbrev pub HasOthersOver : Mode → ShownCone → NewGenerators → ℕ → Type 0
HasOthersOver m c Each word = Unit {0}
HasOthersOver m c (One which) word = 256 < word → (m ≡ Least) × AreOthersOver c (One which) word
HasOthersOver m c NoOne word = 256 < word → (m ≡ Least) × AreOthersOver c NoOne word

pub record IsOver (m : Mode) (c : ShownCone) (word : ℕ) : Type 0 where
  pub below_code : word ≤ shown_code m c
  pub not_low : ¬ IsLowShown m c

pub record ServesAsLeast (m : Mode) (c : ShownCone) (word : ℕ) (z : ℤ) : Type 0 where
  pub word_falls : min word (code_of m (length c.path) z) ≡ min word (shown_code m c)
  pub low : IsLowValue m z ↔ IsLowShown m c
