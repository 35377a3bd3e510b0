-- The code and the fate of a cone as it is shown.
--
--     shown_least c               the least generator value
--     shown_code m c              the depth if a generator is low, else 256 (Sign), or 256 and the least value (Least)
--     IsLowShown, IsFirstLowShown some generator is low; k is the first that is, from 0
--     IsClosedShown m c word      each slack is at least the word's bound
--     IsUndecidedShown m c word   not low, not closed, and no low cone of this depth or a lesser one is known
--     IsStartable m z             z is at most 2^63 - 1, where the mode is Least
--     IsJudgementOf m c d word j  j is the judgement of c: its path, its fate and its least value
--     IsShownFate m c d word f    f is the fate of c, with limit d, under the word
use Rattle.std.specs.Prelude.{ℕ, suc, ℤ, pos, ◌≤ℤ◌, ◌^◌, ◌<◌, ◌≤◌, ◌-◌, ◌≡◌, ◌≢◌, ◌⊎◌, length, Some}
use Rattle.exact_forms.specs.Slacks.{IsClosed}
use Rattle.unimodular_cone.specs.declared.Mode.{Mode}
use Rattle.unimodular_cone.specs.declared.Mode.TheVariants.{Sign, Least}
use Rattle.unimodular_cone.specs.Tree.{IsLowValue}
use Rattle.unimodular_cone.specs.Shown.{ShownCone, shown_gram, NamesPair, FitsOnBothSides, IsFirstWideBelow}
use Rattle.search_core.specs.Fates.{Fate, Judged, Closed, Split, Low, Dropped, AtLimit, Wide, least_upto, code_of, bound_under}

unfoldable pub shown_least : ShownCone → ℤ
shown_least c = least_upto (c.size - 1) (λ k. shown_gram c k k)

abbrev pub shown_code : Mode → ShownCone → ℕ
shown_code m c = code_of m (length c.path) (shown_least c)

abbrev pub IsLowShown : Mode → ShownCone → Type 0
IsLowShown m c = (k : ℕ) × (k < c.size) × IsLowValue m (shown_gram c k k)

pub record IsFirstLowShown (m : Mode) (c : ShownCone) (k : ℕ) : Type 0 where
  pub range : k < c.size
  pub low : IsLowValue m (shown_gram c k k)
  pub first : (l : ℕ) → l < k → ¬ IsLowValue m (shown_gram c l l)

abbrev pub IsClosedShown : Mode → ShownCone → ℕ → Type 0
IsClosedShown m c word = IsClosed c.size (shown_gram c) (bound_under m word)

-- no low generator, not closed, and a low cone of this depth or a lesser one is not known
pub record IsUndecidedShown (m : Mode) (c : ShownCone) (word : ℕ) : Type 0 where
  pub not_past : word < 256 → length c.path < word
  pub not_low : ¬ IsLowShown m c
  pub not_closed : ¬ IsClosedShown m c word

abbrev pub IsShownFate : Mode → ShownCone → ℕ → ℕ → Fate → Type 0
IsShownFate m c d word (Closed w) = (w ≡ word) × (word < 256 → length c.path ≤ word) × (¬ IsLowShown m c)
    × IsClosedShown m c word
IsShownFate m c d word (Low which) =
    (word < 256 → length c.path ≤ word) × ((k : ℕ) × (which ≡ suc k) × IsFirstLowShown m c k)
IsShownFate m c d word (Dropped w) = (w ≡ word) × (word < 256)
    × ((word < length c.path) ⊎ ((word ≡ length c.path) × (¬ IsLowShown m c) × (¬ IsClosedShown m c word)))
IsShownFate m c d word (AtLimit w) = (w ≡ word) × IsUndecidedShown m c word × (length c.path ≡ d)
IsShownFate m c d word (Wide w at) = (w ≡ word) × IsUndecidedShown m c word × (length c.path ≢ d)
    × ((i : ℕ) × (j : ℕ) × NamesPair c (Some (i, j)) × IsFirstWideBelow c (i - 1) (j - 1) at)
IsShownFate m c d word (Split i j w) = (w ≡ word) × IsUndecidedShown m c word × (length c.path ≢ d)
    × NamesPair c (Some (i, j)) × FitsOnBothSides c (i - 1) (j - 1)

-- a least diagonal entry of at most 2^63 - 1, where the mode is Least
abbrev pub IsStartable : Mode → ℤ → Type 0
IsStartable Sign z = Unit {0}
IsStartable Least z = z ≤ℤ pos (2 ^ 63 - 1)

-- j is the judgement of c under the word
pub record IsJudgementOf (m : Mode) (c : ShownCone) (d : ℕ) (word : ℕ) (j : Judged) : Type 0 where
  pub path_is : j.path ≡ c.path
  pub least_is : j.least ≡ shown_least c
  pub fate : IsShownFate m c d word j.fate
