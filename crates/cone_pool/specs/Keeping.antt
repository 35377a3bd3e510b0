-- What a worker judged, and what it keeps of that.
--
--     Judgements             all judgements, those that are kept, whether the whole list is kept, and for how many there is
--                            memory
--     HasRoom js             there is memory for one more
--     AreNone js             nothing is judged yet
--     IsSameList old new     the same judgements, of which the same are kept
--     IsNoted m word j old new  j, which was judged under the word, is the last, and is kept where the whole list is, or
--                            where an answer may look at it
--     IsAppended more old new   the judgements `more` come after the old ones, and what was kept of them after what was kept
--     KeepsRelevant m word js   what is kept was judged; what is not kept no answer looks at, where the final word is at
--                            most this; and all is kept where the whole list is
use Rattle.std.specs.Prelude.{◌≡◌, ◌<◌, ◌⊎◌, ℕ, Bool, true, List, [], ◌∷◌, ◌++◌, length}
use Rattle.std.specs.List.{Contains}
use Rattle.unimodular_cone.specs.declared.Mode.{Mode}
use Rattle.search_core.specs.declared.Judged.{Judged}
use Rattle.search_core.specs.Fair.{IsIrrelevant, IsKeptOrIrrelevant}

pub record Judgements : Type 0 where
  pub items : List Judged
  pub kept : List Judged
  pub whole : Bool
  pub capacity : ℕ

abbrev pub HasRoom : Judgements → Type 0
HasRoom js = length js.kept < js.capacity

pub record AreNone (js : Judgements) : Type 0 where
  pub items : js.items ≡ []
  pub kept : js.kept ≡ []

pub record IsSameList (old new : Judgements) : Type 0 where
  pub items : new.items ≡ old.items
  pub kept : new.kept ≡ old.kept
  pub whole : new.whole ≡ old.whole

pub record IsNoted (m : Mode) (word : ℕ) (j : Judged) (old new : Judgements) : Type 0 where
  pub items : new.items ≡ old.items ++ j ∷ []
  pub kept : IsKeptOrIrrelevant m word j old.kept new.kept
  pub each : old.whole ≡ true → new.kept ≡ old.kept ++ j ∷ []
  pub whole : new.whole ≡ old.whole

pub record IsAppended (more old new : Judgements) : Type 0 where
  pub items : new.items ≡ old.items ++ more.items
  pub kept : new.kept ≡ old.kept ++ more.kept
  pub whole : new.whole ≡ old.whole

pub record KeepsRelevant (m : Mode) (word : ℕ) (js : Judgements) : Type 0 where
  pub within : (j : Judged) → Contains js.kept j → Contains js.items j
  pub rest : (j : Judged) → Contains js.items j → Contains js.kept j ⊎ IsIrrelevant m word j
  pub each : js.whole ≡ true → js.kept ≡ js.items
