-- Which children of a split are still open at a bound.
--
--     AreSlacks n g xs               xs has the slacks of the first n generators
--     AreAtLeast n xs b              each of the first n numbers is at least b
--     IsMediantFrom c i j b          the value of the mediant v_i + v_j is at least b
--     IsMediantAt c i j b            it is b
--     IsChildClosed c i j side b     each slack of that child of the pair is at least b
--     IsChoiceOf from zero one made  made says that the mediant's value is from the bound on, and which of both children are closed
--     IsChoice c i j b made          that choice at the bound b
--     IsOpening c i j b o xs         o says which children are made at the bound b and whether the mediant's value is b; there xs
--                                    has its coordinates
--     AreOpenMade c i j made new above   new and above show the children that are made; new alone, where one is
--
-- Generators count from 0.
use Rattle.std.specs.Prelude.{ℕ, ℤ, pos, ◌≤ℤ◌, ◌<◌, ◌≡◌, ◌↔◌, IsTrue, Bool, false, true, List, slice_index_or}
use Rattle.exact_forms.specs.Slacks.{slack, IsClosed}
use Rattle.unimodular_cone.specs.Cones.{Matrix, child_gram, child_gram_on}
use Rattle.unimodular_cone.specs.Shown.{ShownCone, shown_gram, IsChild}
use Rattle.unimodular_cone.specs.Mediant.{IsMediantOf}
use Rattle.unimodular_cone.specs.declared.open_children.Opened.{Opened}
use Rattle.unimodular_cone.specs.declared.open_children.OpenChildren.{OpenChildren}
use Rattle.unimodular_cone.specs.declared.open_children.OpenChildren.TheVariants.{Below, Both, First, Second, Neither}

abbrev pub AreSlacks : ℕ → Matrix → List ℤ → Type 0
AreSlacks n g xs = (k : ℕ) → k < n → slice_index_or xs k (pos 0) ≡ slack n g k

abbrev pub AreAtLeast : ℕ → List ℤ → ℤ → Type 0
AreAtLeast n xs b = (k : ℕ) → k < n → b ≤ℤ slice_index_or xs k (pos 0)

abbrev pub IsMediantFrom : ShownCone → ℕ → ℕ → ℤ → Type 0
IsMediantFrom c i j b = b ≤ℤ child_gram (shown_gram c) i j i i

abbrev pub IsMediantAt : ShownCone → ℕ → ℕ → ℤ → Type 0
IsMediantAt c i j b = child_gram (shown_gram c) i j i i ≡ b

abbrev pub IsChildClosed : ShownCone → ℕ → ℕ → Bool → ℤ → Type 0
IsChildClosed c i j side b = IsClosed c.size (child_gram_on (shown_gram c) i j side) b

-- of what is said of the mediant, of child 0 and of child 1
abbrev pub IsChoiceOf : Type 0 → Type 0 → Type 0 → OpenChildren → Type 0
IsChoiceOf from zero one Below = ¬ from
IsChoiceOf from zero one Both = from × (¬ zero) × (¬ one)
IsChoiceOf from zero one First = from × (¬ zero) × one
IsChoiceOf from zero one Second = from × zero × (¬ one)
IsChoiceOf from zero one Neither = from × zero × one

abbrev pub IsChoice : ShownCone → ℕ → ℕ → ℤ → OpenChildren → Type 0
IsChoice c i j b made =
    IsChoiceOf (IsMediantFrom c i j b) (IsChildClosed c i j false b) (IsChildClosed c i j true b) made

pub record IsOpening (c : ShownCone) (i j : ℕ) (b : ℤ) (o : Opened) (xs : List ℕ) : Type 0 where
  pub choice : IsChoice c i j b o.made
  pub attains : IsTrue o.attains ↔ IsMediantAt c i j b
  pub mediant : IsTrue o.attains → IsMediantOf c i j xs

abbrev pub AreOpenMade : ShownCone → ℕ → ℕ → OpenChildren → ShownCone → ShownCone → Type 0
AreOpenMade c i j Below new above = IsChild c i j true new × IsChild c i j false above
AreOpenMade c i j Both new above = IsChild c i j true new × IsChild c i j false above
AreOpenMade c i j First new above = IsChild c i j false new
AreOpenMade c i j Second new above = IsChild c i j true new
AreOpenMade c i j Neither new above = Unit {0}
