-- The search's answer for the least value, the list of vectors left out.
--
--     IsLeastValueAnswer n q d answer   the search of Q to depth d for the least value answers this, the list of Found left
--                                  out
--     IsLeastValue n q m           m is the copositive minimum of Q: of at least 1, the value of a nonzero vector, and no more
--                                  than that of any
--     ValueHolds n q answer        Found has the copositive minimum; Low has a nonzero vector of the value, which is low
--     IsValueOf least answer       the answer is this one of `least`, its list left out; want of memory is free
--     ValueIsOfLeast               at most one answer without the list goes with what `least` may answer
use Rattle.std.specs.Prelude.{ℕ, ℤ, pos, ◌≤ℤ◌, ◌≡◌, List, length}
use Rattle.exact_forms.specs.Forms.{form}
use Rattle.unimodular_cone.specs.Cones.{Matrix}
use Rattle.unimodular_cone.specs.declared.Mode.{Mode}
use Rattle.unimodular_cone.specs.Answer.{SearchAnswer, IsSearchAnswer, IsClosedAnswer, IsLowVector, Attains, IsNonzero, coordinate}
use Rattle.search_core.specs.declared.Least.{Least}
use Rattle.search_core.specs.Answers.{IsLeastAnswer}
use Rattle.serial_search.specs.declared.values.ValueOnly.{ValueOnly}

abbrev pub IsLeastValueAnswer : ℕ → Matrix → ℕ → ValueOnly → Type 0
IsLeastValueAnswer n q d (ValueOnly.Found m) = IsClosedAnswer Mode.Least n q d m
IsLeastValueAnswer n q d (ValueOnly.Low x z path) = IsSearchAnswer Mode.Least n q d (SearchAnswer.Low x z path)
IsLeastValueAnswer n q d (ValueOnly.Depth path) = IsSearchAnswer Mode.Least n q d (SearchAnswer.Depth path)
IsLeastValueAnswer n q d (ValueOnly.Wide at) = IsSearchAnswer Mode.Least n q d (SearchAnswer.Wide at.path at.entry)
IsLeastValueAnswer n q d (ValueOnly.BoundWide z) = IsSearchAnswer Mode.Least n q d (SearchAnswer.BoundWide z)

pub record IsLeastValue (n : ℕ) (q : Matrix) (m : ℤ) : Type 0 where
  pub positive : pos 1 ≤ℤ m
  pub least : (x : List ℕ) → length x ≡ n → IsNonzero n x → m ≤ℤ form n q (coordinate x)
  pub attained : (x : List ℕ) × Attains n q m x

abbrev pub ValueHolds : ℕ → Matrix → ValueOnly → Type 0
ValueHolds n q (ValueOnly.Found m) = IsLeastValue n q m
ValueHolds n q (ValueOnly.Low x z path) = IsLowVector Mode.Least n q x z
ValueHolds n q (ValueOnly.Depth path) = Unit {0}
ValueHolds n q (ValueOnly.Wide at) = Unit {0}
ValueHolds n q (ValueOnly.BoundWide z) = Unit {0}

abbrev pub IsValueOf : Least → ValueOnly → Type 0
IsValueOf (Least.Found m vectors) answer = answer ≡ ValueOnly.Found m
IsValueOf (Least.Low x z path) answer = answer ≡ ValueOnly.Low x z path
IsValueOf (Least.Depth path) answer = answer ≡ ValueOnly.Depth path
IsValueOf (Least.Wide at) answer = answer ≡ ValueOnly.Wide at
IsValueOf (Least.BoundWide z) answer = answer ≡ ValueOnly.BoundWide z
IsValueOf Least.OutOfMemory answer = Unit {0}

abbrev pub ValueIsOfLeast : Type 0
ValueIsOfLeast = (n : ℕ) (q : Matrix) (d : ℕ) (least : Least) (answer : ValueOnly)
    → IsLeastAnswer n q d least → IsLeastValueAnswer n q d answer → IsValueOf least answer
