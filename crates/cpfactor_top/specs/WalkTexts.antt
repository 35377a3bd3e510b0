-- How the text of a walk is made, piece by piece.
--
--     HasTree n depth end          a matrix that separates has n rows, and the search for a value below 0 finds it
--                                  copositive within the depth: so it has a tree
--     AddsSeparation depth w value old new    the text of the verdict that W separates was appended
--     AddsEnd n limits end old new    the text of a walk's end was appended
--     IsWalkTold traced limits n walked e text    e is the ending of the walk, and the text is the walk's
use Rattle.std.specs.Prelude.{◌≡◌, ℕ, Bool, List, ◌++◌}
use Rattle.exact_forms.specs.Rational.{Rational}
use Rattle.symmetric_matrix.specs.Symmetric.{Symmetric, entry}
use Rattle.unimodular_cone.specs.declared.Mode.{Mode}
use Rattle.unimodular_cone.specs.Answer.{Copositive, IsSearchAnswer}
use Rattle.perfect_walk.specs.declared.journal.Limits.{Limits}
use Rattle.perfect_walk.specs.declared.journal.End.{End}
use Rattle.perfect_walk.specs.declared.journal.End.TheVariants as end
use Rattle.perfect_walk.specs.declared.journal.Walked.{Walked}
use Rattle.cpfactor_top.specs.declared.ended.Ended.{Ended}
use Rattle.cpfactor_top.specs.Solving.{ending_of, IsSeparationText, IsEndText, IsWalkText}

abbrev pub HasTree : ℕ → ℕ → End → Type 0
HasTree n depth (end.Separated w value) = (w.size ≡ n) × IsSearchAnswer Mode.Sign w.size (entry w) depth Copositive
HasTree n depth (end.Factored terms) = Unit {0}
HasTree n depth (end.Depth path) = Unit {0}
HasTree n depth end.Pivots = Unit {0}
HasTree n depth (end.Overflow owed) = Unit {0}
HasTree n depth end.OutOfMemory = Unit {0}

abbrev pub AddsSeparation : ℕ → Symmetric → Rational → List ℕ → List ℕ → Type 0
AddsSeparation depth w value old new = (made : List ℕ) × IsSeparationText depth w value made × (new ≡ old ++ made)

abbrev pub AddsEnd : ℕ → Limits → End → List ℕ → List ℕ → Type 0
AddsEnd n limits end old new = (made : List ℕ) × IsEndText n limits end made × (new ≡ old ++ made)

abbrev pub IsWalkTold : Bool → Limits → ℕ → Walked → Ended → List ℕ → Type 0
IsWalkTold traced limits n walked e text = (e ≡ ending_of limits.pivots walked) × IsWalkText traced limits n walked text
