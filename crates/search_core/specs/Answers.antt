-- The program's answers, against the search's answer.
--
--     IsLeastAnswer n q d answer   the search of Q to depth d for the least value answers this; want of memory is free
--     IsSignAnswer n q d answer    the search for a value below 0 answers this; want of memory is free
--     LeastHolds n q answer        Found has the copositive minimum and its minimal vectors; Low has a nonzero vector of
--                                  the value, which is low
--     SignHolds n q answer         Copositive is said of copositive matrices; Low as above
use Rattle.std.specs.Prelude.{ℕ}
use Rattle.unimodular_cone.specs.Cones.{Matrix}
use Rattle.unimodular_cone.specs.declared.Mode.{Mode}
use Rattle.unimodular_cone.specs.Answer.{SearchAnswer, IsSearchAnswer, IsMinimum, IsCopositive, IsLowVector}
use Rattle.search_core.specs.declared.answer.Least.{Least}
use Rattle.search_core.specs.declared.answer.Sign.{Sign}

abbrev pub IsLeastAnswer : ℕ → Matrix → ℕ → Least → Type 0
IsLeastAnswer n q d (Least.Found m vectors) = IsSearchAnswer Mode.Least n q d (SearchAnswer.Found m vectors)
IsLeastAnswer n q d (Least.Low x z path) = IsSearchAnswer Mode.Least n q d (SearchAnswer.Low x z path)
IsLeastAnswer n q d (Least.Depth path) = IsSearchAnswer Mode.Least n q d (SearchAnswer.Depth path)
IsLeastAnswer n q d (Least.Wide at) = IsSearchAnswer Mode.Least n q d (SearchAnswer.Wide at.path at.entry)
IsLeastAnswer n q d (Least.BoundWide z) = IsSearchAnswer Mode.Least n q d (SearchAnswer.BoundWide z)
IsLeastAnswer n q d Least.OutOfMemory = Unit {0}

abbrev pub IsSignAnswer : ℕ → Matrix → ℕ → Sign → Type 0
IsSignAnswer n q d Sign.Copositive = IsSearchAnswer Mode.Sign n q d SearchAnswer.Copositive
IsSignAnswer n q d (Sign.Low x z path) = IsSearchAnswer Mode.Sign n q d (SearchAnswer.Low x z path)
IsSignAnswer n q d (Sign.Depth path) = IsSearchAnswer Mode.Sign n q d (SearchAnswer.Depth path)
IsSignAnswer n q d (Sign.Wide at) = IsSearchAnswer Mode.Sign n q d (SearchAnswer.Wide at.path at.entry)
IsSignAnswer n q d Sign.OutOfMemory = Unit {0}

abbrev pub LeastHolds : ℕ → Matrix → Least → Type 0
LeastHolds n q (Least.Found m vectors) = IsMinimum n q m vectors
LeastHolds n q (Least.Low x z path) = IsLowVector Mode.Least n q x z
LeastHolds n q (Least.Depth path) = Unit {0}
LeastHolds n q (Least.Wide at) = Unit {0}
LeastHolds n q (Least.BoundWide z) = Unit {0}
LeastHolds n q Least.OutOfMemory = Unit {0}

abbrev pub SignHolds : ℕ → Matrix → Sign → Type 0
SignHolds n q Sign.Copositive = IsCopositive n q
SignHolds n q (Sign.Low x z path) = IsLowVector Mode.Sign n q x z
SignHolds n q (Sign.Depth path) = Unit {0}
SignHolds n q (Sign.Wide at) = Unit {0}
SignHolds n q Sign.OutOfMemory = Unit {0}
