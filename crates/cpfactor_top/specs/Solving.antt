-- What `solve` answers of a matrix A = S/d: how the walk of S/d ends, behind the trace of its visits where that is
-- wanted.
--
--     no_visit                  the journal of a walk that didn't begin
--     ending_of limit walked    the ending of the command with a walk: a step that is refused has used the limit
--     IsWalkDue limits a e      clearing A owes nothing, and e is the ending of a walk of S/d under the limits, but
--                               for want of memory
--     IsSolveDue limits a e     one of two endings is due: clearing owes an operation, and nothing is visited; or this
--     IsSeparationText depth w value text     the text of the verdict that W separates, with the tree to that depth
--                               whose nodes are split at the pairs, which proves W copositive. Its numbers are as
--                               small as a text may have them
--     IsEndText n limits end text     the text of a walk's end: the verdict's, or the line of the refusal; of an end
--                               for want of memory there is none
--     IsWalkText traced limits n walked text     that text, behind the trace of the visits where it is wanted
--     Excludes a end            where a matrix separates A, no terms factor A
--     IsWalkAnswer traced limits a e text     the ending of a walk is due, and e is that. A is S/d, where d is least.
--                               At each visit the minimum is the copositive minimum, exactly the vectors that attain
--                               it are listed, and these are perfect. The end's terms factor A, or its W separates A
--                               with that value; and the text is the walk's
--     IsSolved traced limits a e text     the refusal of an operation of clearing, or this
--     IsEasy depth a            A lies in the first cone, and neither clearing nor the first visit owes an operation
--     IsFactoredAtOnce e        the ending of a factorization whose walk made no step
use Rattle.std.specs.Prelude.{◌≡◌, ◌≢◌, ◌⊎◌, ℕ, Bool, List, [], ◌++◌, Some, None}
use Rattle.std.specs.List.{All}
use Rattle.exact_forms.specs.Rational.{Rational}
use Rattle.exact_forms.specs.Factors.{WeightedVector, IsFactorization}
use Rattle.symmetric_matrix.specs.Symmetric.{Symmetric, entry}
use Rattle.matrix_text.specs.RationalMatrix.{RationalMatrix, rational_entry}
use Rattle.matrix_text.specs.Quotients.{IsClearable, IsQuotient}
use Rattle.cone_tree_certificate.specs.declared.verdict.Verdict.TheVariants.{Factors, Separator}
use Rattle.cone_tree_certificate.specs.Trees.{Lines, TreeProves}
use Rattle.cone_tree_certificate.specs.PairTrees.{IsPairTree}
use Rattle.cone_tree_certificate.specs.VerdictText.{verdict_text, IsWhole}
use Rattle.perfect_walk.specs.declared.journal.Limits.{Limits}
use Rattle.perfect_walk.specs.declared.journal.Journal.{Journal}
use Rattle.perfect_walk.specs.declared.journal.End.{End}
use Rattle.perfect_walk.specs.declared.journal.End.TheVariants as end
use Rattle.perfect_walk.specs.declared.journal.Walked.{Walked}
use Rattle.perfect_walk.specs.Operations.{first_owed_of}
use Rattle.perfect_walk.specs.States.{leg_at}
use Rattle.perfect_walk.specs.Chains.{start_state}
use Rattle.perfect_walk.specs.Ends.{IsWalkedTo}
use Rattle.perfect_walk.specs.Parts.{IsHeld}
use Rattle.walk_verdict.specs.Verdicts.{task_of, IsVerdictRight, IsInFirstCone}
use Rattle.cpfactor_lines.specs.Texts.{depth_text, pivots_text, owed_text}
use Rattle.cpfactor_lines.specs.Traces.{trace_text}
use Rattle.cpfactor_top.specs.declared.ended.Ended.{Ended}
use Rattle.cpfactor_top.specs.declared.ended.Cause.TheVariants as cause
use Rattle.cpfactor_top.specs.declared.ended.Status.TheVariants as status
use Rattle.cpfactor_top.specs.Causes.{ending, ending_with, separated_with}
use Rattle.cpfactor_top.specs.Outcomes.{Refuses}
use Rattle.cpfactor_top.specs.Given.{IsClearRefused}

abbrev pub no_visit : Journal
no_visit = record { visited = []; steps = []; searched = None }

-- ---- which ending is due
abbrev pub ending_by : ℕ → Journal → End → Ended
ending_by limit journal (end.Factored terms) = ending_with (Some journal) cause.Fine
ending_by limit journal (end.Separated w value) = separated_with (Some journal)
ending_by limit journal (end.Depth path) = ending_with (Some journal) (cause.Depth path)
ending_by limit journal end.Pivots = ending_with (Some journal) (cause.Pivots limit)
ending_by limit journal (end.Overflow owed) = ending_with (Some journal) (cause.Overflow owed)
ending_by limit journal end.OutOfMemory = ending cause.Memory

abbrev pub ending_of : ℕ → Walked → Ended
ending_of limit walked = ending_by limit walked.journal walked.end

pub record IsWalkDue (limits : Limits) (a : RationalMatrix) (e : Ended) : Type 0 where
  pub walked : Walked
  pub clearable : IsClearable a
  pub walk : IsWalkedTo (task_of a limits.depth) limits.pivots walked
  pub in_memory : walked.end ≢ end.OutOfMemory
  pub ended : e ≡ ending_of limits.pivots walked

abbrev pub IsSolveDue : Limits → RationalMatrix → Ended → Type 0
IsSolveDue limits a e = IsClearRefused (Some no_visit) a e ⊎ IsWalkDue limits a e

-- ---- the text of a walk
pub record IsSeparationText (depth : ℕ) (w : Symmetric) (value : Rational) (text : List ℕ) : Type 0 where
  pub tree : Lines
  pub by_pairs : IsPairTree w.size (entry w) depth tree
  pub proved : TreeProves w.size (entry w) tree
  pub written : text ≡ verdict_text (Separator w value tree)
  pub whole : IsWhole (Separator w value tree)

abbrev pub IsEndText : ℕ → Limits → End → List ℕ → Type 0
IsEndText n limits (end.Factored terms) text = (text ≡ verdict_text (Factors n terms)) × IsWhole (Factors n terms)
IsEndText n limits (end.Separated w value) text = IsSeparationText limits.depth w value text
IsEndText n limits (end.Depth path) text = text ≡ depth_text path
IsEndText n limits end.Pivots text = text ≡ pivots_text limits.pivots
IsEndText n limits (end.Overflow owed) text = text ≡ owed_text owed
IsEndText n limits end.OutOfMemory text = ⊥

pub record IsWalkText (traced : Bool) (limits : Limits) (n : ℕ) (walked : Walked) (text : List ℕ) : Type 0 where
  pub answer : List ℕ
  pub of_end : IsEndText n limits walked.end answer
  pub written : text ≡ trace_text traced walked.journal.visited ++ answer

-- ---- the answer
abbrev pub Excludes : RationalMatrix → End → Type 0
Excludes a (end.Separated w value) = (terms : List WeightedVector) → ¬ IsFactorization a.size (rational_entry a) terms
Excludes a (end.Factored terms) = Unit {0}
Excludes a (end.Depth path) = Unit {0}
Excludes a end.Pivots = Unit {0}
Excludes a (end.Overflow owed) = Unit {0}
Excludes a end.OutOfMemory = Unit {0}

pub record IsWalkAnswer (traced : Bool) (limits : Limits) (a : RationalMatrix) (e : Ended) (text : List ℕ)
    : Type 0 where
  pub due : IsWalkDue limits a e
  pub quotient : IsQuotient a
  pub held : All (IsHeld a.size) due.walked.journal.visited
  pub right : IsVerdictRight a limits.depth due.walked.end
  pub excludes : Excludes a due.walked.end
  pub written : IsWalkText traced limits a.size due.walked text

abbrev pub IsSolved : Bool → Limits → RationalMatrix → Ended → List ℕ → Type 0
IsSolved traced limits a e text =
    Refuses (IsClearRefused (Some no_visit) a) e text ⊎ IsWalkAnswer traced limits a e text

-- ---- a matrix in the first cone
pub record IsEasy (depth : ℕ) (a : RationalMatrix) : Type 0 where
  pub clearable : IsClearable a
  pub in_cone : IsInFirstCone a
  pub owes_nothing : first_owed_of (leg_at (task_of a depth) (start_state a.size)) ≡ None

pub record IsFactoredAtOnce (e : Ended) : Type 0 where
  pub done : e.status ≡ status.Done
  pub fine : e.cause ≡ cause.Fine
  pub journal : Journal
  pub is_journal : e.journal ≡ Some journal
  pub no_step : journal.steps ≡ []
