-- What the program answers to the words of a command line: which ending is due, and which text goes with it.
--
--     IsFaultDue bytes e           the bytes are no matrix text, and the ending names their first fault
--     IsBytesDue due bytes e       that, or an ending that is due for the matrix whose text they are
--     IsBytesAnswer answers bytes e text   the refusal of that fault, or the answer of the matrix
--     files_of r                   the names of the files that a request names, in the order in which they are read
--     file_of r                    the name of the matrix file among them, if there is one
--     answers_of_matrix files r, due_of_matrix told r    what its command answers of the matrix, and of a second file: ending and
--                                  text; which ending is due
--     IsGivenAnswer file answers files e text, IsGivenDue file due told e    an answer of the matrix that a file gives, or,
--                                  without one, of some matrix; an ending that is due for it
--     answers_of r files e text    what a request's command answers: the ending and its text; `files name` is what stands outside
--     due_of r told e              which ending is due for it, where the files tell bytes
--     IsOther r, IsCheckUsageAt words p    r is no request to check; the words are none for `check`: their first fault is at p, or they
--                                  ask for something else, and p is 1
--     IsCheckAnswer words files e text, IsCheckDue words told e    what `check` alone answers to words; which ending is due
--     IsUsageDue words e           the words are no command line, and the ending has the position of the fault
--     IsRequestAnswer words files e text   they ask for a request: its answer
--     IsAnswer words files e text  the refusal of that fault, or this answer
--     IsRequestDue words told e    this ending is due for a request that the words ask for
--     IsUnnamed words name         no request of the words names this file
--     IsCutOff given               the ending of a failed sink, or of want of memory
--     YieldsTo e given             this ending was given, unless the sink failed or memory was wanting
--     YieldsToReading e given      and, where a file has to be read first, unless that failed
--     IsEasyRequest words told     the words ask to solve a matrix, told by the files, that lies in the first cone,
--                                  where nothing is owed
--     FactorsAtOnce given          a factorization is given whose walk made no step, unless the sink failed or memory
--                                  was wanting
use Rattle.std.specs.Prelude.{◌≡◌, ◌≢◌, ◌⊎◌, ◌≤◌, ℕ, Bool, List, [], ◌∷◌, length, Option, Some, None}
use Rattle.std.specs.List.{All}
use Rattle.matrix_text.specs.Matrix.{MatrixText, MatrixFault}
use Rattle.matrix_text.specs.RationalMatrix.{RationalMatrix}
use Rattle.matrix_text.specs.declared.fault.TextFault.{TextFault}
use Rattle.unimodular_cone.specs.declared.Mode.{Mode}
use Rattle.perfect_walk.specs.declared.journal.Limits.{Limits}
use Rattle.cpfactor_lines.specs.Commands.{Request, Solve, Check, Minimum, Copositive, Sample, IsCommandLine, IsUsageAt}
use Rattle.cpfactor_top.specs.declared.ended.Ended.{Ended}
use Rattle.cpfactor_top.specs.declared.ended.Cause.TheVariants.{Usage, MatrixFault as Faulty, ReadFault, WriteFault, Memory}
use Rattle.cpfactor_top.specs.Causes.{ending, EndsWith}
use Rattle.cpfactor_top.specs.Outcomes.{Refuses}
use Rattle.cpfactor_top.specs.Files.{FileShown, matrix_file, IsFileAnswer, IsFileDue}
use Rattle.cpfactor_top.specs.Checking.{proof_file, IsProofAnswer, IsProofDue}
use Rattle.cpfactor_top.specs.Solving.{IsSolved, IsSolveDue, IsEasy, IsFactoredAtOnce}
use Rattle.cpfactor_top.specs.Searching.{IsSearched, IsSearchDue}
use Rattle.cpfactor_top.specs.Sampling.{IsSampled, IsSampleDue}

-- ---- bytes
abbrev pub IsFaultDue : List ℕ → Ended → Type 0
IsFaultDue bytes e = (fault : TextFault) × MatrixFault bytes fault.kind fault.line × (e ≡ ending (Faulty fault))

abbrev pub IsBytesDue : (RationalMatrix → Ended → Type 0) → List ℕ → Ended → Type 0
IsBytesDue due bytes e = IsFaultDue bytes e ⊎ ((a : RationalMatrix) × MatrixText bytes a × due a e)

abbrev pub IsBytesAnswer : (RationalMatrix → Ended → List ℕ → Type 0) → List ℕ → Ended → List ℕ → Type 0
IsBytesAnswer answers bytes e text = Refuses (IsFaultDue bytes) e text
    ⊎ ((a : RationalMatrix) × MatrixText bytes a × answers a e text)

-- ---- requests
abbrev pub files_of : Request → List (List ℕ)
files_of (Solve file limits workers traced) = file ∷ []
files_of (Check file proof) = file ∷ proof ∷ []
files_of (Minimum file depth workers) = file ∷ []
files_of (Copositive file depth workers) = file ∷ []
files_of (Sample n k first workers) = []

abbrev pub file_of : Request → Option (List ℕ)
file_of (Solve file limits workers traced) = Some file
file_of (Check file proof) = Some file
file_of (Minimum file depth workers) = Some file
file_of (Copositive file depth workers) = Some file
file_of (Sample n k first workers) = None

abbrev pub answers_of_matrix : (List ℕ → FileShown) → Request → RationalMatrix → Ended → List ℕ → Type 0
answers_of_matrix files (Solve file limits workers traced) = IsSolved traced limits
answers_of_matrix files (Check file proof) = λ a. IsFileAnswer proof_file (IsProofAnswer a) (files proof)
answers_of_matrix files (Minimum file depth workers) = IsSearched Mode.Least depth
answers_of_matrix files (Copositive file depth workers) = IsSearched Mode.Sign depth
answers_of_matrix files (Sample n k first workers) = IsSampled n k first

abbrev pub due_of_matrix : (List ℕ → Option (List ℕ)) → Request → RationalMatrix → Ended → Type 0
due_of_matrix told (Solve file limits workers traced) = IsSolveDue limits
due_of_matrix told (Check file proof) = λ a. IsFileDue proof_file (IsProofDue a) (told proof)
due_of_matrix told (Minimum file depth workers) = IsSearchDue Mode.Least depth
due_of_matrix told (Copositive file depth workers) = IsSearchDue Mode.Sign depth
due_of_matrix told (Sample n k first workers) = IsSampleDue n k first

abbrev pub IsGivenAnswer : Option (List ℕ) → (RationalMatrix → Ended → List ℕ → Type 0) → (List ℕ → FileShown) → Ended
    → List ℕ → Type 0
IsGivenAnswer (Some file) answers files e text = IsFileAnswer matrix_file (IsBytesAnswer answers) (files file) e text
IsGivenAnswer None answers files e text = (a : RationalMatrix) × answers a e text

abbrev pub IsGivenDue : Option (List ℕ) → (RationalMatrix → Ended → Type 0) → (List ℕ → Option (List ℕ)) → Ended
    → Type 0
IsGivenDue (Some file) due told e = IsFileDue matrix_file (IsBytesDue due) (told file) e
IsGivenDue None due told e = (a : RationalMatrix) × due a e

abbrev pub answers_of : Request → (List ℕ → FileShown) → Ended → List ℕ → Type 0
answers_of r files = IsGivenAnswer (file_of r) (answers_of_matrix files r) files

abbrev pub due_of : Request → (List ℕ → Option (List ℕ)) → Ended → Type 0
due_of r told = IsGivenDue (file_of r) (due_of_matrix told r) told

-- ---- words
abbrev pub IsUsageDue : List (List ℕ) → Ended → Type 0
IsUsageDue words e = (position : ℕ) × IsUsageAt words position × (e ≡ ending (Usage position))

abbrev pub IsRequestAnswer : List (List ℕ) → (List ℕ → FileShown) → Ended → List ℕ → Type 0
IsRequestAnswer words files e text = (request : Request) × IsCommandLine words request × answers_of request files e text

abbrev pub IsAnswer : List (List ℕ) → (List ℕ → FileShown) → Ended → List ℕ → Type 0
IsAnswer words files e text = Refuses (IsUsageDue words) e text ⊎ IsRequestAnswer words files e text

abbrev pub IsRequestDue : List (List ℕ) → (List ℕ → Option (List ℕ)) → Ended → Type 0
IsRequestDue words told e = (request : Request) × IsCommandLine words request × due_of request told e

-- ---- words of `check` alone
abbrev pub IsOther : Request → Type 0
IsOther (Check file proof) = ⊥
IsOther other = Unit {0}

abbrev pub IsCheckUsageAt : List (List ℕ) → ℕ → Type 0
IsCheckUsageAt words position =
    IsUsageAt words position ⊎ (((r : Request) × IsCommandLine words r × IsOther r) × (position ≡ 1))

abbrev pub IsCheckUsageDue : List (List ℕ) → Ended → Type 0
IsCheckUsageDue words e = (position : ℕ) × IsCheckUsageAt words position × (e ≡ ending (Usage position))

abbrev pub IsCheckAnswer : List (List ℕ) → (List ℕ → FileShown) → Ended → List ℕ → Type 0
IsCheckAnswer words files e text = Refuses (IsCheckUsageDue words) e text
    ⊎ ((file : List ℕ) × (proof : List ℕ) × IsCommandLine words (Check file proof)
    × answers_of (Check file proof) files e text)

abbrev pub IsCheckDue : List (List ℕ) → (List ℕ → Option (List ℕ)) → Ended → Type 0
IsCheckDue words told e =
    (file : List ℕ) × (proof : List ℕ) × IsCommandLine words (Check file proof) × due_of (Check file proof) told e

abbrev pub IsUnnamed : List (List ℕ) → List ℕ → Type 0
IsUnnamed words name = (request : Request) → IsCommandLine words request → All (λ file. name ≢ file) (files_of request)

-- ---- which ending is given
abbrev pub IsCutOff : Ended → Type 0
IsCutOff given = EndsWith WriteFault given ⊎ EndsWith Memory given

abbrev pub YieldsTo : Ended → Ended → Type 0
YieldsTo e given = (given ≡ e) ⊎ IsCutOff given

abbrev pub YieldsToReading : Ended → Ended → Type 0
YieldsToReading e given = EndsWith ReadFault given ⊎ YieldsTo e given

-- ---- a matrix in the first cone
pub record IsEasyRequest (words : List (List ℕ)) (told : List ℕ → Option (List ℕ)) : Type 0 where
  pub file : List ℕ
  pub limits : Limits
  pub workers : ℕ
  pub traced : Bool
  pub asked : IsCommandLine words (Solve file limits workers traced)
  pub bytes : List ℕ
  pub is_told : told file ≡ Some bytes
  pub within : length bytes ≤ matrix_file.limit
  pub matrix : RationalMatrix
  pub text : MatrixText bytes matrix
  pub easy : IsEasy limits.depth matrix

abbrev pub FactorsAtOnce : Ended → Type 0
FactorsAtOnce given = IsFactoredAtOnce given ⊎ IsCutOff given
