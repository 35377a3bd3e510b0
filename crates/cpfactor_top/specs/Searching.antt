-- What `minimum` and `copositive` answer of a matrix A = S/d: the answer of the search of S, its values divided by d.
--
--     HasMeaning m s answer           Found carries the copositive minimum and its minimal vectors, Copositive is said of
--                                     copositive matrices alone, Low carries a nonzero vector with its value, which is low
--     search_ending answer            how the program ends with an answer of a search
--     search_text n d answer          the answer's text
--     IsFoundDue m depth s e          the ending of the answer of the search of S to this depth
--     IsFound m depth s d e text      that, what the answer means, and its text
--     IsSearchDue m depth a e         one of two endings is due: clearing owes an operation, or it owes nothing and S is searched
--     IsSearched m depth a e text     it is, with its text
--
-- The search looks for the least value where its mode is Least, and for a value below 0 where it is Sign.
use Rattle.std.specs.Prelude.{◌≡◌, ◌⊎◌, ℕ, ℤ, List, None}
use Rattle.symmetric_matrix.specs.Symmetric.{Symmetric, entry}
use Rattle.matrix_text.specs.RationalMatrix.{RationalMatrix}
use Rattle.unimodular_cone.specs.declared.Mode.{Mode}
use Rattle.unimodular_cone.specs.Answer.{IsMinimum, IsCopositive, IsLowVector, SearchAnswer, BoundWide, Wide, Low, Depth, Copositive, Found, IsSearchAnswer}
use Rattle.cpfactor_top.specs.declared.ended.Ended.{Ended}
use Rattle.cpfactor_top.specs.declared.ended.Cause.TheVariants as cause
use Rattle.perfect_walk.specs.declared.journal.Owed.TheVariants.{Gram, Bound}
use Rattle.cpfactor_top.specs.Causes.{ending, separated_ending}
use Rattle.matrix_text.specs.Quotients.{whole_of, denominator_of, IsClearable, IsQuotient}
use Rattle.cpfactor_top.specs.Given.{IsClearRefused}
use Rattle.cpfactor_top.specs.Outcomes.{Refuses}
use Rattle.cpfactor_lines.specs.Texts.{owed_text, depth_text, low_text, copositive_text, minimum_text}

abbrev pub HasMeaning : Mode → Symmetric → SearchAnswer → Type 0
HasMeaning m s (Found z vectors) = IsMinimum s.size (entry s) z vectors
HasMeaning m s Copositive = IsCopositive s.size (entry s)
HasMeaning m s (Low x z path) = IsLowVector m s.size (entry s) x z
HasMeaning m s (BoundWide z) = Unit {0}
HasMeaning m s (Wide path at) = Unit {0}
HasMeaning m s (Depth path) = Unit {0}

abbrev pub search_ending : SearchAnswer → Ended
search_ending (Found m vectors) = ending cause.Fine
search_ending Copositive = ending cause.Fine
search_ending (Low x z path) = separated_ending
search_ending (BoundWide z) = ending (cause.Overflow (Bound z))
search_ending (Wide path at) = ending (cause.Overflow (Gram (record { path = path; entry = at })))
search_ending (Depth path) = ending (cause.Depth path)

abbrev pub search_text : ℕ → ℤ → SearchAnswer → List ℕ
search_text n d (Found m vectors) = minimum_text d m vectors
search_text n d Copositive = copositive_text n
search_text n d (Low x z path) = low_text d x z path
search_text n d (BoundWide z) = owed_text (Bound z)
search_text n d (Wide path at) = owed_text (Gram (record { path = path; entry = at }))
search_text n d (Depth path) = depth_text path

pub record IsFoundDue (m : Mode) (depth : ℕ) (s : Symmetric) (e : Ended) : Type 0 where
  pub answer : SearchAnswer
  pub is_answer : IsSearchAnswer m s.size (entry s) depth answer
  pub ended : e ≡ search_ending answer

pub record IsFound (m : Mode) (depth : ℕ) (s : Symmetric) (d : ℤ) (e : Ended) (text : List ℕ) : Type 0 where
  pub found : IsFoundDue m depth s e
  pub meaning : HasMeaning m s found.answer
  pub written : text ≡ search_text s.size d found.answer

abbrev pub IsSearchDue : Mode → ℕ → RationalMatrix → Ended → Type 0
IsSearchDue m depth a e = IsClearRefused None a e ⊎ (IsClearable a × IsFoundDue m depth (whole_of a) e)

abbrev pub IsSearched : Mode → ℕ → RationalMatrix → Ended → List ℕ → Type 0
IsSearched m depth a e text = Refuses (IsClearRefused None a) e text
    ⊎ (IsClearable a × IsQuotient a × IsFound m depth (whole_of a) (denominator_of a) e text)
