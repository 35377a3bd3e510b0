-- What comes next at a state of the walk.
--
--     IsFresh σ                no step stands since the visit
--     IsPlacing T σ            no Tighten stands since the visit, and if there is no Exchange either, ⟨P,S⟩ is at
--                              least 0
--     IsStepNext T σ e         the linear program gives a step, which is e
--     IsInsideNow T σ ws       it gives Inside with the weights ws
--     IsOutsideNow T σ         it gives Outside
--     IsAtRay T σ              it does, and ray_at T σ is its ray: the primitive matrix that is zero at the zeros and
--                              over 0 at the leaving vector. It is an extreme ray of those that are at least 0 at
--                              each vector, and ⟨R,S⟩ is below 0
--     IsSearchAt T σ a         the search of the state's matrix answers a: of the ray, or after a Tighten of its
--                              candidate
--     IsCalledFor T σ w        that search calls for the Tighten with w
--     IsMoveTo T σ v           it finds the level, and v is the candidate with this minimum and the vectors that it
--                              found
--
--     Next                     what comes next: an end or a step
--     ComesNext T σ next       next is what comes next at σ. The lines, of which the first that applies counts:
--
--         state                       condition                                       next
--         no step since the visit     ⟨P,S⟩ is below 0                                ByMatrix: P separates
--         no Tighten since the visit  the linear program gives a step                 Exchanged: that step
--         no Tighten since the visit  it gives Inside                                 Factored: the weights
--         no Tighten since the visit  it gives Outside with ray R; R is copositive    ByRay: R separates
--         the same                    R has a low vector w                            Tightened: the Tighten with w
--         the same                    the search of R ends by depth or width          Undecided, TooWide
--         a Tighten since the visit   its candidate has the minimum at the level      Moved: to the candidate
--         the same                    it has a lesser one at w first, or is low at w  Tightened: the Tighten with w
--         the same                    the search ends by depth or width               Undecided, TooWide, BoundTooWide
--
-- The linear program is told twice: by its tables, which compute, and by its rule in coordinates, which has no rows
-- (IsSimplexOf, IsRuled).
use Rattle.std.specs.Prelude.{◌≡◌, ℕ, ℤ, pos, ◌<ℤ◌, ◌≤ℤ◌, true, false, List, [], ◌∷◌, ◌++◌, length, None}
use Rattle.exact_forms.specs.Rational.{Rational}
use Rattle.exact_forms.specs.Forms.{inner}
use Rattle.exact_forms.specs.Copositive.{IsExtremeRay}
use Rattle.symmetric_matrix.specs.Symmetric.{Symmetric, entry}
use Rattle.unimodular_cone.specs.Paths.{Path}
use Rattle.unimodular_cone.specs.declared.WideAt.{WideAt}
use Rattle.unimodular_cone.specs.Answer.{SearchAnswer, BoundWide, Wide, Low, Depth, Copositive, Found, IsSearchAnswer}
use Rattle.exact_lp.specs.declared.placed.Exchange.{Exchange}
use Rattle.exact_lp.specs.declared.placed.Placed.TheVariants.{Inside, Outside}
use Rattle.exact_lp.specs.Rule.{entering}
use Rattle.exact_lp.specs.Placement.{IsStepDue, is_last}
use Rattle.exact_lp.specs.Simplex.{IsSimplexOf}
use Rattle.exact_lp.specs.Ruled.{IsRuled}
use Rattle.exact_lp.specs.Weights.{AreWeights, weight_in}
use Rattle.extreme_ray.specs.Rays.{IsPrimitiveRay}
use Rattle.contiguous.specs.declared.neighbour.Tighten.{Tighten}
use Rattle.contiguous.specs.Tightenings.{tighten_of, last_tighten, CallsFor}
use Rattle.perfect_walk.specs.declared.journal.Visit.{Visit}
use Rattle.perfect_walk.specs.States.{zero_vectors_at, leaving_vector_at, ray_at, line_at, search_target_at}
use Rattle.perfect_walk.specs.States.{mode_at, level_at, product_at}
use Rattle.perfect_walk.specs.States.{Task, WalkState, program_at, table_at, exchange_at, weights_at, zeros_at, leaving_at}

pub record IsFresh (σ : WalkState) : Type 0 where
  pub exchanges : σ.exchanges ≡ []
  pub tightens : σ.tightens ≡ []

pub record IsPlacing (T : Task) (σ : WalkState) : Type 0 where
  pub tightens : σ.tightens ≡ []
  pub met : σ.exchanges ≡ [] → pos 0 ≤ℤ product_at T σ

-- ---- the linear program
pub record IsStepNext (T : Task) (σ : WalkState) (e : Exchange) : Type 0 where
  pub due : IsStepDue (program_at T σ) (length σ.exchanges)
  pub step_is : e ≡ exchange_at T σ
  pub rule : IsSimplexOf σ.visit.vectors T.s (σ.exchanges ++ e ∷ [])

pub record IsInsideNow (T : Task) (σ : WalkState) (found : List Rational) : Type 0 where
  pub last : is_last (program_at T σ) (length σ.exchanges) ≡ true
  pub weights_are : found ≡ weights_at T σ
  pub rule : IsRuled σ.visit.vectors T.s T.d (Inside found σ.exchanges)
  pub number : length found ≡ length σ.visit.vectors
  pub sum : AreWeights T.s.size σ.visit.vectors T.s T.d (weight_in found)

pub record IsOutsideNow (T : Task) (σ : WalkState) : Type 0 where
  pub not_last : is_last (program_at T σ) (length σ.exchanges) ≡ false
  pub none : entering (table_at T σ) (length σ.visit.vectors) ≡ None
  pub rule : IsRuled σ.visit.vectors T.s T.d (Outside (zeros_at T σ) (leaving_at T σ) σ.exchanges)

-- ---- the ray
pub record IsAtRay (T : Task) (σ : WalkState) : Type 0 where
  pub placing : IsPlacing T σ
  pub outside : IsOutsideNow T σ
  pub is_ray : IsPrimitiveRay T.s.size (zero_vectors_at T σ) (leaving_vector_at T σ) (ray_at T σ)
  pub is_extreme : IsExtremeRay T.s.size (entry (ray_at T σ)) σ.visit.vectors
  pub separates : inner T.s.size (entry (ray_at T σ)) (entry T.s) <ℤ pos 0

-- ---- the search
pub record IsSearchAt (T : Task) (σ : WalkState) (a : SearchAnswer) : Type 0 where
  pub at_ray : last_tighten σ.tightens ≡ None → IsAtRay T σ
  pub answers : IsSearchAnswer (mode_at σ) (search_target_at T σ).size (entry (search_target_at T σ)) T.depth a

pub record IsCalledFor (T : Task) (σ : WalkState) (w : List ℕ) : Type 0 where
  pub answer : SearchAnswer
  pub is_answer : IsSearchAt T σ answer
  pub calls : CallsFor (level_at T σ) w answer

-- ---- what comes next
pub data Next : Type 0 where
  ByMatrix : Next
  Exchanged : Exchange → Next
  Factored : List Rational → Next
  ByRay : Next
  Tightened : Tighten → Next
  Moved : Visit → Next
  Undecided : Path → Next
  TooWide : WideAt → Next
  BoundTooWide : ℤ → Next

pub record IsMoveTo (T : Task) (σ : WalkState) (v : Visit) : Type 0 where
  pub search : IsSearchAt T σ (Found v.mu v.vectors)
  pub at_level : v.mu ≡ level_at T σ
  pub matrix_is : v.matrix ≡ search_target_at T σ

abbrev pub ComesNext : Task → WalkState → Next → Type 0
ComesNext T σ ByMatrix = IsFresh σ × (product_at T σ <ℤ pos 0)
ComesNext T σ (Exchanged e) = IsPlacing T σ × IsStepNext T σ e
ComesNext T σ (Factored found) = IsPlacing T σ × IsInsideNow T σ found
ComesNext T σ ByRay = IsSearchAt T σ Copositive
ComesNext T σ (Tightened t) = IsCalledFor T σ t.vector × (t ≡ tighten_of (line_at T σ) t.vector)
ComesNext T σ (Moved v) = IsMoveTo T σ v
ComesNext T σ (Undecided path) = IsSearchAt T σ (Depth path)
ComesNext T σ (TooWide at) = IsSearchAt T σ (Wide at.path at.entry)
ComesNext T σ (BoundTooWide z) = IsSearchAt T σ (BoundWide z)
