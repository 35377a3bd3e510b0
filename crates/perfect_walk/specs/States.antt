-- A state of the walk, and what computes there: the tables of the linear program, the ray, the candidate, the
-- operations.
--
--     Task                     S and d with A = S/d, and the depth of the searches
--     WalkState                the last visit, the Exchanges and the Tightens since then, the matrix that was
--                              searched last
--     program_at T σ           the linear program of the visit's vectors and S
--     table_at T σ             its table after the Exchanges since the visit
--     exchange_at T σ          the step of that table
--     weights_at T σ           the weights that the linear program gives there
--     zeros_at, leaving_at     the indices of the vectors that it names where S is outside of the visit's cone
--     zero_vectors_at, leaving_vector_at     these vectors
--     ray_at T σ               the ray of these
--     line_at T σ              the visit's matrix with its minimum, and the ray
--     search_target_at T σ     the matrix that is searched: the ray, and after a Tighten its candidate
--     mode_at σ                whether a value is below 0 (Sign), and after a Tighten the least value (Least)
--     level_at T σ             the level of the last Tighten
--     product_at T σ, ray_product_at T σ     ⟨P,S⟩ and ⟨R,S⟩
--
-- The operations between the last step and what comes next, by the calls that are made there:
--
--     meeting_ops              those of ⟨P,S⟩, where no step stands since the visit
--     opening_at               then those of `place` up to where it is known whether a step is due
--     leg_at                   or all of those of `place` up to its next step or its end
--     rayed_ops                then those of `ray_of`
--     search_ops               those up to the search: rayed_ops, and after a Tighten none
--     pairing_ops              then those of ⟨R,S⟩
--     tightening_ops T σ w     or those of the Tighten with w
use Rattle.std.specs.Prelude.{ℕ, ℤ, pos, List, [], ◌∷◌, ◌++◌, map, length, Option, Some, None}
use Rattle.exact_forms.specs.Forms.{inner}
use Rattle.symmetric_matrix.specs.Recipes.{inner_ops}
use Rattle.symmetric_matrix.specs.Symmetric.{Symmetric, entry}
use Rattle.unimodular_cone.specs.declared.Mode.{Mode}
use Rattle.exact_forms.specs.Rational.{Rational}
use Rattle.exact_linear.specs.Squares.{named, vector_at}
use Rattle.exact_linear.specs.Tables.{Table, or_zero}
use Rattle.exact_lp.specs.declared.placed.Exchange.{Exchange}
use Rattle.exact_lp.specs.Placement.{Problem, problem_of, firsts, table_after, last_table, exchange_of, weights}
use Rattle.exact_lp.specs.Placement.{zeros_of, outside_vector, opening_ops, leg_ops}
use Rattle.exact_lp.specs.Rule.{entering}
use Rattle.extreme_ray.specs.Rays.{ray, ray_ops}
use Rattle.contiguous.specs.declared.neighbour.Tighten.{Tighten}
use Rattle.contiguous.specs.Tightenings.{Line, candidate, level, tighten_ops, last_tighten}
use Rattle.perfect_walk.specs.declared.journal.Owed.{Owed}
use Rattle.perfect_walk.specs.declared.journal.Owed.TheVariants.{Inner}
use Rattle.perfect_walk.specs.declared.journal.Visit.{Visit}
use Rattle.perfect_walk.specs.Operations.{of_place, of_ray, of_neighbour}

pub record Task : Type 0 where
  pub s : Symmetric
  pub d : ℤ
  pub depth : ℕ

pub record WalkState : Type 0 where
  pub visit : Visit
  pub exchanges : List Exchange
  pub tightens : List Tighten
  pub searched : Option Symmetric

abbrev pub program_at : Task → WalkState → Problem
program_at T σ = problem_of σ.visit.vectors T.s T.d

abbrev pub table_at : Task → WalkState → Table
table_at T σ = table_after (program_at T σ) (length σ.exchanges)

abbrev pub exchange_at : Task → WalkState → Exchange
exchange_at T σ =
    let p : Problem = program_at T σ in
    exchange_of (table_at T σ) p.vectors (firsts p) (or_zero (entering (table_at T σ) p.vectors))

abbrev pub weights_at : Task → WalkState → List Rational
weights_at T σ =
    let p : Problem = program_at T σ in
    weights (last_table p (length σ.exchanges)) p.vectors (firsts p) p.d p.vectors

abbrev pub zeros_at : Task → WalkState → List ℕ
zeros_at T σ = zeros_of (table_at T σ) (length σ.visit.vectors)

abbrev pub leaving_at : Task → WalkState → ℕ
leaving_at T σ = outside_vector (table_at T σ) (length σ.visit.vectors) (firsts (program_at T σ))

abbrev pub zero_vectors_at : Task → WalkState → List (List ℕ)
zero_vectors_at T σ = named σ.visit.vectors (zeros_at T σ)

abbrev pub leaving_vector_at : Task → WalkState → List ℕ
leaving_vector_at T σ = vector_at σ.visit.vectors (leaving_at T σ)

abbrev pub ray_at : Task → WalkState → Symmetric
ray_at T σ = ray σ.visit.vectors (zeros_at T σ) (leaving_at T σ)

abbrev pub line_at : Task → WalkState → Line
line_at T σ = record { matrix = σ.visit.matrix; mu = σ.visit.mu; direction = ray_at T σ }

abbrev pub search_target_at : Task → WalkState → Symmetric
search_target_at T σ =
    elim (last_tighten σ.tightens) as (λ _. Symmetric) [ None ↦ ray_at T σ | Some t ↦ candidate (line_at T σ) t ]

abbrev pub mode_at : WalkState → Mode
mode_at σ = elim (last_tighten σ.tightens) as (λ _. Mode) [ None ↦ Mode.Sign | Some t ↦ Mode.Least ]

abbrev pub level_at : Task → WalkState → ℤ
level_at T σ = elim (last_tighten σ.tightens) as (λ _. ℤ) [ None ↦ pos 0 | Some t ↦ level (line_at T σ) t ]

abbrev pub product_at : Task → WalkState → ℤ
product_at T σ = inner σ.visit.matrix.size (entry σ.visit.matrix) (entry T.s)

abbrev pub ray_product_at : Task → WalkState → ℤ
ray_product_at T σ = inner (ray_at T σ).size (entry (ray_at T σ)) (entry T.s)

-- ---- operations
abbrev pub inner_at : Symmetric → Symmetric → List Owed
inner_at q s = map Inner (inner_ops q s)

abbrev pub meeting_ops : Task → WalkState → List Owed
meeting_ops T σ = elim σ.exchanges as (λ _. List Owed) [ [] ↦ inner_at σ.visit.matrix T.s | e ∷ es ↦ [] ]

abbrev pub opening_at : Task → WalkState → List Owed
opening_at T σ = meeting_ops T σ ++ map of_place (opening_ops (program_at T σ) (length σ.exchanges))

abbrev pub leg_at : Task → WalkState → List Owed
leg_at T σ = meeting_ops T σ ++ map of_place (leg_ops (program_at T σ) (length σ.exchanges))

abbrev pub rayed_ops : Task → WalkState → List Owed
rayed_ops T σ = leg_at T σ ++ map of_ray (ray_ops σ.visit.vectors (zeros_at T σ) (leaving_at T σ))

abbrev pub search_ops : Task → WalkState → List Owed
search_ops T σ = elim (last_tighten σ.tightens) as (λ _. List Owed) [ None ↦ rayed_ops T σ | Some t ↦ [] ]

abbrev pub pairing_ops : Task → WalkState → List Owed
pairing_ops T σ = search_ops T σ ++ inner_at (ray_at T σ) T.s

abbrev pub tightening_ops : Task → WalkState → List ℕ → List Owed
tightening_ops T σ w = search_ops T σ ++ map of_neighbour (tighten_ops (line_at T σ) w)
