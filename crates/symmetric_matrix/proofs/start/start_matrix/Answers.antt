use Rattle.std.proofs.Common.{◌≡◌, ◌∙◌, ap, arith, map, ℕ, subst, IfOk}
use Rattle.symmetric_matrix.specs.Symmetric.{Symmetric}
use Rattle.symmetric_matrix.specs.FirstMatrix.{first_entry}
use Rattle.symmetric_matrix.specs.Recipes.{triangle_places}
use Rattle.symmetric_matrix.proofs.FirstMatrix.{no_rows, rows_more, first_lower, first_matrix_is}
use Rattle.symmetric_matrix.proofs.start.start_matrix.Goals as goal

pub loop-row-init : goal.loop-row-init
loop-row-init c = c.new-lower.ensures.items ∙ no_rows c.args.n

pub loop-row-preserved : goal.loop-row-preserved
loop-row-preserved c =
    rows_more c.args.n c.loop-row.row c.loop-row.lower.items c.push_first_row.new.lower.items c.loop-row.invariant c.in_ok-push_first_row.ensures

pub from_lower-requires-clause-lower : goal.from_lower-requires-clause-lower
from_lower-requires-clause-lower c =
    let done : c.loop-row.row ≡ c.args.n = omega arith in
    first_lower c.args.n c.deref.result.now (c.deref.ensures.value ∙ c.loop-row.invariant ∙ ap (λ (m : ℕ). map (first_entry c.args.n) (triangle_places m)) done)

pub returns : goal.returns
returns c =
    let done : c.loop-row.row ≡ c.args.n = omega arith in
    subst (λ (q : Symmetric). IfOk c.from_lower.result (λ p. p ≡ q))
    (first_matrix_is c.args.n c.deref.result.now (c.deref.ensures.value ∙ c.loop-row.invariant
    ∙ ap (λ (m : ℕ). map (first_entry c.args.n) (triangle_places m)) done))
    c.from_lower.ensures
