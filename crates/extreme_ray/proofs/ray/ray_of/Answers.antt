use Rattle.std.proofs.Common.{◌≡◌, ◌∙◌, ◌∷◌, sym, ap, ap₂, arith, [], length, List, ℕ, ◌+◌, ◌<◌}
use Rattle.exact_linear.specs.Tables.{places_where, contains, or_zero, rows_of, row_of}
use Rattle.exact_linear.proofs.SquareLists.{at_index}
use Rattle.extreme_ray.specs.Rays.{position}
use Rattle.extreme_ray.proofs.Wholes.{IsFound, within, sizes_are, fails, units_within, place_within, row_inside, divisor_here, answers, means}
use Rattle.extreme_ray.proofs.ray.ray_of.Goals as goal
use Rattle.extreme_ray.proofs.ray.ray_of.Goals.{After-deref, After-position, After-row_of-row}

-- the names of the columns and the size
found : (c : After-deref) → IsFound c.args.vectors.now c.args.zeros.now c.args.leaving c.deref.result.now c.len-n.result
found c = record {
  basis = c.requires;
  list = c.len-count.ensures.list;
  names = c.deref.ensures.value ∙ c.in-Ok.ensures
      ∙ ap (λ (k : ℕ). places_where (contains (c.args.leaving ∷ c.args.zeros.now)) 0 k) c.len-count.ensures.value;
  size = c.len-n.ensures.value ∙ ap length (at_index c.args.vectors.now c.args.leaving c.at.result.now [] c.at.ensures);
}

-- the place of the leaving vector among them, and its row
place_is : (c : After-position) → c.position.result ≡ position c.deref.result.now c.args.leaving
place_is c = c.position.ensures ∙ ap (λ (xs : List ℕ). position xs c.args.leaving) (c.deref-in-Ok-brought_in.ensures.value ∙ sym c.deref.ensures.value)

row_is : (c : After-row_of-row) → c.position.result ≡ position c.deref.result.now c.args.leaving
    → c.row_of-row.result ≡ or_zero (row_of c.in-Ok-brought_in.table (rows_of c.in-Ok-brought_in.table + position c.deref.result.now c.args.leaving))
row_is c place =
    c.row_of-row.ensures ∙ ap₂ (λ (a : ℕ) (b : ℕ). or_zero (row_of c.in-Ok-brought_in.table (a + b))) c.rows.ensures.value place

pub brought_in-requires-clause-within : goal.brought_in-requires-clause-within
brought_in-requires-clause-within c = within _ _ _ _ _ (found (goal.at.brought_in-requires-clause-within c).After-deref)

pub brought_in-requires-clause-sizes : goal.brought_in-requires-clause-sizes
brought_in-requires-clause-sizes c = sizes_are _ _ _ _ _ (found (goal.at.brought_in-requires-clause-sizes c).After-deref)

pub overflow_add-rows : goal.overflow_add-rows
overflow_add-rows c =
    record {
      fits =
          let at = goal.at.overflow_add-rows c in
          let p : rows_of c.in-Ok-brought_in.table + position c.deref.result.now c.args.leaving < c.in-Ok-brought_in.table.width =
          place_within _ _ _ _ _ (found at.After-deref) c.in-Ok-brought_in.table c.in-Ok-brought_in.ensures.ok.1 in
          let w = c.columns-width.ensures in
          let f = c.columns-width.type_inv in
          let r = c.rows.ensures.value in
          let q = place_is at.After-position in
          omega arith;
    }

pub row_of-row-requires : goal.row_of-row-requires
row_of-row-requires c =
    let at = goal.at.row_of-row-requires c in
    let p : rows_of c.in-Ok-brought_in.table + position c.deref.result.now c.args.leaving < c.in-Ok-brought_in.table.width =
    place_within _ _ _ _ _ (found at.After-deref) c.in-Ok-brought_in.table c.in-Ok-brought_in.ensures.ok.1 in
    let r = c.rows.ensures.value in
    let q = place_is at.After-position in
    omega arith

pub by_row-requires-clause-row : goal.by_row-requires-clause-row
by_row-requires-clause-row c =
    let at = goal.at.by_row-requires-clause-row c in
    row_inside _ _ _ _ _ (found at.After-deref) c.in-Ok-brought_in.table c.in-Ok-brought_in.ensures.ok.1 c.row_of-row.result
    (row_is at.After-row_of-row (place_is at.After-position))

pub by_row-requires-clause-width : goal.by_row-requires-clause-width
by_row-requires-clause-width c =
    units_within _ _ _ _ _ (found (goal.at.by_row-requires-clause-width c).After-deref) c.in-Ok-brought_in.table c.in-Ok-brought_in.ensures.ok.1

pub by_row-requires-clause-some : goal.by_row-requires-clause-some
by_row-requires-clause-some c =
    let at = goal.at.by_row-requires-clause-some c in
    divisor_here _ _ _ _ _ (found at.After-deref) c.in-Ok-brought_in.table c.in-Ok-brought_in.ensures.ok.1 c.row_of-row.result
    (row_is at.After-row_of-row (place_is at.After-position))

pub returns-in-Ok-brought_in-clause-answer : goal.returns-in-Ok-brought_in-clause-answer
returns-in-Ok-brought_in-clause-answer c =
    let at = goal.at.returns-in-Ok-brought_in-clause-answer c in
    answers _ _ _ _ _ (found at.After-deref) c.in-Ok-brought_in.table c.in-Ok-brought_in.ensures.ok.1 c.row_of-row.result
    (row_is at.After-row_of-row (place_is at.After-position))
    c.in-Ok-brought_in.ensures.ok.0 c.by_row.result c.by_row.ensures.ok c.by_row.ensures.wide

pub returns-in-Ok-brought_in-clause-meaning : goal.returns-in-Ok-brought_in-clause-meaning
returns-in-Ok-brought_in-clause-meaning c =
    let at = goal.at.returns-in-Ok-brought_in-clause-meaning c in
    means _ _ _ _ _ (found at.After-deref) c.in-Ok-brought_in.table c.in-Ok-brought_in.ensures.ok.1 c.row_of-row.result
    (row_is at.After-row_of-row (place_is at.After-position))
    c.by_row.result c.by_row.ensures.ok

pub returns-clause-answer : goal.returns-clause-answer
returns-clause-answer c = fails _ _ _ _ _ (found (goal.at.returns-clause-answer c).After-deref) c.in-Err.fail c.in-Err.ensures.wide
