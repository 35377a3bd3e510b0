use Rattle.std.proofs.Common.{◌≡◌, ◌∙◌, sym, ap, subst, arith, length, ◌+◌, ◌*◌, ◌≤◌, ℕ, List}
use Rattle.std.proofs.lemmas.List.{length-take-le}
use Rattle.std.proofs.lemmas.List.FromFn.{length-range_with_len}
use Rattle.exact_forms.specs.Rational.{Rational}
use Rattle.symmetric_matrix.specs.Symmetric.{Symmetric}
use Rattle.exact_forms.specs.Triangles.{triangle}
use Rattle.exact_linear.specs.Tables.{Table, cells}
use Rattle.exact_linear.specs.Columns.{HasCoordinates, columns_of, start_cell}
use Rattle.exact_linear.proofs.Fill.{length-cells}
use Rattle.exact_linear.proofs.StartTable.{start_has_coordinates, start_table_made, some_units, a_row, numbers_within}
use Rattle.exact_linear.proofs.tableau.Tableau.over_units.Goals as goal

pub start_entries-requires-clause-sizes : goal.start_entries-requires-clause-sizes
start_entries-requires-clause-sizes c = λ k l. ap triangle (c.requires.sizes k l) ∙ sym c.units_of-rows.ensures.value

entries_size : (rows width : ℕ) (given : List Symmetric) (xs : List Rational) → xs ≡ cells rows width (start_cell rows given) → length xs ≡ rows * width
entries_size rows width given xs e = ap length e ∙ length-cells rows width (start_cell rows given)

pub slice_bounds-from_slice-end : goal.slice_bounds-from_slice-end
slice_bounds-from_slice-end c =
    let width : ℕ = c.units_of-rows.result + length c.args.columns.now + 1 in
    let size = entries_size c.units_of-rows.result width c.args.columns.now c.deref.result.now (c.deref.ensures.value ∙ c.in_ok-entries.ensures) in
    let one : 1 ≤ c.units_of-rows.result = (let a = some_units c.args.n c.requires.positive in let b = c.units_of-rows.ensures.value in omega arith) in
    sym (length-take-le width c.deref.result.now (a_row c.units_of-rows.result width (length c.deref.result.now) size one))

pub invariant_of-result : goal.invariant_of-result
invariant_of-result c =
    let width : ℕ = c.units_of-rows.result + length c.args.columns.now + 1 in
    let size = entries_size c.units_of-rows.result width c.args.columns.now c.in_ok-entries.entries.items c.in_ok-entries.ensures in
    let one : 1 ≤ c.units_of-rows.result = (let a = some_units c.args.n c.requires.positive in let b = c.units_of-rows.ensures.value in omega arith) in
    record {
      cells = ap length c.in_ok-entries-2.ensures ∙ size;
      row = ap length c.in_ok-pivot_row.ensures.items
          ∙ length-take-le width c.deref.result.now
          (a_row c.units_of-rows.result width (length c.deref.result.now) (ap length c.deref.ensures.value ∙ size) one);
      places = ap length c.in_ok-basic.ensures ∙ length-range_with_len 0 c.units_of-rows.result;
      positive = omega arith;
      within = λ i l. numbers_within c.units_of-rows.result width c.in_ok-basic.basic.items i c.in_ok-basic.ensures l (omega arith);
    }

pub returns-clause-table : goal.returns-clause-table
returns-clause-table c = start_table_made c.args.n c.units_of-rows.result c.args.columns.now c.in_ok-entries-2.entries c.in_ok-basic.basic.items
    c.units_of-rows.ensures.value (c.in_ok-entries-2.ensures ∙ c.in_ok-entries.ensures) c.in_ok-basic.ensures

pub returns-clause-coordinates : goal.returns-clause-coordinates
returns-clause-coordinates c =
    subst (λ (t : Table). HasCoordinates (columns_of c.args.n c.args.columns.now) t)
    (sym (start_table_made c.args.n c.units_of-rows.result c.args.columns.now c.in_ok-entries-2.entries c.in_ok-basic.basic.items
    c.units_of-rows.ensures.value (c.in_ok-entries-2.ensures ∙ c.in_ok-entries.ensures) c.in_ok-basic.ensures))
    (start_has_coordinates c.args.n c.args.columns.now)
