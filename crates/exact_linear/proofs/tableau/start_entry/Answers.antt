use Rattle.std.specs.Prelude.{slice_index_or}
use Rattle.std.proofs.Common.{◌≡◌, ◌∙◌, sym, ap, arith, pos, ◌-◌}
use Rattle.std.proofs.lemmas.List.{get_or_read, get_or_past}
use Rattle.std.proofs.lemmas.Int.{to_z-of_z, fits_signed_from_abs}
use mir.Syntax.{w128}
use Rattle.exact_forms.specs.Rational.{whole}
use Rattle.exact_forms.specs.Triangles.{triangle}
use Rattle.symmetric_matrix.specs.Symmetric.{Symmetric}
use Rattle.exact_linear.specs.Columns.{no_matrix}
use Rattle.exact_linear.proofs.StartTable.{cell_given}
use Rattle.exact_linear.proofs.tableau.start_entry.Goals as goal

pub lower_entry-requires : goal.lower_entry-requires
lower_entry-requires c =
    let q = get_or_read c.args.columns.now (c.args.column - c.args.rows) c.index-columns-column.result c.if-column-rows-2.true c.index-columns-column.is
    no_matrix in
    let s = c.requires.sizes (c.args.column - c.args.rows) c.if-column-rows-2.true in
    let t : triangle c.index-columns-column.result.size ≡ c.args.rows = ap (λ (m : Symmetric). triangle m.size) q ∙ s in
    let u = c.requires.unit in omega arith

pub returns-then-column-rows-2 : goal.returns-then-column-rows-2
returns-then-column-rows-2 c =
    c.whole-then-column-rows-2.ensures
    ∙ ap whole (to_z-of_z w128 c.lower_entry.result (fits_signed_from_abs w128 c.lower_entry.result c.lower_entry.ensures.fits) ∙ c.lower_entry.ensures.value
    ∙ ap (λ (m : Symmetric). slice_index_or m.lower c.args.unit (pos 0))
    (get_or_read c.args.columns.now (c.args.column - c.args.rows) c.index-columns-column.result c.if-column-rows-2.true c.index-columns-column.is
    no_matrix))
    ∙ cell_given c.args.rows c.args.columns.now c.args.unit c.args.column c.if-column-rows.false

pub returns-else-column-rows-2 : goal.returns-else-column-rows-2
returns-else-column-rows-2 c =
    c.whole-else-column-rows-2.ensures
    ∙ ap (λ (m : Symmetric). whole (slice_index_or m.lower c.args.unit (pos 0)))
    (sym (get_or_past c.args.columns.now (c.args.column - c.args.rows) no_matrix c.if-column-rows-2.false))
    ∙ cell_given c.args.rows c.args.columns.now c.args.unit c.args.column c.if-column-rows.false
