use Rattle.std.proofs.Common.{arith, ap, ◌∙◌, ◌-◌, ◌<◌, length}
use Rattle.exact_forms.specs.Triangles.{entry_in}
use Rattle.matrix_text.specs.RationalMatrix.{RationalMatrix, rational_entry}
use Rattle.matrix_text.specs.Matrix.{none}
use Rattle.matrix_text.proofs.Entries.{place_in_range, read_is_entry}
use Rattle.matrix_text.proofs.matrix.RatMatrix.entry.Goals as goal

pub index-requires : goal.index-requires
index-requires c =
    let size = ap (λ (a : RationalMatrix). a.size) c.self.view_is in
    let len = c.self.invariant.triangle in
    let at = rw (c.max-below.ensures, c.min-beside.ensures) at c.place_of.ensures in
    let inside : c.place_of.result < length c.self.inside.lower.items =
    place_in_range c.self.inside.size c.args.row c.args.column c.place_of.result _ len c.requires.first_row (omega (arith, size)) c.requires.first_column
    (omega (arith, size)) at in
    omega arith

pub returns : goal.returns
unfolding rational_entry
returns c =
    let size = ap (λ (a : RationalMatrix). a.size) c.self.view_is in
    let at = rw (c.max-below.ensures, c.min-beside.ensures) at c.place_of.ensures in
    read_is_entry none c.index.result.now c.self.inside.lower.items c.self.inside.size c.args.row c.args.column c.place_of.result c.self.invariant.triangle
    c.requires.first_row (omega (arith, size)) c.requires.first_column (omega (arith, size)) at c.index.ensures
    ∙ ap (λ (a : RationalMatrix). entry_in none a.lower (c.args.row - 1) (c.args.column - 1)) c.self.view_is
