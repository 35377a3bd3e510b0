use Rattle.std.proofs.Common.{◌∙◌, to_z, of_z}
use Rattle.std.proofs.lemmas.Int.{to_z-of_z, fits_signed_from_abs}
use mir.Syntax.{w128}
use Rattle.exact_linear.proofs.SquareLists.{row_more}
use Rattle.exact_linear.proofs.squares.push_row.Goals as goal

pub loop-column-preserved : goal.loop-column-preserved
loop-column-preserved c =
    row_more c.args.x.now c.args.row c.loop-column.column c.args.lower.now.items c.loop-column.lower.items c.push.new.self.items
    (to_z w128 (of_z w128 c.product.result)) c.loop-column.invariant
    (to_z-of_z w128 c.product.result (fits_signed_from_abs w128 c.product.result c.product.ensures.fits) ∙ c.product.ensures.value) c.in_ok-push.ensures.items
