use Rattle.std.proofs.Common.{◌≡◌, ◌++◌, ◌∙◌, arith, ap}
use Rattle.std.specs.List.{flat_map, range_with_len}
use Rattle.cone_tree_certificate.proofs.WrittenLines.{flat_none}
use Rattle.cpfactor_lines.proofs.Comments.{row_comment, rows_more, rows_end}
use Rattle.cpfactor_lines.proofs.trace.push_matrix.Goals as goal

pub loop-row-init : goal.loop-row-init
loop-row-init c = flat_none (row_comment c.args.matrix.now) c.args.into.now.items

pub loop-row-preserved : goal.loop-row-preserved
loop-row-preserved c = rows_more c.args.matrix.now c.loop-row.row _ _ _ c.loop-row.invariant c.in_ok-push_row.ensures

pub returns : goal.returns
returns c =
    let all : c.loop-row.row ≡ c.args.matrix.now.size = omega arith in
    rows_end c.args.matrix.now c.args.into.now.items c.loop-row.into.items
    (c.loop-row.invariant ∙ ap (λ k. c.args.into.now.items ++ flat_map (row_comment c.args.matrix.now) (range_with_len 0 k)) all)
