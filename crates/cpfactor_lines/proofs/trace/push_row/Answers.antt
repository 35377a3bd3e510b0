use Rattle.std.proofs.Common.{◌≡◌, ◌++◌, ◌∙◌, ◌+◌, ◌-◌, arith, rules, ap, to_z, of_z}
use Rattle.std.specs.Int.{w128}
use Rattle.std.specs.Fmt.{signed_decimal}
use Rattle.std.specs.List.{range_with_len}
use Rattle.std.specs.Prelude.{map}
use Rattle.std.proofs.lemmas.Int.{to_z-of_z}
use Rattle.cone_tree_certificate.proofs.WrittenLines.{entry_word}
use Rattle.cpfactor_lines.proofs.Comments.{cells, cells_none, cells_more, comment_end}
use Rattle.cpfactor_lines.proofs.trace.push_row.Goals as goal

pub loop-column-init : goal.loop-column-init
loop-column-init c = cells_none (entry_word c.args.matrix.now c.args.row) _

pub loop-column-preserved : goal.loop-column-preserved
loop-column-preserved c =
    let row : c.args.row + 1 - 1 ≡ c.args.row = omega arith in
    let column : c.loop-column.column + 1 - 1 ≡ c.loop-column.column = omega arith in
    let is = rw (row, column) at c.get.ensures.value in
    let fits : to_z w128 (of_z w128 c.get.result) ≡ c.get.result = search (rules, to_z-of_z) in
    cells_more (entry_word c.args.matrix.now c.args.row) c.loop-column.column (signed_decimal c.get.result) _ _ _ _
    (ap signed_decimal is) c.loop-column.invariant c.in_ok-push-2.ensures.items (rw fits at c.in_ok-push_number.ensures.ok)

pub returns : goal.returns
returns c =
    let all : c.loop-column.column ≡ c.args.matrix.now.size = omega arith in
    comment_end (map (entry_word c.args.matrix.now c.args.row) (range_with_len 0 c.args.matrix.now.size)) c.args.into.now.items _ _ _ c.in_ok-push.ensures.items
    (c.loop-column.invariant ∙ ap (λ k. c.push.new.self.items ++ cells (entry_word c.args.matrix.now c.args.row) k) all) c.in_ok-push-3.ensures.items
