use Rattle.std.proofs.Common.{◌≡◌, arith, rules, pos, to_z, of_z}
use Rattle.std.specs.Int.{w128}
use Rattle.std.proofs.lemmas.Int.{to_z-of_z}
use Rattle.text_lines.proofs.Mirrors.{front_more}
use Rattle.cone_tree_certificate.specs.Rows.{w_entries}
use Rattle.cone_tree_certificate.proofs.Symmetries.{length-row}
use Rattle.cone_tree_certificate.proofs.symmetry.push_front.Goals as goal

pub loop-column-preserved : goal.loop-column-preserved
loop-column-preserved c =
    let fits : to_z w128 (of_z w128 c.entry.result) ≡ c.entry.result = search (rules, to_z-of_z) in
    front_more (pos 0) (w_entries c.args.table.now) c.args.row c.loop-column.column c.entry.result c.args.lower.now.items c.loop-column.lower.items
    c.push.new.self.items
    (let len = length-row c.args.table.now c.args.row c.requires in
    omega (arith, len)) c.entry.ensures c.loop-column.invariant (rw fits at c.in_ok-push.ensures.items)
