use Rattle.std.proofs.Common.{◌∙◌, ◌++◌, ◌∷◌, [], ap, arith, rules, ℤ, List, SFits, to_z, of_z, to_z-of_z}
use mir.Syntax.{w128}
use Rattle.symmetric_matrix.proofs.FirstMatrix.{row_front_more, row_front_whole}
use Rattle.symmetric_matrix.proofs.start.push_first_row.Goals as goal

pub loop-column-preserved : goal.loop-column-preserved
loop-column-preserved c =
    let fits : SFits w128 c.entry_at.result = search rules in
    row_front_more c.args.n c.args.row c.loop-column.column c.args.lower.now.items c.push.new.self.items (to_z w128 (of_z w128 c.entry_at.result))
    (c.in_ok-push.ensures.items ∙ ap (λ (zs : List ℤ). zs ++ to_z w128 (of_z w128 c.entry_at.result) ∷ []) c.loop-column.invariant) (to_z-of_z fits
    ∙ c.entry_at.ensures)

pub returns : goal.returns
returns c =
    c.loop-column.invariant
    ∙ ap (λ (zs : List ℤ). c.args.lower.now.items ++ zs) (row_front_whole c.args.n c.args.row c.loop-column.column (let a = c.loop-column-test.false in
    let b = c.loop-column.auto.column-end in omega arith))
