use Rattle.std.specs.Prelude.{◌≡◌, length, pos, slice_index_or, ℕ, FitsSigned}
use Rattle.std.specs.Int.{w128}
use Rattle.std.proofs.Common.{arith, ap, ◌∙◌, rules}
use Rattle.std.proofs.lemmas.Int.{to_z-of_z}
use Rattle.unimodular_cone.proofs.RowSet.{row_set_more}
use Rattle.unimodular_cone.proofs.cone.set_row.Goals as goal

pub loop-k-preserved : goal.loop-k-preserved
loop-k-preserved c =
    let size : length c.args.gram.now ≡ 36 = search rules in
    let f : FitsSigned w128 (slice_index_or c.args.row.now c.from.result (pos 0)) = search rules in
    row_set_more _ _ _ _ _ _ _ c.loop-k.invariant size (omega arith) (omega arith) c.place_of.ensures.place
    (to_z-of_z w128 _ f ∙ ap (λ (i : ℕ). slice_index_or c.args.row.now i (pos 0)) c.from.ensures)
