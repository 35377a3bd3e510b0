use Rattle.std.proofs.Common.{◌≡◌, ◌*ℤ◌, rules, to_z, of_z, sym, ap, ◌∙◌}
use Rattle.std.specs.Int.{w128}
use Rattle.std.proofs.lemmas.Int.{to_z-of_z}
use Rattle.symmetric_matrix.specs.declared.operation.IntOp.{IntOp}
use Rattle.symmetric_matrix.specs.Operations.{mul_op}
use Rattle.matrix_text.specs.declared.clearing.ClearFail.{ClearFail}
use Rattle.matrix_text.specs.declared.clearing.ClearFail.TheVariants.{Wide}
use Rattle.matrix_text.proofs.Clearings.{one_fits, one_owed}
use Rattle.matrix_text.proofs.clearing.multiply_at.Goals as goal

pub returns-in-Ok-clause-ok : goal.returns-in-Ok-clause-ok
returns-in-Ok-clause-ok c =
    let h = one_fits (mul_op c.args.left c.args.right) (c.args.left *ℤ c.args.right) c.in-Ok.product
    (sym (simp (to_z-of_z, c.ranges.left, c.ranges.right) at c.in-Ok.ensures)) in
    let fits : to_z w128 (of_z w128 c.in-Ok.product) ≡ c.in-Ok.product = search (rules, to_z-of_z) in
    (h.0, fits ∙ h.1)

pub returns-in-Err-clause-wide : goal.returns-in-Err-clause-wide
returns-in-Err-clause-wide c =
    let h = one_owed (mul_op c.args.left c.args.right) (c.args.left *ℤ c.args.right) c.in-Err.op
    (sym (simp (to_z-of_z, c.ranges.left, c.ranges.right) at c.in-Err.ensures)) in
    (h.0, ap (λ (op : IntOp). refused op) h.1)
  where
    refused : IntOp → ClearFail
    refused op = Wide c.args.place.row c.args.place.column op
