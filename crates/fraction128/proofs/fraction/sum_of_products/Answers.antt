use Rattle.std.proofs.Common.{◌≡◌, arith, [], ◌∷◌, Ok, Err, ◌*ℤ◌, to_z-of_z}
use Rattle.symmetric_matrix.specs.Owed.{answer}
use Rattle.symmetric_matrix.specs.Operations.{is_owed, mul_op}
use Rattle.fraction128.proofs.Sums.{left_refused, right_refused, both_made}
use Rattle.fraction128.proofs.fraction.sum_of_products.Goals.{In_ok-left}
use Rattle.fraction128.proofs.fraction.sum_of_products.Goals as goal

pub returns-in_err-left : goal.returns-in_err-left
returns-in_err-left c =
    let h : answer is_owed (mul_op c.args.a c.args.x ∷ []) (c.args.a *ℤ c.args.x) ≡ Err c.in_err-left.field-0.0 = grind (arith, to_z-of_z) in
    let e = left_refused c.args.a c.args.x c.args.b c.args.y c.in_err-left.field-0.0 h in
    grind arith

left : (c : In_ok-left) → answer is_owed (mul_op c.args.a c.args.x ∷ []) (c.args.a *ℤ c.args.x) ≡ Ok c.in_ok-left.left
left c = grind (arith, to_z-of_z)

pub returns-in_err-right : goal.returns-in_err-right
returns-in_err-right c =
    let h = left (goal.at.returns-in_err-right c).In_ok-left in
    let k : answer is_owed (mul_op c.args.b c.args.y ∷ []) (c.args.b *ℤ c.args.y) ≡ Err c.in_err-right.field-0.0 = grind (arith, to_z-of_z) in
    let e = right_refused c.args.a c.args.x c.args.b c.args.y c.in_ok-left.left c.in_err-right.field-0.0 h k in
    grind arith

pub returns : goal.returns
returns c =
    let h = left (goal.at.returns c).In_ok-left in
    let k : answer is_owed (mul_op c.args.b c.args.y ∷ []) (c.args.b *ℤ c.args.y) ≡ Ok c.in_ok-right.right = grind (arith, to_z-of_z) in
    let e = both_made c.args.a c.args.x c.args.b c.args.y c.in_ok-left.left c.in_ok-right.right h k in
    grind (arith, to_z-of_z)
