use Rattle.std.proofs.Common.{◌≡◌, ◌≤◌, ◌<◌, ◌*◌, ◌^◌, ◌∙◌, ◌-ℤ◌, neg_ℤ, nat_abs, ℤ, pos, length, arith, refl, ap, to_z, of_z, to_z-of_z, length-set}
use Rattle.std.proofs.Common.{get_or-set_other}
use Rattle.std.specs.Int.{w128}
use Rattle.exact_forms.specs.Slacks.{shortfall}
use Rattle.exact_forms.proofs.Lists.{more_set}
use Rattle.certificate_checker.specs.Rows.{numbers}
use Rattle.certificate_checker.proofs.SmallSums.{read_128}
use Rattle.certificate_checker.proofs.SmallSlacks.{IsLessened, lessened_read}
use Rattle.certificate_checker.proofs.slacks.lessen.Goals as goal
use Rattle.certificate_checker.proofs.slacks.lessen.Goals.{After-lesser_of_zero}

-- the slack less what the entry takes
lessened_here : (c : After-lesser_of_zero) → IsLessened (to_z w128 (of_z w128 (numbers c.loop-a.slacks c.loop-a.a))) (numbers c.loop-a.slacks c.loop-a.a)
    (numbers c.args.row.now c.loop-a.a) c.lesser_of_zero.result
lessened_here c =
    let a = c.loop-a.a in
    let x = numbers c.loop-a.slacks a in
    let y = numbers c.args.row.now a in
    let same : nat_abs x ≡ nat_abs (numbers c.args.slacks.now a) = ap nat_abs (c.loop-a.invariant.after a (omega arith)) in
    let old = c.requires.slacks a c.loop-a-test.true in
    let bound : nat_abs x ≤ 9 * 2 ^ 84 = omega (arith, same, old) in
    let small = c.requires.row a c.loop-a-test.true in
    let back = read_128 y (omega (arith, small)) in
    let taken : c.lesser_of_zero.result ≡ neg_ℤ (shortfall y) = grind (arith, to_z-of_z, back) in
    lessened_read _ x y c.lesser_of_zero.result (read_128 x (omega (arith, bound))) bound small taken

pub overflow_add-slacks : goal.overflow_add-slacks
overflow_add-slacks c = (lessened_here (goal.at.overflow_add-slacks c).After-lesser_of_zero).fits

pub loop-a-preserved : goal.loop-a-preserved
loop-a-preserved c =
    let a = c.loop-a.a in
    let room : a < length c.loop-a.slacks = omega (arith, c.loop-a.invariant.room, c.requires.range, c.loop-a-test.true) in
    record {
      room = length-set c.loop-a.slacks a _ ∙ c.loop-a.invariant.room;
      before = more_set (pos 0) c.loop-a.slacks (λ k. numbers c.args.slacks.now k -ℤ shortfall (numbers c.args.row.now k)) a a _ c.loop-a.invariant.before room
          refl
          ((lessened_here (goal.at.loop-a-preserved c).After-lesser_of_zero).value
          ∙ ap (λ (u : ℤ). u -ℤ shortfall (numbers c.args.row.now a)) (c.loop-a.invariant.after a (omega arith)));
      after = λ k l. get_or-set_other c.loop-a.slacks a k _ (pos 0) (λ e. absurd (omega arith)) ∙ c.loop-a.invariant.after k (omega arith);
    }
