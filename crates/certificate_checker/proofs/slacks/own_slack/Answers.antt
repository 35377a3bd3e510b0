use Rattle.std.proofs.Common.{◌≡◌, ◌+◌, ◌∙◌, ◌-ℤ◌, neg_ℤ, ℕ, ℤ, arith, ap, to_z-of_z}
use Rattle.exact_forms.specs.Sums.{sum_to}
use Rattle.exact_forms.specs.Slacks.{shortfall}
use Rattle.certificate_checker.specs.Rows.{numbers}
use Rattle.certificate_checker.proofs.SmallSums.{read_128}
use Rattle.certificate_checker.proofs.SmallSlacks.{IsLessened, lessened_read, own_none, own_bound, own_more}
use Rattle.certificate_checker.proofs.slacks.own_slack.Goals as goal
use Rattle.certificate_checker.proofs.slacks.own_slack.Goals.{After-lesser_of_zero-left}

-- what is left less what the entry takes
lessened_here : (c : After-lesser_of_zero-left) (s : ℤ)
    → s ≡ numbers c.args.row.now c.args.last -ℤ sum_to c.loop-a.a (λ (k : ℕ). shortfall (numbers c.args.row.now k))
    → IsLessened s (numbers c.args.row.now c.args.last -ℤ sum_to c.loop-a.a (λ (k : ℕ). shortfall (numbers c.args.row.now k)))
    (numbers c.args.row.now c.loop-a.a) c.lesser_of_zero-left.result
lessened_here c s left =
    let a = c.loop-a.a in
    let x = numbers c.args.row.now in
    let small = c.requires.row a (omega (arith, c.loop-a-test.true)) in
    let back = read_128 (x a) (omega (arith, small)) in
    let taken : c.lesser_of_zero-left.result ≡ neg_ℤ (shortfall (x a)) = grind (arith, to_z-of_z, back) in
    lessened_read s (x c.args.last -ℤ sum_to a (λ k. shortfall (x k))) (x a) c.lesser_of_zero-left.result left
    (own_bound c.args.last a x c.requires.range (omega (arith, c.loop-a-test.true)) c.requires.row) small taken

pub loop-a-init : goal.loop-a-init
loop-a-init c =
    let x = numbers c.args.row.now in
    let small = c.requires.row c.args.last (omega arith) in
    record { left = read_128 (x c.args.last) (omega (arith, small)) ∙ own_none (x c.args.last) (λ k. shortfall (x k)) }

pub overflow_add-left : goal.overflow_add-left
overflow_add-left c = (lessened_here (goal.at.overflow_add-left c).After-lesser_of_zero-left _ c.loop-a.invariant.left).fits

pub loop-a-preserved : goal.loop-a-preserved
loop-a-preserved c =
    let made = lessened_here (goal.at.loop-a-preserved c).After-lesser_of_zero-left _ c.loop-a.invariant.left in
    record { left = made.value ∙ own_more c.args.last c.loop-a.a (numbers c.args.row.now) }

pub returns : goal.returns
returns c =
    let x = numbers c.args.row.now in
    let e : c.loop-a.a ≡ c.args.last = omega (arith, c.loop-a.auto.a-end, c.loop-a-test.false) in
    c.loop-a.invariant.left ∙ ap (λ (m : ℕ). x c.args.last -ℤ sum_to m (λ k. shortfall (x k))) e
