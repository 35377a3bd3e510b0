use Rattle.std.proofs.Common.{◌≡◌, ◌∙◌, ap, ap₂, sym, ℤ, ◌+ℤ◌, ◌*ℤ◌, to_z, of_z, to_z-of_z}
use mir.Syntax.{w64, w128}
use Rattle.std.proofs.lemmas.Int.{fits_signed_from_abs}
use Rattle.certificate_checker.specs.Rows.{numbers}
use Rattle.certificate_checker.specs.Dots.{dot}
use Rattle.certificate_checker.proofs.DotSums.{dot_zero, dot_more}
use Rattle.certificate_checker.proofs.SmallSums.{sum_in_128, product_read_128}
use Rattle.certificate_checker.proofs.slacks.dot.Goals as goal

pub loop-k-init : goal.loop-k-init
loop-k-init c = record { sum = sym (dot_zero (numbers c.args.x.now) (numbers c.args.y.now)) }

pub overflow_add-sum : goal.overflow_add-sum
overflow_add-sum c =
    let x = numbers c.args.x.now in
    let y = numbers c.args.y.now in
    let k = c.loop-k.k in
    let e = ap₂ (λ (a : ℤ) (b : ℤ). a +ℤ b) c.loop-k.invariant.sum (product_read_128 c.args.n k x y c.loop-k-test.true c.requires.left c.requires.right) in
    rw (e) (fits_signed_from_abs w128 (dot k x y +ℤ x k *ℤ y k) (sum_in_128 c.args.n k x y c.requires.few c.loop-k-test.true c.requires.left c.requires.right))

pub loop-k-preserved : goal.loop-k-preserved
loop-k-preserved c =
    let x = numbers c.args.x.now in
    let y = numbers c.args.y.now in
    let k = c.loop-k.k in
    let e = ap₂ (λ (a : ℤ) (b : ℤ). a +ℤ b) c.loop-k.invariant.sum (product_read_128 c.args.n k x y c.loop-k-test.true c.requires.left c.requires.right) in
    let fits = fits_signed_from_abs w128 (dot k x y +ℤ x k *ℤ y k)
    (sum_in_128 c.args.n k x y c.requires.few c.loop-k-test.true c.requires.left c.requires.right) in
    record { sum = ap (λ (z : ℤ). to_z w128 (of_z w128 z)) e ∙ to_z-of_z fits ∙ sym (dot_more k x y) }
