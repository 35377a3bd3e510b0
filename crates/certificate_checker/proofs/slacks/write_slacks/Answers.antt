use Rattle.std.proofs.Common.{◌≡◌, ◌<◌, ◌+◌, ◌^◌, ◌∙◌, ◌-ℤ◌, ℕ, nat_abs, length, arith, sym, ap, to_z, of_z, to_z-of_z, length-set}
use mir.Syntax.{w128}
use Rattle.exact_forms.specs.Sums.{sum_to}
use Rattle.exact_forms.specs.Slacks.{shortfall}
use Rattle.certificate_checker.specs.Rows.{numbers, at, from_half}
use Rattle.certificate_checker.specs.Dots.{products_with}
use Rattle.certificate_checker.specs.Leaves.{lessened}
use Rattle.certificate_checker.proofs.GramSums.{lessened_whole}
use Rattle.certificate_checker.proofs.SmallSums.{small_same}
use Rattle.certificate_checker.proofs.SmallSlacks.{half_small, row_small, lessened_bound, from_half_after, from_half_before, slacks_more}
use Rattle.certificate_checker.proofs.slacks.write_slacks.Goals as goal

pub lessen-requires-clause-row : goal.lessen-requires-clause-row
lessen-requires-clause-row c =
    let b = c.loop-b.b in
    let f = products_with c.args.n (at c.args.v.now) (at c.args.images.now) in
    let small = row_small c.args.n b (at c.args.v.now) (at c.args.images.now) c.requires.few c.loop-b-test.true c.requires.generators c.requires.images in
    small_same b (2 ^ 84) (numbers c.write_row.new.row) (f b) (λ k l. c.write_row.ensures k (omega arith)) (λ k l. small k (omega arith))

pub lessen-requires-clause-slacks : goal.lessen-requires-clause-slacks
lessen-requires-clause-slacks c = λ k l.
    let g = from_half (products_with c.args.n (at c.args.v.now) (at c.args.images.now)) in
    let b = c.loop-b.b in
    let e : nat_abs (numbers c.loop-b.slacks k) ≡ nat_abs (lessened g k b) = ap nat_abs (c.loop-b.invariant.slacks k l) in
    let bound = lessened_bound c.args.n g k b c.requires.few (omega (arith, l, c.loop-b-test.true)) (omega (arith, c.loop-b-test.true))
    (half_small c.args.n (at c.args.v.now) (at c.args.images.now) c.requires.few c.requires.generators c.requires.images) in
    omega (arith, e, bound)

pub own_slack-requires-clause-row : goal.own_slack-requires-clause-row
own_slack-requires-clause-row c =
    let b = c.loop-b.b in
    let f = products_with c.args.n (at c.args.v.now) (at c.args.images.now) in
    small_same (b + 1) (2 ^ 84) (numbers c.write_row.new.row) (f b) c.write_row.ensures
    (row_small c.args.n b (at c.args.v.now) (at c.args.images.now) c.requires.few c.loop-b-test.true c.requires.generators c.requires.images)

pub loop-b-preserved : goal.loop-b-preserved
loop-b-preserved c =
    let b = c.loop-b.b in
    let f = products_with c.args.n (at c.args.v.now) (at c.args.images.now) in
    let row = numbers c.write_row.new.row in
    let own : to_z w128 (of_z w128 c.own_slack.result) ≡ row b -ℤ sum_to b (λ a. shortfall (row a)) = grind (arith, to_z-of_z) in
    let room : b < length c.lessen.new.slacks = omega (arith, c.lessen.array_long, c.requires.few, c.loop-b-test.true) in
    record {
      row_room = c.write_row.array_long;
      room = length-set c.lessen.new.slacks b _ ∙ c.lessen.array_long;
      slacks = slacks_more b (from_half f) row c.loop-b.slacks c.lessen.new.slacks _ c.loop-b.invariant.slacks c.lessen.ensures own
          (λ a l. c.write_row.ensures a (omega arith) ∙ sym (from_half_after f a b l)) (λ a l. c.write_row.ensures a l
          ∙ sym (from_half_before f a b (omega arith))) room;
    }

pub returns : goal.returns
returns c = λ p l.
    let g = from_half (products_with c.args.n (at c.args.v.now) (at c.args.images.now)) in
    let e : c.loop-b.b ≡ c.args.n = omega (arith, c.loop-b.auto.b-end, c.loop-b-test.false) in
    c.loop-b.invariant.slacks p (omega arith) ∙ ap (lessened g p) e ∙ lessened_whole c.args.n g p
