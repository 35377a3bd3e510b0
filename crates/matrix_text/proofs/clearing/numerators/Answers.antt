use Rattle.std.proofs.Common.{◌≡◌, ◌<◌, ◌≤◌, nat_abs, length, rules, arith, to_z, of_z, refl, sym, ap, ◌∙◌}
use Rattle.std.specs.Int.{w128}
use Rattle.std.proofs.lemmas.Int.{to_z-of_z}
use Rattle.std.proofs.lemmas.Result.{err_from_is_err_and}
use Rattle.matrix_text.specs.Clearing.{numerators_over}
use Rattle.matrix_text.proofs.Clearings.{numerator_more, numerator_fails, numerator_done, numerator_whole, over_none, over_more, over_all, narrow_more}
use Rattle.matrix_text.proofs.Clearings.{product_narrow, within_after}
use Rattle.matrix_text.proofs.clearing.numerators.Goals as goal

pub loop-entry-init : goal.loop-entry-init
loop-entry-init c = record {
  left = refl;
  so_far = over_none (nat_abs (to_z w128 (of_z w128 c.args.denominator))) c.args.a.now.lower c.new-lower.result.items c.new-lower.ensures.items;
  fits = λ k lt. absurd (let len = ap length c.new-lower.ensures.items in omega (arith, len));
  place = record { row = omega arith; column = omega arith };
}

pub returns-in_err-numerator_at-clause-wide : goal.returns-in_err-numerator_at-clause-wide
returns-in_err-numerator_at-clause-wide c =
    let p = err_from_is_err_and c.from_residual.result c.from_residual.ensures.1 in
    let same : to_z w128 (of_z w128 c.args.denominator) ≡ c.args.denominator = search (rules, to_z-of_z) in
    let w = rw same at c.in_err-numerator_at.ensures.wide in
    let left = rw same at c.loop-entry.invariant.left in
    let value = c.lower-entry-items.ensures.value in
    let inside = rw value at c.loop-entry-test.true in
    let is = rw value at c.entry-item.is in
    rw (p.1, p.2, w.1)
    (sym (numerator_whole c.args.a.now (nat_abs c.args.denominator) (numerators_over (nat_abs c.args.denominator) c.args.a.now.lower)
    c.lower-entry-items.ensures.matrix) ∙ sym left
    ∙ numerator_fails c.args.a.now.lower c.loop-entry.entry-index c.loop-entry.place (nat_abs c.args.denominator) c.entry-item.result
    (numerators_over (nat_abs c.args.denominator) c.args.a.now.lower) inside is w.0)

pub loop-entry-preserved : goal.loop-entry-preserved
loop-entry-preserved c =
    let d = nat_abs (to_z w128 (of_z w128 c.args.denominator)) in
    let value = c.lower-entry-items.ensures.value in
    let inside = rw value at c.loop-entry-test.true in
    let is = rw value at c.entry-item.is in
    let ok = c.in_ok-numerator_at.ensures.ok in
    let fits : to_z w128 (of_z w128 c.in_ok-numerator_at.field-0) ≡ c.in_ok-numerator_at.field-0 = search (rules, to_z-of_z) in
    let pushed = rw fits at c.in_ok-push.ensures.items in
    record {
      left = numerator_more c.args.a.now.lower c.loop-entry.entry-index c.loop-entry.place c.next-place.result
          (nat_abs (to_z w128 (of_z w128 c.args.denominator))) c.entry-item.result
          (numerators_over (nat_abs (to_z w128 (of_z w128 c.args.denominator))) c.args.a.now.lower) inside is ok.0 c.next-place.ensures
          ∙ c.loop-entry.invariant.left;
      so_far = over_more (nat_abs (to_z w128 (of_z w128 c.args.denominator))) c.args.a.now.lower c.loop-entry.entry-index c.entry-item.result
          c.in_ok-numerator_at.field-0 c.loop-entry.lower.items c.push.new.self.items inside is ok.1
          c.loop-entry.invariant.so_far pushed;
      fits = narrow_more c.loop-entry.lower.items c.push.new.self.items c.in_ok-numerator_at.field-0 pushed
          (product_narrow c.entry-item.result.num _ c.in_ok-numerator_at.field-0 ok.0 ok.1) c.loop-entry.invariant.fits;
      place = within_after _ _ _ c.next-place.ensures c.loop-entry.invariant.place;
    }

pub returns-clause-ok : goal.returns-clause-ok
returns-clause-ok c =
    let same : to_z w128 (of_z w128 c.args.denominator) ≡ c.args.denominator = search (rules, to_z-of_z) in
    let left = rw same at c.loop-entry.invariant.left in
    let so_far = rw same at c.loop-entry.invariant.so_far in
    let value = c.lower-entry-items.ensures.value in
    let all : length c.args.a.now.lower ≤ c.loop-entry.entry-index = rw value at c.loop-entry-test.false in
    sym (numerator_whole c.args.a.now (nat_abs c.args.denominator) (numerators_over (nat_abs c.args.denominator) c.args.a.now.lower)
    c.lower-entry-items.ensures.matrix) ∙ sym left
    ∙ numerator_done c.args.a.now.lower c.loop-entry.entry-index c.loop-entry.place (nat_abs c.args.denominator)
    (numerators_over (nat_abs c.args.denominator) c.args.a.now.lower) all
    ∙ over_all (nat_abs c.args.denominator) c.args.a.now.lower c.loop-entry.entry-index c.loop-entry.lower.items all so_far
