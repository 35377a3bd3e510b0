use Rattle.std.proofs.Common.{◌≡◌, ◌<◌, ◌≤◌, length, rules, to_z, of_z, refl, sym, ◌∙◌}
use Rattle.std.specs.Int.{w128}
use Rattle.std.proofs.lemmas.Int.{to_z-of_z}
use Rattle.std.proofs.lemmas.Result.{err_from_is_err_and}
use Rattle.matrix_text.proofs.Clearings.{denominator_more, denominator_fails, denominator_done, denominator_whole, product_positive, product_narrow}
use Rattle.matrix_text.proofs.Clearings.{within_after}
use Rattle.matrix_text.proofs.clearing.common_denominator.Goals as goal

pub returns-in_err-common-clause-wide : goal.returns-in_err-common-clause-wide
returns-in_err-common-clause-wide c =
    let p = err_from_is_err_and c.from_residual.result c.from_residual.ensures.1 in
    let w = c.in_err-common.ensures.wide in
    let value = c.lower-entry-items.ensures.value in
    let inside = rw value at c.loop-entry-test.true in
    let is = rw value at c.entry-item.is in
    rw (p.1, p.2, w.1)
    (sym (denominator_whole c.args.a.now c.lower-entry-items.ensures.matrix) ∙ sym c.loop-entry.invariant.left
    ∙ denominator_fails c.args.a.now.lower c.loop-entry.entry-index c.loop-entry.place (to_z w128 c.loop-entry.common-bits) c.entry-item.result inside is
    c.loop-entry.invariant.positive w.0)

pub loop-entry-preserved : goal.loop-entry-preserved
loop-entry-preserved c =
    let value = c.lower-entry-items.ensures.value in
    let inside = rw value at c.loop-entry-test.true in
    let is = rw value at c.entry-item.is in
    let ok = c.in_ok-common.ensures.ok in
    let fits : to_z w128 (of_z w128 c.in_ok-common.common) ≡ c.in_ok-common.common = search (rules, to_z-of_z) in
    let left = denominator_more c.args.a.now.lower c.loop-entry.entry-index c.loop-entry.place c.next-place.result (to_z w128 c.loop-entry.common-bits)
    c.in_ok-common.common c.entry-item.result inside is
    c.loop-entry.invariant.positive ok.0 ok.1 c.next-place.ensures ∙ c.loop-entry.invariant.left in
    let positive =
    product_positive (to_z w128 c.loop-entry.common-bits) _ c.in_ok-common.common c.entry-item.result c.loop-entry.invariant.positive refl ok.1 in
    let narrow = product_narrow (to_z w128 c.loop-entry.common-bits) _ c.in_ok-common.common ok.0 ok.1 in
    record {
      left = rw fits left;
      positive = rw fits positive;
      fits = rw fits narrow;
      place = within_after _ _ _ c.next-place.ensures c.loop-entry.invariant.place;
    }

pub returns-clause-ok : goal.returns-clause-ok
returns-clause-ok c =
    let value = c.lower-entry-items.ensures.value in
    let all : length c.args.a.now.lower ≤ c.loop-entry.entry-index = rw value at c.loop-entry-test.false in
    sym (denominator_whole c.args.a.now c.lower-entry-items.ensures.matrix) ∙ sym c.loop-entry.invariant.left
    ∙ denominator_done c.args.a.now.lower c.loop-entry.entry-index c.loop-entry.place (to_z w128 c.loop-entry.common-bits) all c.loop-entry.invariant.positive
