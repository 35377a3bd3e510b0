use Rattle.std.specs.Prelude.{int_le}
use Rattle.std.specs.List.{list_all, range_with_len}
use Rattle.std.proofs.Common.{◌≡◌, ◌∙◌, ℕ, pos, arith, sym, ap, to_z-of_z}
use Rattle.exact_forms.specs.Slacks.{slack}
use Rattle.certificate_checker.specs.Rows.{numbers, at, from_half}
use Rattle.certificate_checker.specs.Dots.{products_with}
use Rattle.certificate_checker.specs.Leaves.{is_closed}
use Rattle.certificate_checker.proofs.SmallSlacks.{not_closed, closed_goes_on}
use Rattle.certificate_checker.proofs.slacks.is_closed.Goals as goal

pub returns-then-slacks-a-lt0 : goal.returns-then-slacks-a-lt0
returns-then-slacks-a-lt0 c =
    let g = from_half (products_with c.args.n (at c.args.v.now) (at c.args.images.now)) in
    not_closed c.args.n g c.loop-a.a (numbers c.write_slacks.new.slacks c.loop-a.a) c.loop-a-test.true (c.write_slacks.ensures c.loop-a.a c.loop-a-test.true)
    (grind (arith, to_z-of_z))

pub loop-a-preserved : goal.loop-a-preserved
loop-a-preserved c =
    let g = from_half (products_with c.args.n (at c.args.v.now) (at c.args.images.now)) in
    record {
      closed = closed_goes_on c.args.n g c.loop-a.a (numbers c.write_slacks.new.slacks c.loop-a.a) c.loop-a.invariant.closed
          (c.write_slacks.ensures c.loop-a.a c.loop-a-test.true) (grind (arith, to_z-of_z));
    }

pub returns : goal.returns
unfolding is_closed
returns c =
    let g = from_half (products_with c.args.n (at c.args.v.now) (at c.args.images.now)) in
    let e : c.loop-a.a ≡ c.args.n = omega (arith, c.loop-a.auto.a-end, c.loop-a-test.false) in
    sym c.loop-a.invariant.closed ∙ ap (λ (k : ℕ). list_all (λ a. int_le (pos 0) (slack c.args.n g a)) (range_with_len 0 k)) e
