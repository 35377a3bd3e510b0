use Rattle.std.proofs.Common.{◌∙◌, ◌+◌, sym, ap, arith, ℕ}
use Rattle.exact_forms.proofs.Triangles.{triangle-zero}
use Rattle.extreme_ray.proofs.Making.{coefficients_none, coefficients_step, triangle_step, triangle_below}
use Rattle.extreme_ray.proofs.row.coefficients.Goals as goal

pub loop-i-init : goal.loop-i-init
loop-i-init c =
    record {
      made = coefficients_none c.args.tableau.now c.args.row c.new-coefficients.result.items c.new-coefficients.ensures.items;
      first = sym triangle-zero;
    }

pub push_coefficients-requires-clause-width : goal.push_coefficients-requires-clause-width
push_coefficients-requires-clause-width c = let a = triangle_below c.loop-i.i c.args.n c.args.tableau.now.width c.loop-i-test.true c.requires.width in let e =
    c.loop-i.invariant.first in omega arith

pub overflow_add-first-in-loop-i : goal.overflow_add-first-in-loop-i
overflow_add-first-in-loop-i c =
    record {
      fits = let a = triangle_below c.loop-i.i c.args.n c.args.tableau.now.width c.loop-i-test.true c.requires.width in
          let e = c.loop-i.invariant.first in let w = c.columns-columns.ensures in let f = c.columns-columns.type_inv in omega arith;
    }

pub loop-i-preserved : goal.loop-i-preserved
loop-i-preserved c = record {
  made = coefficients_step c.args.tableau.now c.args.row c.loop-i.i c.loop-i.coefficients.items c.push_coefficients.new.coefficients.items
      c.loop-i.invariant.made c.in_ok-push_coefficients.ensures;
  first = ap (λ (k : ℕ). k + (c.loop-i.i + 1)) c.loop-i.invariant.first ∙ triangle_step c.loop-i.i;
}
