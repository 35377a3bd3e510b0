use Rattle.std.proofs.Common.{◌∙◌, ap, sym, arith, length}
use Rattle.exact_forms.proofs.Triangles.{triangle-zero, triangle_more}
use Rattle.hot_paths.proofs.matrices.matrix.Goals as goal

pub loop-index-init : goal.loop-index-init
loop-index-init c =
    let none = ap length c.new-lower.ensures.items in
    record {
      rows = none ∙ sym triangle-zero;
      fits = λ k d lt. absurd (omega (arith, none));
    }

pub loop-index-preserved : goal.loop-index-preserved
loop-index-preserved c = record {
  rows = let more = triangle_more c.loop-index.index in omega (arith, more, c.loop-index.invariant.rows, c.in_ok-push_entries.ensures.count);
  fits = c.in_ok-push_entries.ensures.fits;
}
