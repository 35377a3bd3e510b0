use Rattle.std.proofs.Common.{ℕ, ◌*◌, ◌∙◌, slice_index_or, arith}
use Rattle.exact_forms.proofs.Triangles.{triangle_more}
use Rattle.matrix_sample.proofs.SampleSums.{rows_more}
use Rattle.matrix_sample.proofs.sample.add_products.Goals as goal

pub loop-row-preserved : goal.loop-row-preserved
loop-row-preserved c =
    let now = c.loop-row in
    let added = c.add_row.ensures in
    record {
      done = rows_more c.args.sums.now now.sums c.add_row.new.sums now.row
          (λ (i : ℕ) (j : ℕ). slice_index_or c.args.vector.now i 0 * slice_index_or c.args.vector.now j 0)
          now.invariant.done now.invariant.after added.row added.before;
      after = λ m l. (let t = triangle_more now.row in added.after m (omega arith) ∙ now.invariant.after m (omega arith));
    }
