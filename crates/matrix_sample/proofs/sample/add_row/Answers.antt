use Rattle.std.proofs.Common.{ℕ, ◌+◌, ◌*◌, ◌∙◌, slice_index_or, refl, arith, get_or-set_other}
use Rattle.exact_forms.specs.Triangles.{triangle}
use Rattle.matrix_sample.proofs.SampleSums.{row_begins, row_start, part_more}
use Rattle.matrix_sample.proofs.sample.add_row.Goals as goal

pub loop-column-init : goal.loop-column-init
loop-column-init c = record { start = row_begins c.args.row; done = λ j l. absurd (omega arith); before = λ m l. refl; after = λ m l. refl }

pub loop-column-preserved : goal.loop-column-preserved
loop-column-preserved c =
    let now = c.loop-column in
    let begins = row_begins c.args.row in
    rw begins record {
      start = refl;
      done = part_more now.sums c.args.sums.now (triangle c.args.row) now.column
          (λ (j : ℕ). slice_index_or c.args.vector.now c.args.row 0 * slice_index_or c.args.vector.now j 0)
          (let s = row_start c.args.row c.requires.row in let l = now.auto.sums in let room = c.requires.room in omega arith)
          now.invariant.done now.invariant.after;
      before = λ m l. get_or-set_other now.sums (triangle c.args.row + now.column) m _ 0 (omega arith) ∙ now.invariant.before m l;
      after = λ m l. get_or-set_other now.sums (triangle c.args.row + now.column) m _ 0 (omega arith) ∙ now.invariant.after m (omega arith);
    }
