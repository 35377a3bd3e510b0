use Rattle.std.specs.Prelude.{◌≡◌, ◌+◌, length, take, slice_set}
use Rattle.std.proofs.Common.{arith, ap, ◌∙◌, length-set}
use Rattle.cone_arena.specs.ShownRows.{ShownRows}
use Rattle.cone_arena.proofs.Laid.{rows_seen}
use Rattle.cone_arena.proofs.RowsLent.{rows_kept}
use Rattle.cone_arena.proofs.Tops.{same_row, top_split}
use Rattle.cone_arena.proofs.rows.Rows.split.Goals as goal

-- the rows as the slice has them are, up to the top, those from before
pub split_rows-requires-clause-splits : goal.split_rows-requires-clause-splits
split_rows-requires-clause-splits c d is =
    let f = c.self.inside in let xs = c.slice_mut.result.now in
    let all : xs ≡ c.fill_above.new.self.items = rows_seen f.cells.slots f.written xs c.self.invariant.laid c.slice_mut.ensures.value
    ∙ ap (λ (r : ShownRows). r.items) c.self.view_is in
    c.requires.splits d (is ∙ same_row xs c.args.self.now.items c.args.top d (ap (take (c.args.top + 1)) all ∙ c.fill_above.ensures.same))

pub invariant_of-self : goal.invariant_of-self
invariant_of-self c =
    let xs = c.slice_mut.result.now in let split = c.split_rows.ensures in
    let same : length c.split_rows.new.rows ≡ length xs = ap length split.rows ∙ length-set (slice_set xs c.args.top split.second) (c.args.top + 1) split.first
    ∙ length-set xs c.args.top split.second in
    (rows_kept c.self.inside xs c.split_rows.new.rows c.self.invariant c.slice_mut.ensures.value same).0

pub returns-clause-split : goal.returns-clause-split
returns-clause-split c =
    let f = c.self.inside in let xs = c.slice_mut.result.now in let split = c.split_rows.ensures in let top = c.args.top in let old = c.args.self.now.items in
    let all : xs ≡ c.fill_above.new.self.items = rows_seen f.cells.slots f.written xs c.self.invariant.laid c.slice_mut.ensures.value
    ∙ ap (λ (r : ShownRows). r.items) c.self.view_is in
    let agree : take (top + 1) xs ≡ take (top + 1) old = ap (take (top + 1)) all ∙ c.fill_above.ensures.same in
    let same : length c.split_rows.new.rows ≡ length xs = ap length split.rows ∙ length-set (slice_set xs top split.second) (top + 1) split.first
    ∙ length-set xs top split.second in
    let kept = rows_kept f xs c.split_rows.new.rows c.self.invariant c.slice_mut.ensures.value same in
    top_split old xs _ _ top _ _ agree (omega (arith, c.fill_above.ensures.filled, ap length all)) split kept.1
