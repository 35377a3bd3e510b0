use Rattle.std.specs.Prelude.{◌≡◌, ◌<◌, length, take}
use Rattle.std.proofs.Common.{arith, ap, ◌∙◌, length-set}
use Rattle.circular_buffer.specs.Places.{somes}
use Rattle.cone_arena.proofs.Laid.{rows_seen, first_set}
use Rattle.cone_arena.proofs.RowsLent.{rows_kept}
use Rattle.cone_arena.proofs.rows.Rows.put_first.Goals as goal

pub invariant_of-self : goal.invariant_of-self
invariant_of-self c =
    let xs = c.slice_mut.result.now in
    (rows_kept c.self.inside xs c.write_first.new.rows c.self.invariant c.slice_mut.ensures.value (ap length c.write_first.ensures
    ∙ length-set xs 0 c.args.cone)).0

pub returns-clause-first : goal.returns-clause-first
returns-clause-first c =
    let f = c.self.inside in let xs = c.slice_mut.result.now in
    let all : xs ≡ somes f.cells.slots = rows_seen f.cells.slots f.written xs c.self.invariant.laid c.slice_mut.ensures.value in
    let kept = rows_kept f xs c.write_first.new.rows c.self.invariant c.slice_mut.ensures.value (ap length c.write_first.ensures
    ∙ length-set xs 0 c.args.cone) in
    let some : 0 < length xs = omega (arith, c.if-self-eq0.false, ap length all, c.self.invariant.laid.count) in
    ap (take 1) (kept.1 ∙ c.write_first.ensures) ∙ first_set xs c.args.cone some
