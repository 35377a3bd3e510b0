use Rattle.std.specs.Prelude.{◌≡◌, ◌≤◌, ◌+◌, ◌^◌, nat_abs}
use Rattle.std.specs.Int.{w64}
use Rattle.std.proofs.Common.{arith, sym, to_z, of_z}
use Rattle.unimodular_cone.specs.Shown.{shown_gram}
use Rattle.unimodular_cone.proofs.NarrowSums.{read_64}
use Rattle.unimodular_cone.proofs.BestPairs.{row_start, best_more}
use Rattle.unimodular_cone.proofs.narrow_pair.best_beyond.Goals as goal

pub loop-column-init : goal.loop-column-init
loop-column-init c = record { best = c.requires.best; pair = sym (row_start (shown_gram c.args.c.now) c.args.row (c.args.row + 1) _ (omega arith)) }

pub loop-column-preserved : goal.loop-column-preserved
loop-column-preserved c =
    let small : nat_abs (shown_gram c.args.c.now c.args.row c.loop-column.column) ≤ 2 ^ 59 = rw (← c.entry.ensures.value) c.entry.ensures.narrow in
    let e : to_z w64 (of_z w64 c.entry.result) ≡ shown_gram c.args.c.now c.args.row c.loop-column.column = read_64 _ _ c.entry.ensures.value small in
    best_more _ _ _ _ _ _ _ c.better_of-best.ensures e (omega arith) c.loop-column.invariant
