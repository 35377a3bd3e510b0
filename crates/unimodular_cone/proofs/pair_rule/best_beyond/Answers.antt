use Rattle.std.specs.Prelude.{◌≡◌, ◌≤◌, ◌+◌, ◌^◌, nat_abs}
use Rattle.std.specs.Int.{w128}
use Rattle.std.proofs.Common.{arith, sym, to_z, of_z}
use Rattle.unimodular_cone.specs.Shown.{shown_gram}
use Rattle.unimodular_cone.proofs.ShownLaws.{gram_within}
use Rattle.unimodular_cone.proofs.PartSlack.{read_back}
use Rattle.unimodular_cone.proofs.BestPairs.{row_start, best_more}
use Rattle.unimodular_cone.proofs.pair_rule.best_beyond.Goals as goal

pub loop-column-init : goal.loop-column-init
loop-column-init g c =
    record { best = c.requires.best; pair = sym (row_start (shown_gram (g.C.ConeRead.cone c.args.c.now)) c.args.row (c.args.row + 1) _ (omega arith)) }

pub loop-column-preserved : goal.loop-column-preserved
loop-column-preserved g c =
    let small : nat_abs (shown_gram (g.C.ConeRead.cone c.args.c.now) c.args.row c.loop-column.column) ≤ 2 ^ 100 =
    gram_within _ _ _ c.requires.fits (omega arith) (omega arith) in
    let e : to_z w128 (of_z w128 c.entry.result) ≡ shown_gram (g.C.ConeRead.cone c.args.c.now) c.args.row c.loop-column.column =
    read_back _ _ c.entry.ensures small in
    best_more _ _ _ _ _ _ _ c.better_of-best.ensures e (omega arith) c.loop-column.invariant
