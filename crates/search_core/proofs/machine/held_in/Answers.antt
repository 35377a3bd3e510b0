use Rattle.std.specs.Prelude.{◌<◌, length}
use Rattle.std.proofs.Common.{arith}
use Rattle.search_core.proofs.Steps.{in_hands_more}
use Rattle.search_core.proofs.machine.held_in.Goals as goal

pub loop-hand-preserved : goal.loop-hand-preserved
loop-hand-preserved c =
    let l : c.loop-hand.hand-index < length c.args.hands.now = omega arith in
    let more = in_hands_more c.args.hands.now c.loop-hand.hand-index c.hand-item.result l c.hand-item.is in
    (omega arith, omega arith)
