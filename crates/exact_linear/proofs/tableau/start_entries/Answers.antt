use Rattle.std.proofs.Common.{◌∙◌, arith}
use Rattle.exact_linear.proofs.StartTable.{start_cells_none, start_cells_more, start_cells_all}
use Rattle.exact_linear.proofs.tableau.start_entries.Goals as goal

pub loop-k-init : goal.loop-k-init
loop-k-init c = c.in_ok-entries.ensures.items ∙ start_cells_none c.args.rows c.args.width c.args.columns.now

pub loop-k-preserved : goal.loop-k-preserved
loop-k-preserved c =
    start_cells_more c.args.rows c.args.width c.args.columns.now c.loop-k.k c.loop-k.entries.items c.push.new.self.items c.start_entry.result
    c.loop-k.invariant c.start_entry.ensures c.in_ok-push.ensures.items

pub returns : goal.returns
returns c = start_cells_all c.args.rows c.args.width c.args.columns.now c.loop-k.k c.loop-k.entries.items c.loop-k.invariant (let a = c.loop-k-test.false in
    let b = c.loop-k.auto.k-end in omega arith)
