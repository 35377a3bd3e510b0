use Rattle.std.proofs.Common.{arith, ◌∙◌}
use Rattle.serial_search.proofs.Stacks.{no_items}
use Rattle.serial_search.proofs.values.take_all.Goals as goal

pub loop-arena-preserved : goal.loop-arena-preserved
loop-arena-preserved c = record {
  size = c.drop_top.ensures.size ∙ c.loop-arena.invariant.size;
  depth = c.drop_top.ensures.depth ∙ c.loop-arena.invariant.depth;
}

pub returns : goal.returns
returns c = record { size = c.loop-arena.invariant.size; depth = c.loop-arena.invariant.depth; empty = no_items c.loop-arena.arena.cones (omega arith) }
