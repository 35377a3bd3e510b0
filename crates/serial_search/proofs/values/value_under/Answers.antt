use Rattle.symmetric_matrix.specs.Symmetric.{entry}
use Rattle.serial_search.proofs.Reached.{no_wide_root}
use Rattle.serial_search.proofs.values.value_under.Goals as goal

pub unreachable-requires : goal.unreachable-requires
unreachable-requires c = no_wide_root c.args.q.now.size (entry c.args.q.now) _ c.requires.final_word.clear.root_fits c.in_default.ensures.wide
