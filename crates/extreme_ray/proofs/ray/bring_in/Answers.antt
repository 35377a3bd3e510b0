use Rattle.std.proofs.Common.{◌∙◌, sym}
use Rattle.extreme_ray.proofs.Answering.{entries_made, entry_refused}
use Rattle.extreme_ray.proofs.ray.bring_in.Goals as goal

pub returns-in-Ok-clause-ok : goal.returns-in-Ok-clause-ok
returns-in-Ok-clause-ok c = entries_made c.args.start c.in-Ok.table c.args.count (sym c.bring_in_first.ensures.made ∙ c.in-Ok.is)

pub returns-in-Err-clause-wide : goal.returns-in-Err-clause-wide
returns-in-Err-clause-wide c = entry_refused c.args.start c.args.count c.in-Err.op (sym c.bring_in_first.ensures.made ∙ c.in-Err.is)
