use Rattle.unimodular_cone.specs.declared.Mode.{Mode}
use Rattle.symmetric_matrix.specs.Symmetric.{entry}
use Rattle.unimodular_cone.proofs.ShownAt.{root_fits}
use Rattle.serial_search.proofs.Holds.{wide_at_root}
use Rattle.serial_search.proofs.searcher.least_over.Goals as goal

pub settled_least-requires-clause-fits : goal.settled_least-requires-clause-fits
settled_least-requires-clause-fits c =
    root_fits c.args.q.now.size (entry c.args.q.now) c.in-Ok.ensures.made.root c.in-Ok.ensures.made.is_root c.in-Ok.ensures.made.fits

pub returns-in-Err : goal.returns-in-Err
returns-in-Err c = wide_at_root Mode.Least c.args.q.now.size (entry c.args.q.now) c.args.limit c.in-Err.at c.requires.bound_fits c.in-Err.ensures.wide
