use Rattle.symmetric_matrix.specs.Symmetric.{entry}
use Rattle.unimodular_cone.specs.declared.Mode.{Mode}
use Rattle.unimodular_cone.proofs.ShownAt.{root_fits}
use Rattle.serial_search.proofs.Holds.{wide_at_root}
use Rattle.serial_search.proofs.values.value_within.Goals as goal

pub returns-in-Err-clause-answer : goal.returns-in-Err-clause-answer
returns-in-Err-clause-answer c =
    wide_at_root Mode.Least c.args.q.now.size (entry c.args.q.now) c.args.limit c.in-Err.at c.requires.bound_fits c.in-Err.ensures.wide

pub first_walk-requires-clause-fits : goal.first_walk-requires-clause-fits
first_walk-requires-clause-fits c =
    root_fits c.args.q.now.size (entry c.args.q.now) c.in-Ok.ensures.made.root c.in-Ok.ensures.made.is_root c.in-Ok.ensures.made.fits

pub low_answer-requires-clause-fits : goal.low_answer-requires-clause-fits
low_answer-requires-clause-fits c =
    root_fits c.args.q.now.size (entry c.args.q.now) c.in-Ok.ensures.made.root c.in-Ok.ensures.made.is_root c.in-Ok.ensures.made.fits
