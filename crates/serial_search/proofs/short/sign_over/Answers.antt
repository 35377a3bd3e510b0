use Rattle.unimodular_cone.specs.declared.Mode.{Mode}
use Rattle.symmetric_matrix.specs.Symmetric.{entry}
use Rattle.unimodular_cone.proofs.ShownAt.{root_fits}
use Rattle.serial_search.proofs.Holds.{wide_at_root}
use Rattle.serial_search.proofs.short.sign_over.Goals as goal

pub settled_sign-requires-clause-fits : goal.settled_sign-requires-clause-fits
settled_sign-requires-clause-fits c =
    root_fits c.args.q.now.size (entry c.args.q.now) c.in-Ok.ensures.made.root c.in-Ok.ensures.made.is_root c.in-Ok.ensures.made.fits

pub returns-in-Err : goal.returns-in-Err
returns-in-Err c = wide_at_root Mode.Sign c.args.q.now.size (entry c.args.q.now) c.args.limit c.in-Err.at tt c.in-Err.ensures.wide
