use Rattle.symmetric_matrix.specs.Symmetric.{entry}
use Rattle.unimodular_cone.proofs.ShownAt.{root_fits}
use Rattle.pool_rows.proofs.pool_tests.root_fits.Goals as goal

pub returns-in-Ok : goal.returns-in-Ok
returns-in-Ok c h = root_fits c.args.q.now.size (entry c.args.q.now) c.in-Ok.field-0 c.in-Ok.ensures.made c.in-Ok.ensures.fits
