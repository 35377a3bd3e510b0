use Rattle.std.specs.Prelude.{[]}
use Rattle.std.proofs.Common.{subst}
use Rattle.unimodular_cone.specs.declared.Mode.{Mode}
use Rattle.symmetric_matrix.specs.Symmetric.{entry}
use Rattle.unimodular_cone.specs.Shown.{IsFirstWideAt, IsWideWhere}
use Rattle.unimodular_cone.proofs.ShownAt.{root_fits}
use Rattle.serial_search.proofs.Holds.{wide_at_root, not_memory}
use Rattle.copositive_minimum.proofs.pooled.PooledSearcher.sign_shared.Goals as goal

pub run_pool_part-requires-clause-root : goal.run_pool_part-requires-clause-root
run_pool_part-requires-clause-root g c κs within = root_fits c.args.q.now.size (entry c.args.q.now) c.in-Ok._root c.in-Ok.ensures.made c.in-Ok.ensures.fits

pub settle_sign_part-requires-clause-fits : goal.settle_sign_part-requires-clause-fits
settle_sign_part-requires-clause-fits g c = root_fits c.args.q.now.size (entry c.args.q.now) c.in-Ok._root c.in-Ok.ensures.made c.in-Ok.ensures.fits

pub wide_entry-requires : goal.wide_entry-requires
wide_entry-requires g c = not_memory (IsFirstWideAt c.args.q.now.size (entry c.args.q.now) []) c.in-Err.fail c.in-Err.ensures.wide

pub returns-in-Err : goal.returns-in-Err
returns-in-Err g c = wide_at_root Mode.Sign c.args.q.now.size (entry c.args.q.now) c.args.limit c.wide_entry.result tt
    (subst (IsWideWhere (IsFirstWideAt c.args.q.now.size (entry c.args.q.now) [])) c.wide_entry.ensures c.in-Err.ensures.wide)
