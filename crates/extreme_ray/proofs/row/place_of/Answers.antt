use Rattle.std.proofs.Common.{length}
use Rattle.extreme_ray.specs.Rays.{is_name}
use Rattle.exact_linear.proofs.Seeking.{seek_found, seek_more, seek_done}
use Rattle.extreme_ray.proofs.Making.{name_yes, name_no}
use Rattle.extreme_ray.proofs.row.place_of.Goals as goal

pub returns-then-names-i : goal.returns-then-names-i
returns-then-names-i c =
    seek_found _ (is_name c.args.names.now c.args.name) c.loop-i.i (length c.args.names.now) c.loop-i.invariant c.loop-i-test.true
    (name_yes c.args.names.now c.args.name c.loop-i.i c.if-names-i.true)

pub loop-i-preserved : goal.loop-i-preserved
loop-i-preserved c =
    seek_more _ (is_name c.args.names.now c.args.name) c.loop-i.i (length c.args.names.now) c.loop-i.invariant c.loop-i-test.true
    (name_no c.args.names.now c.args.name c.loop-i.i c.if-names-i.false)

pub returns : goal.returns
returns c = seek_done _ (is_name c.args.names.now c.args.name) c.loop-i.i (length c.args.names.now) c.loop-i.invariant c.loop-i-test.false
