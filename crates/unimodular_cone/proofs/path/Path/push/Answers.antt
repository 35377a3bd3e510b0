use Rattle.std.specs.Prelude.{◌<◌, length}
use Rattle.std.proofs.Common.{arith, ap}
use Rattle.unimodular_cone.proofs.Packing.{len_is, pushed_fits, pushed_packed, pushed_digits}
use Rattle.unimodular_cone.proofs.path.Path.push.Goals as goal

pub overflow_add-self : goal.overflow_add-self
overflow_add-self c =
    let room : c.self.inside.len < 200 = omega (arith, ap length c.self.view_is, len_is c.self.inside c.self.invariant) in
    rw c.from.ensures (omega (arith, pushed_fits c.self.inside c.from-2.result c.args.side c.self.invariant room c.requires.digit c.from-2.ensures))

pub invariant_of-self : goal.invariant_of-self
invariant_of-self c =
    let room : c.self.inside.len < 200 = omega (arith, ap length c.self.view_is, len_is c.self.inside c.self.invariant) in
    rw c.from.ensures (pushed_packed c.self.inside c.from-2.result c.args.side c.self.invariant room c.requires.digit c.from-2.ensures)

pub returns : goal.returns
returns c =
    let room : c.self.inside.len < 200 = omega (arith, ap length c.self.view_is, len_is c.self.inside c.self.invariant) in
    rw (c.from.ensures, ← c.self.view_is) (pushed_digits c.self.inside c.from-2.result c.args.side c.self.invariant room c.requires.digit c.from-2.ensures)
