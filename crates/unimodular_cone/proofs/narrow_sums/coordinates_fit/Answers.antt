use Rattle.std.specs.Prelude.{◌<◌, length}
use Rattle.std.proofs.Common.{arith, ap, ◌∙◌}
use Rattle.unimodular_cone.proofs.ShallowCoordinates.{shallow_fits}
use Rattle.unimodular_cone.proofs.narrow_sums.coordinates_fit.Goals as goal

pub returns-then-len-lt62 : goal.returns-then-len-lt62
returns-then-len-lt62 c =
    let lr : c.args.r < c.args.c.now.size = c.requires.first in
    let ls : c.args.s < c.args.c.now.size = c.requires.second in
    let depth = c.len.ensures.count ∙ ap length c.path.ensures in
    let short : length c.args.c.now.path < 62 = omega (arith, depth, c.if-len-lt62.true) in
    λ t. record {
      first = shallow_fits c.args.c.now c.args.r c.args.s lr ls c.count-n.ensures.shallow c.count-n.ensures.narrow short;
      second = shallow_fits c.args.c.now c.args.s c.args.r ls lr c.count-n.ensures.shallow c.count-n.ensures.narrow short;
    }
