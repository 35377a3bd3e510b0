use Rattle.std.proofs.Common.{◌≡◌, ◌*ℤ◌, ◌-ℤ◌, pos, nat_abs, to_z-of_z}
use Rattle.symmetric_matrix.proofs.Narrow.{read_128, read_64}
use Rattle.exact_linear.proofs.whole.cleared_whole.Goals as goal

pub returns-in-None-clause-value : goal.returns-in-None-clause-value
returns-in-None-clause-value c =
    let v = c.cleared_value-value in
    let value : v.result ≡ c.args.entry *ℤ pos (nat_abs c.args.scales.pivot) -ℤ c.args.factor *ℤ c.args.above =
    rw (to_z-of_z c.ranges.entry, to_z-of_z c.ranges.factor, to_z-of_z c.ranges.above) at v.ensures.value in
    rw (read_64 c.args.scales.den c.requires.scales.den_small, read_128 v.result v.ensures.small, value) at c.divided.ensures.value
