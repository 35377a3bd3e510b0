use Rattle.std.proofs.Common.{◌*ℤ◌, ◌-ℤ◌, nat_abs, sym, ◌∙◌, ap, ap₂, ℤ, pos, to_z-of_z}
use Rattle.symmetric_matrix.proofs.Narrow.{read_64}
use Rattle.commutative_ring.proofs.SmallCases.{pos_abs, positive_abs}
use Rattle.exact_forms.specs.Rational.{ratio}
use Rattle.exact_linear.specs.Whole.{turned}
use Rattle.exact_linear.proofs.NothingOwed.{abs_positive}
use Rattle.exact_linear.proofs.Results.{if_some_map}
use Rattle.exact_linear.proofs.WholeEntries.{whole_other}
use Rattle.exact_linear.proofs.whole.new_whole.Goals as goal
use Rattle.exact_linear.proofs.Exchanges.{new_here}

pub returns-then-i-row-clause-value : goal.returns-then-i-row-clause-value
returns-then-i-row-clause-value c =
    let pivot : ℤ = c.args.scales.pivot in
    let den = nat_abs c.args.scales.den in
    new_here c.args.row c.args.i (ratio c.args.entry den) (ratio c.args.factor den) (ratio (turned pivot c.args.above) (nat_abs pivot)) c.if-i-row.true
    ∙ ap (λ (z : ℤ). ratio z (nat_abs pivot))
    (sym (read_64 c.with_sign-above.result c.with_sign-above.ensures.small
    ∙ (rw (read_64 pivot c.requires.scales.small, to_z-of_z c.ranges.above) at c.with_sign-above.ensures.value)))

pub returns-else-i-row-clause-value : goal.returns-else-i-row-clause-value
returns-else-i-row-clause-value c =
    let pivot : ℤ = c.args.scales.pivot in
    let den : ℤ = c.args.scales.den in
    if_some_map c.cleared_whole.result (λ q e.
    whole_other c.args.row c.args.i (nat_abs den) (nat_abs pivot) c.args.entry c.args.factor (turned pivot c.args.above) q c.if-i-row.false
    (positive_abs den c.requires.scales.den_positive) (abs_positive pivot c.requires.scales.some)
    (ap (λ (d : ℤ). q *ℤ d) (pos_abs den c.requires.scales.den_positive) ∙ e
    ∙ ap (λ (y : ℤ). c.args.entry *ℤ pos (nat_abs pivot) -ℤ c.args.factor *ℤ y)
    (rw (read_64 pivot c.requires.scales.small, to_z-of_z c.ranges.above) at c.with_sign-above.ensures.value)))
    (rw (to_z-of_z c.ranges.entry, to_z-of_z c.ranges.factor, read_64 c.with_sign-above.result c.with_sign-above.ensures.small) at
    c.cleared_whole.ensures.value)
