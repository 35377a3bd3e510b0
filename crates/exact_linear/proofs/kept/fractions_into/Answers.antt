use Rattle.std.proofs.Common.{◌≡◌, ◌∙◌, arith, sym, pos, to_z-of_z}
use Rattle.std.proofs.lemmas.Int.{ints}
use Rattle.exact_linear.proofs.KeptEntries.{kept_wholes, kept_fractions}
use Rattle.exact_linear.proofs.kept.fractions_into.Goals as goal

pub returns-then-den-gt0 : goal.returns-then-den-gt0
returns-then-den-gt0 c = (rw (to_z-of_z c.ranges.den) at c.write_fractions.ensures)
    ∙ sym (kept_wholes c.args.den c.args.wholes.now c.args.into.now (let t = c.if-den-gt0.true in omega (arith, ints, to_z-of_z c.ranges.den)))

pub returns-else-den-gt0 : goal.returns-else-den-gt0
returns-else-den-gt0 c =
    let none : c.args.den ≡ pos 0 = (let t = c.if-den-gt0.false in let k = c.requires.not_negative in omega (arith, ints, to_z-of_z c.ranges.den)) in
    rw none (sym (kept_fractions c.args.wholes.now c.args.into.now))
