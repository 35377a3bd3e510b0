use Rattle.std.proofs.Common.{◌≡◌, ◌/◌, pos, nat_abs, rules, to_z, of_z, ap₂, ◌∙◌}
use Rattle.std.specs.Int.{w128}
use Rattle.std.proofs.lemmas.Int.{to_z-of_z}
use Rattle.commutative_ring.specs.Gcd.{gcd_of}
use Rattle.commutative_ring.proofs.SmallCases.{at_least_one}
use Rattle.exact_forms.proofs.Rational.{den_positive}
use Rattle.matrix_text.proofs.Clearings.{gcd_some}
use Rattle.matrix_text.proofs.clearing.multiple_at.Goals as goal

pub part_of-factor-requires-clause-by : goal.part_of-factor-requires-clause-by
part_of-factor-requires-clause-by c =
    let num : to_z w128 (of_z w128 c.args.number) ≡ c.args.number = search (rules, to_z-of_z) in
    let fits : to_z w128 (of_z w128 c.den-2.result) ≡ c.den-2.result = search (rules, to_z-of_z) in
    let den : to_z w128 (of_z w128 c.den-2.result) ≡ pos c.args.entry.den = fits ∙ c.den-2.ensures.value in
    let divisor : c.gcd.result ≡ pos (gcd_of (nat_abs c.args.number) c.args.entry.den) = c.gcd.ensures.value
    ∙ ap₂ (λ x y. pos (gcd_of (nat_abs x) (nat_abs y))) num den in
    let same : to_z w128 (of_z w128 c.gcd.result) ≡ c.gcd.result = search (rules, to_z-of_z) in
    rw (same, divisor)
    (at_least_one (gcd_of (nat_abs c.args.number) c.args.entry.den) (gcd_some (nat_abs c.args.number) c.args.entry.den (den_positive c.args.entry)))

pub returns : goal.returns
returns c =
    let num : to_z w128 (of_z w128 c.args.number) ≡ c.args.number = search (rules, to_z-of_z) in
    let fits : to_z w128 (of_z w128 c.den.result) ≡ c.den.result = search (rules, to_z-of_z) in
    let fits_too : to_z w128 (of_z w128 c.den-2.result) ≡ c.den-2.result = search (rules, to_z-of_z) in
    let den : to_z w128 (of_z w128 c.den.result) ≡ pos c.args.entry.den = fits ∙ c.den.ensures.value in
    let den_too : to_z w128 (of_z w128 c.den-2.result) ≡ pos c.args.entry.den = fits_too ∙ c.den-2.ensures.value in
    let divisor : c.gcd.result ≡ pos (gcd_of (nat_abs c.args.number) c.args.entry.den) = c.gcd.ensures.value
    ∙ ap₂ (λ x y. pos (gcd_of (nat_abs x) (nat_abs y))) num den_too in
    let same : to_z w128 (of_z w128 c.gcd.result) ≡ c.gcd.result = search (rules, to_z-of_z) in
    let part : c.part_of-factor.result ≡ pos (c.args.entry.den / gcd_of (nat_abs c.args.number) c.args.entry.den) = c.part_of-factor.ensures
    ∙ ap₂ (λ x y. pos (nat_abs x / nat_abs y)) den (same ∙ divisor) in
    let keeps : to_z w128 (of_z w128 c.part_of-factor.result) ≡ c.part_of-factor.result = search (rules, to_z-of_z) in
    let factor : to_z w128 (of_z w128 c.part_of-factor.result) ≡ pos (c.args.entry.den / gcd_of (nat_abs c.args.number) c.args.entry.den) = keeps ∙ part in
    record { ok = rw (num, factor) at c.multiply_at.ensures.ok; wide = rw (num, factor) at c.multiply_at.ensures.wide }
