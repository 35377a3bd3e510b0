use Rattle.std.proofs.Common.{◌≡◌, ◌/◌, pos, nat_abs, rules, to_z, of_z, ap₂, ◌∙◌}
use Rattle.std.specs.Int.{w128}
use Rattle.std.proofs.lemmas.Int.{to_z-of_z}
use Rattle.matrix_text.proofs.clearing.numerator_at.Goals as goal

pub returns : goal.returns
returns c =
    let whole : to_z w128 (of_z w128 c.args.denominator) ≡ c.args.denominator = search (rules, to_z-of_z) in
    let fits : to_z w128 (of_z w128 c.den.result) ≡ c.den.result = search (rules, to_z-of_z) in
    let den : to_z w128 (of_z w128 c.den.result) ≡ pos c.args.entry.den = fits ∙ c.den.ensures.value in
    let part : c.part_of-factor.result ≡ pos (nat_abs c.args.denominator / c.args.entry.den) = c.part_of-factor.ensures
    ∙ ap₂ (λ x y. pos (nat_abs x / nat_abs y)) whole den in
    let keeps : to_z w128 (of_z w128 c.part_of-factor.result) ≡ c.part_of-factor.result = search (rules, to_z-of_z) in
    let factor : to_z w128 (of_z w128 c.part_of-factor.result) ≡ pos (nat_abs c.args.denominator / c.args.entry.den) = keeps ∙ part in
    let same : to_z w128 (of_z w128 c.num.result) ≡ c.num.result = search (rules, to_z-of_z) in
    let num : to_z w128 (of_z w128 c.num.result) ≡ c.args.entry.num = same ∙ c.num.ensures.value in
    record { ok = rw (num, factor) at c.multiply_at.ensures.ok; wide = rw (num, factor) at c.multiply_at.ensures.wide }
