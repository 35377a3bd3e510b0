use Rattle.std.specs.Prelude.{◌≡◌, ◌<ℤ◌, ◌≤ℤ◌, ℤ, pos, ◌-ℤ◌, neg_ℤ, FitsSigned}
use Rattle.std.specs.Int.{w64}
use Rattle.std.proofs.Common.{arith, refl, sym, ◌∙◌, subst}
use Rattle.std.proofs.lemmas.Int.{ints, to_z-of_z}
use Rattle.exact_forms.proofs.Slacks.{shortfall_of_negative, shortfall_of_nonneg}
use Rattle.unimodular_cone.proofs.NarrowSums.{read_64}
use Rattle.unimodular_cone.proofs.Pairs.{test_true, test_false}
use Rattle.unimodular_cone.proofs.slack_numbers.shortfall_of.Goals as goal

pub returns-then-x-lt0 : goal.returns-then-x-lt0
returns-then-x-lt0 c =
    let back = read_64 c.args.x c.args.x refl c.requires in
    let negative : c.args.x <ℤ pos 0 = subst (λ (w : ℤ). w <ℤ pos 0) back (test_true _ _ c.if-x-lt0.true) in
    let fits : FitsSigned w64 (pos 0 -ℤ c.args.x) = omega (arith, ints, c.requires) in
    let less : pos 0 -ℤ c.args.x ≡ neg_ℤ c.args.x = omega (arith, ints) in
    rw back (to_z-of_z w64 (pos 0 -ℤ c.args.x) fits ∙ less ∙ sym (shortfall_of_negative c.args.x negative))

pub returns-else-x-lt0 : goal.returns-else-x-lt0
returns-else-x-lt0 c =
    let back = read_64 c.args.x c.args.x refl c.requires in
    sym (shortfall_of_nonneg c.args.x (subst (λ (w : ℤ). pos 0 ≤ℤ w) back (test_false _ _ c.if-x-lt0.false)))
