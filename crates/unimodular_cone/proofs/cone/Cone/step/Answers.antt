use Rattle.std.specs.Prelude.{◌≡◌, ◌-◌, ℕ, nat_eq}
use Rattle.std.proofs.Common.{arith, subst}
use Rattle.std.proofs.lemmas.Grind.{common_steps}
use Rattle.unimodular_cone.specs.Shown.{FitsOnSide, IsChild}
use Rattle.unimodular_cone.proofs.ShownAt.{exact_child_of}
use Rattle.unimodular_cone.proofs.cone.Cone.step.Goals as goal

pub replace-requires-clause-fits : goal.replace-requires-clause-fits
replace-requires-clause-fits c = subst (λ (d : ℕ). FitsOnSide c.args.self.now (c.args.i - 1) (c.args.j - 1) (nat_eq d 1)) c.if-side-eq0.true c.requires.fits

pub replace-requires-else-side-eq0-clause-fits : goal.replace-requires-else-side-eq0-clause-fits
replace-requires-else-side-eq0-clause-fits c =
    let one : c.args.side ≡ 1 = omega arith in
    subst (λ (d : ℕ). FitsOnSide c.args.self.now (c.args.i - 1) (c.args.j - 1) (nat_eq d 1)) one c.requires.fits

pub returns-then-side-eq0-clause-exact : goal.returns-then-side-eq0-clause-exact
returns-then-side-eq0-clause-exact c =
    let made : IsChild c.args.self.now (c.args.i - 1) (c.args.j - 1) (nat_eq c.args.side 1) c.replace.new.self = grind (arith, common_steps) in
    exact_child_of _ _ _ _ _ c.requires.first c.requires.order c.requires.last made

pub returns-else-side-eq0-clause-exact : goal.returns-else-side-eq0-clause-exact
returns-else-side-eq0-clause-exact c =
    let made : IsChild c.args.self.now (c.args.i - 1) (c.args.j - 1) (nat_eq c.args.side 1) c.replace-else-side-eq0.new.self = grind (arith, common_steps) in
    exact_child_of _ _ _ _ _ c.requires.first c.requires.order c.requires.last made
