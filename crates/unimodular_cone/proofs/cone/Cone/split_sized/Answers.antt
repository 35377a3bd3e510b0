use Rattle.std.specs.Prelude.{true, false}
use Rattle.std.proofs.Common.{arith}
use Rattle.std.proofs.lemmas.Grind.{common_steps}
use Rattle.unimodular_cone.specs.Shown.{IsChild}
use Rattle.unimodular_cone.proofs.ShownAt.{exact_child}
use Rattle.unimodular_cone.proofs.cone.Cone.split_sized.Goals as goal

pub returns-clause-exact_zero : goal.returns-clause-exact_zero
returns-clause-exact_zero c =
    let made : IsChild c.args.self.now c.args.r c.args.s false c.put.new.self = grind (arith, common_steps) in
    exact_child _ _ _ _ _ c.requires.order (omega (arith, c.requires.last, c.requires.size)) made

pub returns-clause-exact_one : goal.returns-clause-exact_one
returns-clause-exact_one c =
    let made : IsChild c.args.self.now c.args.r c.args.s true c.put-2.new.self = grind (arith, common_steps) in
    exact_child _ _ _ _ _ c.requires.order (omega (arith, c.requires.last, c.requires.size)) made
