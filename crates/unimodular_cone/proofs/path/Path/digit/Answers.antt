use Rattle.std.specs.Prelude.{◌<◌, length, List, Bool}
use Rattle.std.proofs.Common.{arith, ap, ◌∙◌}
use Rattle.std.proofs.lemmas.Nat.Bits.{shr_and_one}
use Rattle.unimodular_cone.specs.Paths.{digit_of, digit_at}
use Rattle.unimodular_cone.proofs.Packing.{len_is, field_digit}
use Rattle.unimodular_cone.proofs.path.Path.digit.Goals as goal

pub returns : goal.returns
returns c =
    let within : c.args.k < c.self.inside.len = omega (arith, ap length c.self.view_is, len_is c.self.inside c.self.invariant, c.requires) in
    shr_and_one _ _
    ∙ field_digit c.self.inside c.from.result c.args.k c.self.invariant within c.from.ensures
    ∙ ap (λ (d : List Bool). digit_of (digit_at d c.args.k)) c.self.view_is
