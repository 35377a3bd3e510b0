use Rattle.std.specs.Prelude.{◌<◌, ◌^◌, pos, ◌<ℤ◌, FitsSigned}
use Rattle.std.specs.Int.{w128}
use Rattle.std.proofs.Common.{arith, rules, subst}
use Rattle.exact_forms.specs.Slacks.{IsClosed}
use Rattle.unimodular_cone.specs.Shown.{ShownCone, shown_gram}
use Rattle.unimodular_cone.proofs.NarrowParts.{not_closed_above, above_read}
use Rattle.unimodular_cone.proofs.slack_cone.SlackConeConeTests.closed.Goals as goal

pub returns-then-b : goal.returns-then-b
returns-then-b c =
    let cone : ShownCone = c.self.inside.cone in
    let some : 0 < cone.size = omega (arith, c.count-n.ensures.fits.some) in
    let fits : FitsSigned w128 c.args.b = search rules in
    let above : pos (2 ^ 59) <ℤ c.args.b = above_read c.args.b fits c.if-b.true in
    let never : ¬ IsClosed cone.size (shown_gram cone) c.args.b =
    not_closed_above cone.size (shown_gram cone) c.args.b some (c.count-n.ensures.narrow 0 0 some some) above in (
      λ t. absurd (cc),
      λ h. absurd (subst (λ (s : ShownCone). ¬ IsClosed s.size (shown_gram s) c.args.b) c.self.view_is never h),
    )
