use Rattle.std.proofs.Common.{◌∙◌, ap}
use Rattle.extreme_ray.specs.Rays.{coefficients}
use Rattle.extreme_ray.proofs.Wholes.{cleared_lower_as}
use Rattle.extreme_ray.proofs.ray.by_row.Goals as goal

pub primitive-requires-clause-lower : goal.primitive-requires-clause-lower
primitive-requires-clause-lower c =
    cleared_lower_as c.args.table.now c.args.row c.args.n c.deref.result.now c.deref-in-Ok-cleared.result.now
    (c.deref.ensures.value ∙ c.in-Ok.ensures ∙ ap (coefficients c.args.table.now c.args.row) c.from.ensures) c.in-Ok-cleared.ensures.ok.0
    (c.deref-in-Ok-cleared.ensures.value ∙ c.in-Ok-cleared.ensures.ok.1)
