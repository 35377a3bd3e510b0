use Rattle.std.proofs.Common.{◌∙◌, ap₂}
use Rattle.std.specs.Ordering.{ordering_then}
use Rattle.std.specs.declared.cmp.Ordering.{Ordering}
use Rattle.unimodular_cone.specs.Paths.{place_order}
use Rattle.unimodular_cone.proofs.PackedOrder.{fields-order}
use Rattle.unimodular_cone.proofs.path.Path.by_place.Goals as goal

pub returns : goal.returns
returns c =
    c.then.ensures
    ∙ ap₂ (λ (a : Ordering) (b : Ordering). ordering_then a b) c.cmp.ensures c.cmp-2.ensures
    ∙ fields-order c.self.inside c.other.inside c.self.invariant c.other.invariant
    ∙ ap₂ place_order c.self.view_is c.other.view_is
