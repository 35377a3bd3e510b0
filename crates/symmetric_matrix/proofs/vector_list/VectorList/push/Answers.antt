use Rattle.symmetric_matrix.proofs.Lists.{list_push}
use Rattle.symmetric_matrix.specs.Lists.{CanFollow}
use Rattle.std.proofs.Common.{subst, List, ℕ, sym}
use Rattle.symmetric_matrix.proofs.vector_list.VectorList.push.Goals as goal

pub invariant_of-self-2 : goal.invariant_of-self-2
invariant_of-self-2 c =
    let follows = subst (λ (xs : List (List ℕ)). CanFollow xs c.args.v.now) (sym c.self.view_is) c.requires in
    rw (c.in_ok-push.ensures.items, c.copy.ensures) (list_push c.self.inside.vectors.items c.args.v.now c.self.invariant follows)
