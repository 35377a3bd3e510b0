use Rattle.std.proofs.Common.{List, sym, subst}
use Rattle.exact_forms.specs.Factors.{WeightedVector}
use Rattle.fraction128.specs.Terms.{IsAfter}
use Rattle.fraction128.proofs.TermLists.{terms_push}
use Rattle.fraction128.proofs.weighted.Terms.push.Goals as goal

pub invariant_of-self-2 : goal.invariant_of-self-2
invariant_of-self-2 c =
    let after = subst (λ (terms : List WeightedVector). IsAfter terms c.args.term.vector) (sym c.self.view_is) c.requires.greater in
    rw c.in_ok-push.ensures.items (terms_push c.self.inside.items.items c.args.term c.self.invariant c.requires.positive after)
