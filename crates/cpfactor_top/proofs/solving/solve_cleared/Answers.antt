use Rattle.std.proofs.Common.{ℤ, ℕ, sym, subst}
use Rattle.std.proofs.lemmas.Int.{to_z-of_z}
use Rattle.std.specs.Int.{w128}
use Rattle.perfect_walk.specs.Ends.{IsWalked}
use Rattle.perfect_walk.specs.Parts.{task}
use Rattle.cpfactor_top.specs.Solving.{IsWalkAnswer}
use Rattle.cpfactor_top.specs.WalkTexts.{HasTree, IsWalkTold}
use Rattle.cpfactor_top.proofs.WalkAnswers.{if_ok_follows, right_has_tree, walk_is_right, walk_answered}
use Rattle.cpfactor_top.proofs.solving.solve_cleared.Given.{Over}
use Rattle.cpfactor_top.proofs.solving.solve_cleared.Goals.{After-walk-walked}
use Rattle.cpfactor_top.proofs.solving.solve_cleared.Goals as goal

-- the walk, of d as it was given
walk_here : (g : Over) (c : After-walk-walked g) → IsWalked (task c.args.s.now c.args.d c.args.limits.depth) c.args.limits.pivots c.walk-walked.result
walk_here g c =
    subst (λ (d : ℤ). IsWalked (task c.args.s.now d c.args.limits.depth) c.args.limits.pivots c.walk-walked.result) (to_z-of_z w128 c.args.d c.ranges.d)
    c.walk-walked.ensures.answer

pub walk_text-requires-clause-tree : goal.walk_text-requires-clause-tree
walk_text-requires-clause-tree g c =
    let walked = c.walk-walked.result in
    let walk = walk_here g (goal.at.walk_text-requires-clause-tree g c).After-walk-walked in
    subst (λ (n : ℕ). HasTree n c.args.limits.depth walked.end) (sym c.n.ensures.value)
    (right_has_tree c.args.a.now c.args.limits.depth walked.end
    (walk_is_right c.args.limits c.args.a.now c.args.s.now c.args.d c.requires.clearable c.requires.positive c.requires.cleared walked walk
    c.walk-walked.ensures.visits))

pub returns : goal.returns
returns g c =
    let walked = c.walk-walked.result in
    let walk = walk_here g (goal.at.returns g c).After-walk-walked in
    if_ok_follows (λ r. IsWalkTold c.args.trace c.args.limits c.n.result walked r.0 r.1.items)
    (λ r. IsWalkTold c.args.trace c.args.limits c.n.result walked r.0 r.1.items)
    (λ r. IsWalkAnswer c.args.trace c.args.limits c.args.a.now r.0 r.1.items) c.walk_text.result
    (λ r told same. walk_answered c.args.limits c.args.a.now c.args.s.now c.args.d c.requires.clearable c.requires.positive c.requires.cleared walked walk
    c.walk-walked.ensures.visits c.args.trace r.0 r.1.items
    (subst (λ (n : ℕ). IsWalkTold c.args.trace c.args.limits n walked r.0 r.1.items) c.n.ensures.value told))
    c.walk_text.ensures c.walk_text.ensures
