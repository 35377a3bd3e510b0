use Rattle.std.proofs.Common.{◌≡◌, subst, ℤ, to_z, of_z}
use Rattle.std.proofs.lemmas.Int.{to_z-of_z}
use mir.Syntax.{w128}
use Rattle.perfect_walk.specs.Ends.{IsWalkedTo}
use Rattle.perfect_walk.specs.Parts.{task}
use Rattle.perfect_walk.proofs.OneWalk.{one_walk}
use Rattle.perfect_walk.proofs.walking.walk.Goals as goal

pub returns-clause-due : goal.returns-clause-due
returns-clause-due g c other h =
    one_walk (task c.args.s.now c.args.d c.args.limits.depth) c.args.limits.pivots c.walk_on.result
    (subst (λ (d : ℤ). IsWalkedTo (task c.args.s.now d c.args.limits.depth) c.args.limits.pivots c.walk_on.result)
    (to_z-of_z w128 c.args.d c.ranges.d) c.walk_on.ensures.answer) other h
