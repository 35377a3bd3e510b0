use Rattle.std.proofs.Common.{arith, ap, ◌∙◌, map, [], ◌∷◌, None, Some}
use Rattle.symmetric_matrix.specs.Symmetric.{entry}
use Rattle.cone_pool.specs.Lots.{Lot, deque_of}
use Rattle.cone_pool.specs.Parts.{Member, IsWorkerPart}
use Rattle.cone_pool.proofs.Taking.{popped}
use Rattle.cone_pool.proofs.Gatherings.{no_tokens}
use Rattle.cone_pool.proofs.Reaching.{hand_in_tree}
use Rattle.cone_pool.proofs.Carrying.{took, reserved, restacked}
use Rattle.cone_pool.proofs.member.Member.finish.Goals.{In-Some}
use Rattle.cone_pool.proofs.member.Member.finish.Goals as goal

-- the member with a path that it took from its own deque
abbrev held : In-Some → Member
held c = record {
  number = c.loop.self.number;
  lot = c.pop.new.self;
  seat = c.loop.self.seat;
  judged = c.reserve.new.self;
  kept = c.loop.self.kept;
  cones = c.loop.self.cones;
}

taken : (c : In-Some) → IsWorkerPart c.args.mode c.args.q.now.size (entry c.args.q.now) c.args.limit (c.in-Some.path ∷ []) (held c)
taken c =
    took _ _ _ _ (c.in-Some.path ∷ []) _ _ (omega arith) c.loop.invariant.none
    (reserved _ _ _ _ [] c.loop.self c.reserve.new.self c.reserve.ensures.same c.loop.invariant.part)
    (popped _ (Some c.in-Some.path) c.pop.new.self c.in-Some.ensures)

pub ready-requires-clause-tree : goal.ready-requires-clause-tree
ready-requires-clause-tree c =
    let same = c.loop.invariant.same in
    hand_in_tree c.args.mode c.args.q.now.size (entry c.args.q.now) c.args.limit c.in-Some.path _
    (taken (goal.at.ready-requires-clause-tree c).In-Some) (same.number ∙ c.requires.number)
    (ap (λ (l : Lot). l.tokens) c.in-Some.ensures.0 ∙ no_tokens c.loop.self.lot.tokens (same.tokens ∙ ap (map deque_of) c.requires.tokens))
    (ap (λ (l : Lot). l.out) c.in-Some.ensures.0 ∙ same.out ∙ c.requires.out) c.in-Some.ensures.1

pub treat-requires-clause-part : goal.treat-requires-clause-part
treat-requires-clause-part c =
    restacked _ _ _ _ (c.in-Some.path ∷ []) _ c.ready.new.stack c.in_ok-ready-in-Some.ensures.cones (taken (goal.at.treat-requires-clause-part c).In-Some)

pub returns-in-None-clause-part : goal.returns-in-None-clause-part
returns-in-None-clause-part c =
    took _ _ _ _ [] _ _ (omega arith) c.loop.invariant.none
    (reserved _ _ _ _ [] c.loop.self c.reserve.new.self c.reserve.ensures.same c.loop.invariant.part) (popped _ None c.pop.new.self c.in-None.ensures)
