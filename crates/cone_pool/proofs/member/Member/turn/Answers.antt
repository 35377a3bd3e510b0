use Rattle.std.proofs.Common.{arith, [], ◌∷◌}
use Rattle.cone_pool.proofs.Carrying.{took, reserved}
use Rattle.cone_pool.proofs.member.Member.turn.Goals as goal

pub returns-then-is_err-clause-part : goal.returns-then-is_err-clause-part
returns-then-is_err-clause-part c = reserved _ _ _ _ [] c.args.self.now c.reserve.new.self c.reserve.ensures.same c.requires.part

pub returns-in-None-clause-part : goal.returns-in-None-clause-part
returns-in-None-clause-part c =
    took _ _ _ _ [] _ c.take.new.self (omega arith) c.requires.none
    (reserved _ _ _ _ [] c.args.self.now c.reserve.new.self c.reserve.ensures.same c.requires.part) c.in-None.ensures

pub handle-requires-clause-part : goal.handle-requires-clause-part
handle-requires-clause-part c =
    took _ _ _ _ (c.in-Some.path ∷ []) _ c.take.new.self (omega arith) c.requires.none
    (reserved _ _ _ _ [] c.args.self.now c.reserve.new.self c.reserve.ensures.same c.requires.part) c.in-Some.ensures
