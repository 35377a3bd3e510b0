use Rattle.serial_search.proofs.Lows.{shallower_is}
use Rattle.serial_search.proofs.values.comes_first.Goals as goal

pub returns-in-Some : goal.returns-in-Some
returns-in-Some c = rw c.in-Some.is (rw c.is_lt.ensures (rw c.by_depth.ensures (shallower_is c.args.path.now c.in-Some.low.path)))
