use Rattle.search_core.proofs.Firsts.{earlier_is}
use Rattle.search_core.proofs.scan.comes_first.Goals as goal

pub returns-in-Some : goal.returns-in-Some
returns-in-Some c = rw c.in-Some.is (rw c.is_lt.ensures (rw c.by_place.ensures (earlier_is c.args.j.now.path c.in-Some.best.path)))
