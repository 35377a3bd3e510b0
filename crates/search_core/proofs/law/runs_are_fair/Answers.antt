use Rattle.search_core.proofs.Kept.{take_keeps, offer_keeps, judge_keeps}
use Rattle.search_core.proofs.Finish.{start_is_kept, end_is_fair}
use Rattle.search_core.proofs.law.runs_are_fair.Goals as goal

pub returns : goal.returns
returns c = record { start = start_is_kept; take = take_keeps; offer = offer_keeps; judge = judge_keeps; end = end_is_fair }
