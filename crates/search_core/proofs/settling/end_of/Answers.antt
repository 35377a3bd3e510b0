use Rattle.symmetric_matrix.specs.Symmetric.{entry}
use Rattle.search_core.proofs.Parts.{IsSettled, settled, part_in_tree, named_end}
use Rattle.search_core.proofs.settling.end_of.Goals.{After-n-n}
use Rattle.search_core.proofs.settling.end_of.Goals as goal

here : (c : After-n-n) → IsSettled c.args.mode c.args.q.now.size (entry c.args.q.now) c.args.limit c.args.judged.now c.args.final_word
here c = settled c.args.q.now c.requires.ends c.requires.limited c.n-n.ensures.matrix.positive c.requires.bound_fits c.requires.fits

pub first_open-requires-clause-in_tree : goal.first_open-requires-clause-in_tree
first_open-requires-clause-in_tree c = part_in_tree _ _ _ _ _ _ (here (goal.at.first_open-requires-clause-in_tree c).After-n-n)

pub returns-in-Some : goal.returns-in-Some
returns-in-Some c =
    named_end (here (goal.at.returns-in-Some c).After-n-n) c.if-final_word-lt256.false c.in-Some.first c.open_end.result
    (rw c.bound_under.ensures at c.in-Some.ensures) c.open_end.ensures

pub returns-in-None : goal.returns-in-None
returns-in-None c = (c.if-final_word-lt256.false, rw c.bound_under.ensures at c.in-None.ensures)
