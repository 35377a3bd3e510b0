use Rattle.search_core.proofs.Parts.{settled, ends_of, copositive_answer}
use Rattle.search_core.proofs.settling.settle_sign_part.Goals as goal

pub returns-in-Closed : goal.returns-in-Closed
returns-in-Closed c =
    copositive_answer (settled c.args.q.now (ends_of c.requires.part) c.requires.limited c.n-n.ensures.matrix.positive tt c.requires.fits)
    c.in-Closed.ensures.0 c.in-Closed.ensures.1

pub end_of-requires-clause-ends : goal.end_of-requires-clause-ends
end_of-requires-clause-ends c = ends_of c.requires.part
