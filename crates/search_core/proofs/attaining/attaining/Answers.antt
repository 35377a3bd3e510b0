use Rattle.std.specs.Prelude.{pos}
use Rattle.symmetric_matrix.specs.Symmetric.{entry}
use Rattle.search_core.specs.Attaining.{IsVectorsOf, ListsGenerators}
use Rattle.search_core.proofs.Keys.{are_keys, lists_generators, if_ok}
use Rattle.search_core.proofs.attaining.attaining.Goals as goal

pub listed-requires-clause-keys : goal.listed-requires-clause-keys
listed-requires-clause-keys c = rw c.n.ensures.value (are_keys _ _ _ _ _ c.in_ok-found.ensures)

pub returns : goal.returns
returns c = if_ok c.listed.result (IsVectorsOf c.args.q.now.size c.in_ok-found.found.keys)
    (ListsGenerators c.args.q.now.size (entry c.args.q.now) c.args.judged.now (pos c.args.minimum))
    (λ vectors v. lists_generators c.args.q.now.size (entry c.args.q.now) c.args.judged.now (pos c.args.minimum) c.in_ok-found.found.keys vectors
    c.n.ensures.matrix.small c.in_ok-found.ensures v)
    (rw c.n.ensures.value at c.listed.ensures)
