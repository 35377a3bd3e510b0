use Rattle.serial_search.proofs.values.generator.Goals as goal

pub vector_of-requires-clause-small : goal.vector_of-requires-clause-small
vector_of-requires-clause-small g c = rw c.n.ensures.size c.coordinates_of.ensures.key.small
