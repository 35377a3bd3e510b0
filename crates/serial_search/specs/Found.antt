-- What a search found.
--
--     IsFairSearch m q d found   the judgements are of a fair search of Q to depth d, with its final word, and have the low ones and
--                                the ends; the keys are those of the generators that attain the final bound
use Rattle.std.specs.Prelude.{ℕ}
use Rattle.symmetric_matrix.specs.Symmetric.{Symmetric, entry}
use Rattle.unimodular_cone.specs.declared.Mode.{Mode}
use Rattle.search_core.specs.Noting.{IsFairNoted}
use Rattle.serial_search.specs.declared.search.Judgements.{Judgements}

abbrev pub IsFairSearch : Mode → Symmetric → ℕ → Judgements → Type 0
IsFairSearch m q d found = IsFairNoted m q.size (entry q) d found.judged.items found.attaining.keys found.final_word
