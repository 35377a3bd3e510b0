use Rattle.std.proofs.Common.{◌∙◌, ap, arith}
use Rattle.std.specs.Prelude.{FitsSigned, ◌<◌}
use Rattle.std.proofs.lemmas.Int.{ints, to_z-of_z}
use Rattle.std.specs.Int.{w128}
use Rattle.symmetric_matrix.specs.Symmetric.{entry}
use Rattle.search_core.specs.Fair.{start_of}
use Rattle.search_core.specs.Fates.{least_diagonal}
use Rattle.search_core.proofs.ShownFates.{least_of_diagonal}
use Rattle.search_core.proofs.words.start_word.Goals as goal

pub returns : goal.returns
unfolding least_diagonal
returns c =
    let l : c.least_diagonal.ensures.attained.0 < c.args.q.now.size = c.least_diagonal.ensures.attained.1 in
    let fits : FitsSigned w128 c.least_diagonal.result = omega (arith, ints) in
    c.start_of_least.ensures
    ∙ ap (start_of c.args.mode) (to_z-of_z w128 c.least_diagonal.result fits
    ∙ least_of_diagonal c.args.q.now.size (entry c.args.q.now) _ (omega arith) c.least_diagonal.ensures)
