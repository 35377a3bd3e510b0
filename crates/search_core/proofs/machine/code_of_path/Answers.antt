use Rattle.std.proofs.Common.{◌∙◌}
use Rattle.symmetric_matrix.specs.Symmetric.{entry}
use Rattle.search_core.proofs.ShownFates.{shown_code_at}
use Rattle.search_core.proofs.machine.code_of_path.Goals as goal

pub returns : goal.returns
returns c = c.code.ensures
    ∙ shown_code_at c.args.mode c.args.q.now.size (entry c.args.q.now) c.args.path.now c.fitting_cone.result c.n-n.ensures.matrix.positive
    c.fitting_cone.ensures
