use Rattle.std.proofs.Common.{◌∙◌}
use Rattle.symmetric_matrix.specs.Symmetric.{entry}
use Rattle.search_core.proofs.ShownFates.{shown_code_at, shown_least_at, fate_at}
use Rattle.search_core.proofs.machine.judgement_of_path.Goals as goal

pub judgement-requires-clause-below_code : goal.judgement-requires-clause-below_code
judgement-requires-clause-below_code c =
    rw (shown_code_at c.args.mode c.args.q.now.size (entry c.args.q.now) c.args.path.now c.fitting_cone.result c.n-n.ensures.matrix.positive
    c.fitting_cone.ensures) c.requires.below_code

pub returns : goal.returns
returns c = record {
  path_is = c.judgement.ensures.path_is ∙ c.fitting_cone.ensures.path_is;
  least_is = c.judgement.ensures.least_is
      ∙ shown_least_at c.args.q.now.size (entry c.args.q.now) c.args.path.now c.fitting_cone.result c.n-n.ensures.matrix.positive c.fitting_cone.ensures;
  fate = fate_at c.args.mode c.args.q.now.size (entry c.args.q.now) c.args.limit c.args.word c.args.path.now c.fitting_cone.result c.judgement.result.fate
      c.fitting_cone.ensures
      c.judgement.ensures.fate;
}
