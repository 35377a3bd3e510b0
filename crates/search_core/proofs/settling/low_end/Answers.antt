use Rattle.std.specs.Prelude.{FitsSigned}
use Rattle.std.specs.Int.{w128}
use Rattle.std.proofs.Common.{arith}
use Rattle.std.proofs.lemmas.Int.{ints, to_z-of_z}
use Rattle.symmetric_matrix.specs.Symmetric.{entry}
use Rattle.search_core.proofs.Parts.{IsSettled, settled, part_in_tree, some_low_part, low_end_answer}
use Rattle.search_core.proofs.settling.low_end.Goals.{After-n-n}
use Rattle.search_core.proofs.settling.low_end.Goals as goal

here : (c : After-n-n) → IsSettled c.args.mode c.args.q.now.size (entry c.args.q.now) c.args.limit c.args.judged.now c.args.depth
here c = settled c.args.q.now c.requires.ends c.requires.limited c.n-n.ensures.matrix.positive c.requires.bound_fits c.requires.fits

pub unreachable-requires : goal.unreachable-requires
unreachable-requires c = some_low_part _ _ _ _ _ _ (here (goal.at.unreachable-requires c).After-n-n) (omega arith) c.in_default.ensures

pub fitting_cone-cone-requires-clause-in_tree : goal.fitting_cone-cone-requires-clause-in_tree
fitting_cone-cone-requires-clause-in_tree c =
    part_in_tree _ _ _ _ _ _ (here (goal.at.fitting_cone-cone-requires-clause-in_tree c).After-n-n) c.in-Some.first c.in-Some.ensures.member

pub returns : goal.returns
returns c =
    let fits : FitsSigned w128 c.gram.result = omega (arith, ints) in
    low_end_answer _ _ _ _ _ _ (here (goal.at.returns c).After-n-n) c.in-Some.first c.in-Low.which c.in-Some.ensures c.in-Low.is
    c.fitting_cone-cone.result c.fitting_cone-cone.ensures c.generator.result _ c.gram.result c.generator.ensures (to_z-of_z w128 c.gram.result fits)
    c.gram.ensures
