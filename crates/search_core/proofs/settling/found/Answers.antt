use Rattle.std.specs.Prelude.{◌≡◌, ℤ, FitsSigned}
use Rattle.std.specs.Int.{w128}
use Rattle.std.proofs.Common.{arith, sym, ◌∙◌, subst, to_z, of_z}
use Rattle.std.proofs.lemmas.Int.{ints, to_z-of_z}
use Rattle.unimodular_cone.specs.declared.Mode.{Mode}
use Rattle.unimodular_cone.specs.Answer.{SearchAnswer, IsSearchAnswer}
use Rattle.symmetric_matrix.specs.Symmetric.{entry}
use Rattle.search_core.specs.Fair.{bound_under}
use Rattle.search_core.specs.Attaining.{ListsGenerators}
use Rattle.search_core.proofs.Parts.{IsSettled, settled, ends_of, part_in_tree, found_answer, of_the_whole}
use Rattle.search_core.proofs.settling.found.Goals.{After-n-n}
use Rattle.search_core.proofs.settling.found.Goals as goal

abbrev here : (c : After-n-n) → IsSettled Mode.Least c.args.q.now.size (entry c.args.q.now) c.args.limit c.args.judged.now c.args.final_word
here c = settled c.args.q.now (ends_of c.requires.part) c.requires.limited c.n-n.ensures.matrix.positive c.requires.bound_fits c.requires.fits

pub attaining-requires-clause-in_tree : goal.attaining-requires-clause-in_tree
attaining-requires-clause-in_tree c = part_in_tree _ _ _ _ _ _ (here (goal.at.attaining-requires-clause-in_tree c).After-n-n)

pub returns-in-Ok : goal.returns-in-Ok
returns-in-Ok c =
    let fits : FitsSigned w128 c.from.result = omega (arith, ints) in
    let is : to_z w128 (of_z w128 c.from.result) ≡ bound_under Mode.Least c.args.final_word = to_z-of_z w128 c.from.result fits ∙ c.from.ensures
    ∙ c.bound_under-minimum.ensures in
    subst (λ (z : ℤ). IsSearchAnswer Mode.Least c.args.q.now.size (entry c.args.q.now) c.args.limit (SearchAnswer.Found z c.in-Ok.vectors)) (sym is)
    (found_answer (here (goal.at.returns-in-Ok c).After-n-n) c.requires.closed.0 c.requires.closed.1 c.in-Ok.vectors
    (of_the_whole (here (goal.at.returns-in-Ok c).After-n-n) c.requires.closed.0 c.requires.part.relevant c.in-Ok.vectors
    (subst (λ (z : ℤ). ListsGenerators c.args.q.now.size (entry c.args.q.now) c.args.judged.now z c.in-Ok.vectors) c.bound_under-minimum.ensures
    c.in-Ok.ensures)))
