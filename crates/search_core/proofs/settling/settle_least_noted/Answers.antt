use Rattle.std.specs.Prelude.{◌≡◌, ℤ, FitsSigned}
use Rattle.std.specs.Int.{w128}
use Rattle.std.proofs.Common.{arith, ◌∙◌, sym, subst, to_z, of_z}
use Rattle.std.proofs.lemmas.Int.{ints, to_z-of_z}
use Rattle.unimodular_cone.specs.declared.Mode.{Mode}
use Rattle.unimodular_cone.specs.Answer.{SearchAnswer, IsSearchAnswer}
use Rattle.symmetric_matrix.specs.Symmetric.{entry}
use Rattle.search_core.specs.Fair.{bound_under}
use Rattle.search_core.specs.Attaining.{HasGenerators}
use Rattle.search_core.proofs.Keys.{are_keys, lists_generators}
use Rattle.search_core.proofs.Parts.{IsSettled, settled, over_256, found_answer}
use Rattle.search_core.proofs.settling.settle_least_noted.Goals.{In-Closed}
use Rattle.search_core.proofs.settling.settle_least_noted.Goals as goal

abbrev here : (c : In-Closed) → IsSettled Mode.Least c.args.q.now.size (entry c.args.q.now) c.args.limit c.args.judged.now c.args.final_word
here c = settled c.args.q.now c.requires.part.ends c.requires.limited c.n-n.ensures.matrix.positive c.requires.bound_fits c.requires.fits

has : (c : In-Closed)
    → HasGenerators c.args.q.now.size (entry c.args.q.now) c.requires.part.ends.all (bound_under Mode.Least c.args.final_word) c.args.noted.keys
has c = c.requires.part.noted (over_256 (here c) c.in-Closed.ensures.0)

pub listed-requires-clause-keys : goal.listed-requires-clause-keys
listed-requires-clause-keys c = rw c.n-n.ensures.value (are_keys _ _ _ _ _ (has (goal.at.listed-requires-clause-keys c).In-Closed))

pub returns-in-Ok : goal.returns-in-Ok
returns-in-Ok c =
    let fits : FitsSigned w128 c.from.result = omega (arith, ints) in
    let is : to_z w128 (of_z w128 c.from.result) ≡ bound_under Mode.Least c.args.final_word = to_z-of_z w128 c.from.result fits ∙ c.from.ensures
    ∙ c.bound_under.ensures in
    subst (λ (z : ℤ). IsSearchAnswer Mode.Least c.args.q.now.size (entry c.args.q.now) c.args.limit (SearchAnswer.Found z c.in-Ok.vectors)) (sym is)
    (found_answer (here (goal.at.returns-in-Ok c).In-Closed) c.in-Closed.ensures.0 c.in-Closed.ensures.1 c.in-Ok.vectors
    (lists_generators _ _ _ _ c.args.noted.keys c.in-Ok.vectors c.n-n.ensures.matrix.small (has (goal.at.returns-in-Ok c).In-Closed)
    (rw c.n-n.ensures.value at c.in-Ok.ensures)))
