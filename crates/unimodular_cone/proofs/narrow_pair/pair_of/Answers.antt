use Rattle.std.specs.Prelude.{◌≡◌, ◌/◌, ◌%◌}
use Rattle.std.proofs.Common.{arith, ◌∙◌, ap, rules}
use Rattle.unimodular_cone.specs.Cones.{IsPair, best_in_rows}
use Rattle.unimodular_cone.specs.Narrow.{as_best}
use Rattle.unimodular_cone.specs.Shown.{shown_gram}
use Rattle.unimodular_cone.proofs.BestPairs.{best_is_pair, best_is_none, named_from_one, tested_negative_64, tested_not_negative_64}
use Rattle.unimodular_cone.proofs.narrow_pair.pair_of.Goals.{Then-best-lt0}
use Rattle.unimodular_cone.proofs.narrow_pair.pair_of.Goals as goal

pair : (c : Then-best-lt0) → IsPair c.args.c.now.size (shown_gram c.args.c.now) (c.loop-row.best.place / 8) (c.loop-row.best.place % 8)
pair c =
    let row_end : c.loop-row.row ≡ c.args.n = omega arith in
    best_is_pair _ _ (as_best c.loop-row.best) c.requires.size (c.loop-row.invariant.pair ∙ ap (best_in_rows (shown_gram c.args.c.now) c.args.n) row_end)
    (tested_negative_64 c.loop-row.best.value (search rules) c.if-best-lt0.true)

pub overflow_add-result : goal.overflow_add-result
overflow_add-result c = let p = pair (goal.at.overflow_add-result c).Then-best-lt0 in omega (arith, p.order, p.range, c.requires.few)

pub overflow_add-result-then-best-lt0 : goal.overflow_add-result-then-best-lt0
overflow_add-result-then-best-lt0 c =
    let p = pair (goal.at.overflow_add-result-then-best-lt0 c).Then-best-lt0 in omega (arith, p.range, c.requires.few)

pub overflow_cast-result : goal.overflow_cast-result
overflow_cast-result c = let p = pair (goal.at.overflow_cast-result c).Then-best-lt0 in omega (arith, p.order, p.range, c.requires.few)

pub overflow_cast-result-then-best-lt0 : goal.overflow_cast-result-then-best-lt0
overflow_cast-result-then-best-lt0 c =
    let p = pair (goal.at.overflow_cast-result-then-best-lt0 c).Then-best-lt0 in omega (arith, p.range, c.requires.few)

pub returns-then-best-lt0 : goal.returns-then-best-lt0
returns-then-best-lt0 c = (omega arith, named_from_one _ _ _ _ (pair (goal.at.returns-then-best-lt0 c).Then-best-lt0))

pub returns-else-best-lt0 : goal.returns-else-best-lt0
returns-else-best-lt0 c =
    let row_end : c.loop-row.row ≡ c.args.n = omega arith in
    best_is_none _ _ (as_best c.loop-row.best) c.requires.size (c.loop-row.invariant.pair ∙ ap (best_in_rows (shown_gram c.args.c.now) c.args.n) row_end)
    (tested_not_negative_64 c.loop-row.best.value (search rules) c.if-best-lt0.false)
