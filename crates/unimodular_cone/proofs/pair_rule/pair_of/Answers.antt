use Rattle.std.specs.Prelude.{◌≡◌}
use Rattle.std.proofs.Common.{arith, rules}
use Rattle.unimodular_cone.specs.Cones.{IsPair}
use Rattle.unimodular_cone.specs.Shown.{shown_gram}
use Rattle.unimodular_cone.proofs.BestPairs.{best_is_pair, best_is_none, named_from_one, tested_negative, tested_not_negative}
use Rattle.unimodular_cone.proofs.pair_rule.pair_of.Given.{Over}
use Rattle.unimodular_cone.proofs.pair_rule.pair_of.Goals.{Then-best-lt0}
use Rattle.unimodular_cone.proofs.pair_rule.pair_of.Goals as goal

pair : (g : Over) (c : Then-best-lt0 g)
    → IsPair (g.C.ConeRead.cone c.args.c.now).size (shown_gram (g.C.ConeRead.cone c.args.c.now)) c.loop-row.best.row c.loop-row.best.column
pair g c =
    let row_end : c.loop-row.row ≡ c.args.n = omega arith in
    best_is_pair _ _ _ c.requires.size (rw row_end at c.loop-row.invariant.pair) (tested_negative c.loop-row.best.value (search rules) c.if-best-lt0.true)

pub overflow_add-result : goal.overflow_add-result
overflow_add-result g c = let p = pair g (goal.at.overflow_add-result g c).Then-best-lt0 in omega (arith, p.order, p.range, c.requires.fits.few)

pub overflow_add-result-then-best-lt0 : goal.overflow_add-result-then-best-lt0
overflow_add-result-then-best-lt0 g c =
    let p = pair g (goal.at.overflow_add-result-then-best-lt0 g c).Then-best-lt0 in omega (arith, p.range, c.requires.fits.few)

pub overflow_cast-result : goal.overflow_cast-result
overflow_cast-result g c = let p = pair g (goal.at.overflow_cast-result g c).Then-best-lt0 in omega (arith, p.order, p.range, c.requires.fits.few)

pub overflow_cast-result-then-best-lt0 : goal.overflow_cast-result-then-best-lt0
overflow_cast-result-then-best-lt0 g c =
    let p = pair g (goal.at.overflow_cast-result-then-best-lt0 g c).Then-best-lt0 in omega (arith, p.range, c.requires.fits.few)

pub returns-then-best-lt0 : goal.returns-then-best-lt0
returns-then-best-lt0 g c =
    (omega arith, named_from_one _ _ _ _ (pair g (goal.at.returns-then-best-lt0 g c).Then-best-lt0))

pub returns-else-best-lt0 : goal.returns-else-best-lt0
returns-else-best-lt0 g c =
    let row_end : c.loop-row.row ≡ c.args.n = omega arith in
    best_is_none _ _ _ c.requires.size (rw row_end at c.loop-row.invariant.pair) (tested_not_negative c.loop-row.best.value (search rules) c.if-best-lt0.false)
