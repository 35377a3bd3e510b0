use Rattle.std.proofs.Common.{◌≡◌, ◌+◌, ◌-◌, rules, sym, ap, ◌∙◌, arith, to_z, of_z}
use Rattle.std.proofs.lemmas.Int.{to_z-of_z}
use Rattle.std.specs.Int.{w128}
use Rattle.exact_forms.specs.Triangles.{triangle}
use Rattle.exact_forms.proofs.Triangles.{triangle-zero, triangle_more}
use Rattle.exact_linear.proofs.LowerEntries.{lower_at}
use Rattle.exact_linear.proofs.tableau.lower_entry.Goals as goal

pub loop-before-init : goal.loop-before-init
loop-before-init c = record { first = sym triangle-zero; within = omega arith }

pub returns-then-column-from-clause-value : goal.returns-then-column-from-clause-value
returns-then-column-from-clause-value c =
    let same : to_z w128 (of_z w128 c.get.result) ≡ c.get.result = search (rules, to_z-of_z) in
    let row : c.loop-before.first ≡ triangle (c.loop-before.before + 1 - 1) = c.loop-before.invariant.first ∙ ap triangle (omega arith) in
    same ∙ c.get.ensures.value
    ∙ lower_at c.args.matrix.now (c.loop-before.before + 1 - 1) _ c.loop-before.first c.args.k row c.loop-before.invariant.within (omega arith)
    (omega (arith, c.if-column-from.true, c.from.ensures))

pub loop-before-preserved : goal.loop-before-preserved
loop-before-preserved c = let over = c.if-column-from.false in record {
  first = omega (arith, c.loop-before.invariant.first, c.from-in-loop-before.ensures, triangle_more c.loop-before.before);
  within = omega (arith, over, c.from-in-loop-before.ensures, c.loop-before.invariant.within);
}
