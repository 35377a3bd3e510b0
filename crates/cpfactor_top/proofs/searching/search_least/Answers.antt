use Rattle.std.proofs.Common.{◌≡◌, refl, sym, subst, ap, ap₂, rules, to_z, of_z}
use Rattle.std.proofs.lemmas.Int.{to_z-of_z}
use Rattle.std.specs.Int.{w128}
use Rattle.unimodular_cone.specs.declared.Mode.{Mode}
use Rattle.unimodular_cone.specs.Answer.{SearchAnswer}
use Rattle.symmetric_matrix.specs.Symmetric.{entry, FitsInt}
use Rattle.cpfactor_top.specs.declared.ended.Cause.TheVariants.{Overflow}
use Rattle.perfect_walk.specs.declared.journal.Owed.TheVariants.{Bound}
use Rattle.cpfactor_top.specs.Causes.{ending}
use Rattle.cpfactor_lines.specs.Texts.{owed_text, minimum_text}
use Rattle.cpfactor_top.specs.Searching.{IsFound}
use Rattle.cpfactor_top.proofs.OutcomeLaws.{ends_by_none}
use Rattle.cpfactor_top.proofs.SearchValues.{low_narrow, found_narrow, found_ends, low_ends, depth_ends, wide_ends}
use Rattle.cpfactor_top.proofs.searching.search_least.Goals as goal

pub put_low-requires-clause-fits : goal.put_low-requires-clause-fits
put_low-requires-clause-fits g c =
    let value : to_z w128 (of_z w128 c.in-Low.value) ≡ c.in-Low.value = search (rules, to_z-of_z) in
    low_narrow Mode.Least c.args.s.now.size (entry c.args.s.now) c.args.depth c.in-Low.vector c.in-Low.value _ c.in-Low.path value c.in-Low.ensures.answer

pub put_minimum-requires-clause-fits : goal.put_minimum-requires-clause-fits
put_minimum-requires-clause-fits g c =
    let minimum : to_z w128 (of_z w128 c.in-Found.minimum) ≡ c.in-Found.minimum = search (rules, to_z-of_z) in
    subst FitsInt (sym minimum)
    (found_narrow c.args.s.now.size (entry c.args.s.now) c.args.depth c.in-Found.minimum c.in-Found.vectors c.in-Found.ensures.answer)

pub returns-in-Found : goal.returns-in-Found
returns-in-Found g c =
    let minimum : to_z w128 (of_z w128 c.in-Found.minimum) ≡ c.in-Found.minimum = search (rules, to_z-of_z) in
    found_ends Mode.Least c.args.depth c.args.s.now c.args.d (SearchAnswer.Found c.in-Found.minimum c.in-Found.vectors) _ _ _ _ c.in-Found.ensures.answer
    c.in-Found.ensures.holds refl
    (ap₂ (λ d m. minimum_text d m c.in-Found.vectors) (to_z-of_z w128 c.args.d c.ranges.d) minimum) c.put_minimum.ensures

pub returns-in-Low : goal.returns-in-Low
returns-in-Low g c =
    let value : to_z w128 (of_z w128 c.in-Low.value) ≡ c.in-Low.value = search (rules, to_z-of_z) in
    low_ends Mode.Least c.args.depth c.args.s.now c.args.d _ c.in-Low.value _ c.in-Low.vector c.in-Low.path _ _ c.in-Low.ensures.answer c.in-Low.ensures.holds
    (to_z-of_z w128 c.args.d c.ranges.d) value c.put_low.ensures

pub returns-in-Depth : goal.returns-in-Depth
returns-in-Depth g c = depth_ends Mode.Least c.args.depth c.args.s.now c.args.d c.in-Depth.path _ _ c.in-Depth.ensures.answer c.refuse.ensures

pub returns-in-Wide : goal.returns-in-Wide
returns-in-Wide g c = wide_ends Mode.Least c.args.depth c.args.s.now c.args.d c.in-Wide.at _ _ c.in-Wide.ensures.answer c.refuse-in-Wide.ensures

pub returns-in-BoundWide : goal.returns-in-BoundWide
returns-in-BoundWide g c =
    let diagonal : to_z w128 (of_z w128 c.in-BoundWide.diagonal) ≡ c.in-BoundWide.diagonal = search (rules, to_z-of_z) in
    found_ends Mode.Least c.args.depth c.args.s.now c.args.d (SearchAnswer.BoundWide c.in-BoundWide.diagonal) _ _ _ _ c.in-BoundWide.ensures.answer tt
    (ap (λ z. ending (Overflow (Bound z))) diagonal) (ap (λ z. owed_text (Bound z)) diagonal) c.refuse-in-BoundWide.ensures

pub returns-in-OutOfMemory : goal.returns-in-OutOfMemory
returns-in-OutOfMemory g c = ends_by_none (IsFound Mode.Least c.args.depth c.args.s.now c.args.d) _ _ c.want_memory.ensures
