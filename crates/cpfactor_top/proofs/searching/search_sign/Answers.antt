use Rattle.std.proofs.Common.{◌≡◌, refl, ap, rules, to_z, of_z}
use Rattle.std.proofs.lemmas.Int.{to_z-of_z}
use Rattle.std.specs.Int.{w128}
use Rattle.unimodular_cone.specs.declared.Mode.{Mode}
use Rattle.unimodular_cone.specs.Answer.{SearchAnswer}
use Rattle.symmetric_matrix.specs.Symmetric.{entry}
use Rattle.cpfactor_lines.specs.Texts.{copositive_text}
use Rattle.cpfactor_top.specs.Searching.{IsFound}
use Rattle.cpfactor_top.proofs.OutcomeLaws.{ends_by_none}
use Rattle.cpfactor_top.proofs.SearchValues.{low_narrow, found_ends, low_ends, depth_ends, wide_ends}
use Rattle.cpfactor_top.proofs.searching.search_sign.Goals as goal

pub put_low-requires-clause-fits : goal.put_low-requires-clause-fits
put_low-requires-clause-fits g c =
    let value : to_z w128 (of_z w128 c.in-Low.value) ≡ c.in-Low.value = search (rules, to_z-of_z) in
    low_narrow Mode.Sign c.args.s.now.size (entry c.args.s.now) c.args.depth c.in-Low.vector c.in-Low.value _ c.in-Low.path value c.in-Low.ensures.answer

pub returns-in-Copositive : goal.returns-in-Copositive
returns-in-Copositive g c =
    found_ends Mode.Sign c.args.depth c.args.s.now c.args.d SearchAnswer.Copositive _ _ _ _ c.in-Copositive.ensures.answer c.in-Copositive.ensures.holds refl
    (ap copositive_text c.n.ensures.value) c.put_copositive.ensures

pub returns-in-Low : goal.returns-in-Low
returns-in-Low g c =
    let value : to_z w128 (of_z w128 c.in-Low.value) ≡ c.in-Low.value = search (rules, to_z-of_z) in
    low_ends Mode.Sign c.args.depth c.args.s.now c.args.d _ c.in-Low.value _ c.in-Low.vector c.in-Low.path _ _ c.in-Low.ensures.answer c.in-Low.ensures.holds
    (to_z-of_z w128 c.args.d c.ranges.d) value c.put_low.ensures

pub returns-in-Depth : goal.returns-in-Depth
returns-in-Depth g c = depth_ends Mode.Sign c.args.depth c.args.s.now c.args.d c.in-Depth.path _ _ c.in-Depth.ensures.answer c.refuse.ensures

pub returns-in-Wide : goal.returns-in-Wide
returns-in-Wide g c = wide_ends Mode.Sign c.args.depth c.args.s.now c.args.d c.in-Wide.at _ _ c.in-Wide.ensures.answer c.refuse-in-Wide.ensures

pub returns-in-OutOfMemory : goal.returns-in-OutOfMemory
returns-in-OutOfMemory g c = ends_by_none (IsFound Mode.Sign c.args.depth c.args.s.now c.args.d) _ _ c.want_memory.ensures
