use Rattle.std.specs.Prelude.{Option, None, length}
use Rattle.std.proofs.Common.{ap, ◌∙◌}
use Rattle.std.proofs.lemmas.List.{length-replicate}
use Rattle.unimodular_cone.specs.Shown.{ShownCone}
use Rattle.cone_arena.proofs.Laid.{none_laid}
use Rattle.cone_arena.proofs.rows.Rows.with_room.Goals as goal

pub invariant_of-result : goal.invariant_of-result
invariant_of-result c =
    let none : Option ShownCone = None in
    let said = c.in_ok-base.ensures in
    record {
      laid = (none_laid c.in_ok-base.cells.slots c.args.room said.1).0;
      places = ap length said.1 ∙ length-replicate c.args.room none;
      at = said.0;
      deed_at = said.2;
      deed_len = said.3;
      deed_alloc = said.4;
    }

pub returns-clause-empty : goal.returns-clause-empty
returns-clause-empty c = (none_laid c.in_ok-base.cells.slots c.args.room c.in_ok-base.ensures.1).1
