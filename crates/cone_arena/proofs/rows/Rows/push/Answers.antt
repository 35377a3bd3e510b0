use Rattle.std.specs.Prelude.{◌+◌, ◌++◌, ◌∷◌, [], Some, length}
use Rattle.std.proofs.Common.{ap, sym, ◌∙◌, subst, length-set}
use Rattle.circular_buffer.specs.Places.{somes}
use Rattle.cone_arena.specs.ShownRows.{ShownRows}
use Rattle.cone_arena.specs.RowFields.{IsLaid}
use Rattle.cone_arena.proofs.Laid.{Places, row_pushed}
use Rattle.cone_arena.proofs.rows.Rows.push.Goals as goal

pub invariant_of-self : goal.invariant_of-self
invariant_of-self c =
    let slots = c.self.inside.cells.slots in
    let added = row_pushed slots c.self.inside.written _ _ c.args.cone c.self.invariant.laid c.self.invariant.places c.self.view_is c.requires in
    record {
      laid = subst (λ (s : Places). IsLaid s (c.self.inside.written + 1)) (sym c.write.ensures.1) added.0;
      places = ap length c.write.ensures.1 ∙ length-set slots c.self.inside.written (Some c.args.cone) ∙ c.self.invariant.places;
      at = c.write.ensures.0 ∙ c.self.invariant.at;
      deed_at = c.self.invariant.deed_at;
      deed_len = c.self.invariant.deed_len;
      deed_alloc = c.self.invariant.deed_alloc;
    }

pub returns-clause-items : goal.returns-clause-items
returns-clause-items c =
    let added = row_pushed _ _ _ _ c.args.cone c.self.invariant.laid c.self.invariant.places c.self.view_is c.requires in
    ap somes c.write.ensures.1 ∙ added.1 ∙ ap (λ (r : ShownRows). r.items ++ c.args.cone ∷ []) c.self.view_is
