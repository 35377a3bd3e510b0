use Rattle.std.specs.Prelude.{◌≡◌, ◌+◌, length, take}
use Rattle.std.proofs.Common.{ap, sym, ◌∙◌}
use Rattle.std.proofs.lemmas.List.{with_items_is}
use Rattle.std.proofs.lemmas.Option.{IfSome_then}
use Rattle.cone_arena.proofs.OpenTops.{rows_opened_as}
use Rattle.cone_arena.proofs.narrow_arena.open_in.Goals as goal

pub returns-clause-opened : goal.returns-clause-opened
returns-clause-opened c =
    let old = c.args.rows.now.items in
    let xs = c.deref_mut.result.now in
    let top = c.args.top in
    let agree : take (top + 1) xs ≡ take (top + 1) old = ap (take (top + 1)) c.deref_mut.ensures.value ∙ c.fill_above.ensures.same in
    let lens : length c.open_rows.new.rows ≡ length c.fill_above.new.rows.items = c.open_rows.ensures.count ∙ ap length c.deref_mut.ensures.value in
    let back = with_items_is c.fill_above.new.rows c.open_rows.new.rows (lens ∙ sym c.fill_above.new.rows.ok.0) in
    IfSome_then c.open_rows.result c.open_rows.ensures.opened (λ o h. rows_opened_as old xs _ _ top _ _ _ o _ agree back h)
