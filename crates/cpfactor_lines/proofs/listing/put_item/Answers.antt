use Rattle.std.proofs.Common.{◌≡◌, ◌∙◌, ap, ◌++◌, [], slice_index_or}
use Rattle.cpfactor_lines.proofs.Fronts.{put_is, put_nothing}
use Rattle.cpfactor_lines.proofs.listing.put_item.Goals as goal

pub returns-in-Ok : goal.returns-in-Ok
returns-in-Ok g c =
    let line = slice_index_or (g.L.Listing.lines c.args.list.now) c.args.k [] in
    let made : c.deref.result.now ≡ line = c.deref.ensures.value ∙ c.in-Ok.ensures ∙ ap (λ t. t ++ line) c.clear.ensures.items in
    put_is line c.deref.result.now _ _ _ _ c.put.result made c.put.ensures.done c.put.ensures.front c.put.ensures.nothing c.put.ensures.failed
    c.put.ensures.quiet

pub returns-in-Err : goal.returns-in-Err
returns-in-Err g c =
    put_nothing (slice_index_or (g.L.Listing.lines c.args.list.now) c.args.k []) (g.K.Sink.told c.args.sink.now) (g.K.Sink.faults c.args.sink.now)
