use Rattle.std.proofs.Common.{◌∙◌, ap, List, ℕ}
use Rattle.std.specs.List.{flat_map}
use Rattle.cp_outside.specs.Puts.{appended}
use Rattle.cpfactor_lines.proofs.Fronts.{put_behind, put_stopped}
use Rattle.cpfactor_lines.proofs.listing.put_listed.Goals as goal

pub returns-in-Done : goal.returns-in-Done
returns-in-Done g c =
    let put = c.in-Done.ensures.done ∙ ap (appended (g.K.Sink.told c.args.sink.now)) c.deref.ensures.value in
    put_behind c.args.text.now.items (flat_map (λ (t : List ℕ). t) (g.L.Listing.lines c.args.list.now)) _ _ _ _ _ _ c.put_items.result put
    c.in-Done.ensures.quiet c.put_items.ensures

pub returns-in_default : goal.returns-in_default
returns-in_default g c =
    put_stopped c.args.text.now.items c.deref.result.now (flat_map (λ (t : List ℕ). t) (g.L.Listing.lines c.args.list.now)) _ _ _ _ c.put.result
    c.in_default.not-Done c.deref.ensures.value c.put.ensures.front c.put.ensures.nothing c.put.ensures.failed c.put.ensures.quiet
