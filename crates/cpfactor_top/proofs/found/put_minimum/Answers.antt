use Rattle.std.proofs.Common.{◌≡◌, ◌∙◌, ap₂, subst, List, ℕ}
use Rattle.std.proofs.lemmas.Int.{to_z-of_z}
use Rattle.std.specs.Int.{w128}
use Rattle.cpfactor_lines.specs.Sinks.{IsPut, sink_shown}
use Rattle.cpfactor_lines.specs.Texts.{least_text, minimum_text}
use Rattle.cpfactor_lines.proofs.Listings.{minimum_lines}
use Rattle.cpfactor_top.specs.declared.ended.Cause.TheVariants.{Fine}
use Rattle.cpfactor_top.specs.Causes.{ending}
use Rattle.cpfactor_top.specs.Outcomes.{IsOnly}
use Rattle.cpfactor_top.proofs.OutcomeLaws.{ends_by_none, ended_by_put}
use Rattle.cpfactor_top.proofs.found.put_minimum.Goals as goal

pub returns-in-Ok : goal.returns-in-Ok
returns-in-Ok g c =
    let first : c.in-Ok.line.items ≡ least_text c.args.d c.args.minimum =
    c.in-Ok.ensures ∙ ap₂ least_text (to_z-of_z w128 c.args.d c.ranges.d) (to_z-of_z w128 c.args.minimum c.ranges.minimum) in
    let text = minimum_lines c.args.d c.args.minimum c.args.vectors.now c.in-Ok.line.items first in
    let shown = sink_shown g.K.Sink c.args.sink.now c.put_with_vectors.new.sink in
    ended_by_put (ending Fine) c.by.result c.after.result (minimum_text c.args.d c.args.minimum c.args.vectors.now) shown c.put_with_vectors.result c.by.ensures
    c.after.ensures
    (subst (λ (t : List ℕ). IsPut t shown c.put_with_vectors.result) text c.put_with_vectors.ensures)

pub returns-in-Err : goal.returns-in-Err
returns-in-Err g c = ends_by_none (IsOnly (ending Fine) (minimum_text c.args.d c.args.minimum c.args.vectors.now)) _ _ c.want_memory.ensures
