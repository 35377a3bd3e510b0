use Rattle.std.proofs.Common.{◌≡◌, ◌∙◌, ◌++◌, ap₂, subst, List, ℕ, length}
use Rattle.cpfactor_lines.specs.Texts.{vectors_text}
use Rattle.cpfactor_lines.specs.Sinks.{IsPut, sink_shown}
use Rattle.cpfactor_lines.proofs.Listings.{count_line, vectors_lines}
use Rattle.cpfactor_lines.proofs.Fronts.{put_nothing}
use Rattle.cpfactor_lines.proofs.vectors.put_vectors.Goals as goal

pub returns-in-Ok : goal.returns-in-Ok
returns-in-Ok g c =
    let head : c.push_line.new.into.items ≡ count_line (length c.args.vectors.now) =
    c.in-Ok.ensures ∙ ap₂ (λ (t : List ℕ) (n : ℕ). t ++ count_line n) c.clear.ensures.items c.len.ensures.value in
    subst (λ t. IsPut t (sink_shown g.K.Sink c.args.sink.now c.put_listed.new.sink) c.put_listed.result)
    (vectors_lines c.args.vectors.now c.push_line.new.into.items head) c.put_listed.ensures

pub returns-in-Err : goal.returns-in-Err
returns-in-Err g c =
    put_nothing (vectors_text c.args.vectors.now) (g.K.Sink.told c.args.sink.now) (g.K.Sink.faults c.args.sink.now)
