use Rattle.std.proofs.Common.{◌∙◌, ap}
use Rattle.cp_outside.specs.Puts.{appended}
use Rattle.cpfactor_lines.specs.Texts.{vectors_text}
use Rattle.cpfactor_lines.proofs.Fronts.{put_behind, put_stopped}
use Rattle.cpfactor_lines.proofs.vectors.put_with_vectors.Goals as goal

pub returns-in-Done : goal.returns-in-Done
returns-in-Done g c =
    let put = c.in-Done.ensures.done ∙ ap (appended (g.K.Sink.told c.args.sink.now)) c.deref.ensures.value in
    put_behind c.args.text.now.items (vectors_text c.args.vectors.now) _ _ _ _ _ _ c.put_vectors.result put c.in-Done.ensures.quiet c.put_vectors.ensures

pub returns-in_default : goal.returns-in_default
returns-in_default g c =
    put_stopped c.args.text.now.items c.deref.result.now (vectors_text c.args.vectors.now) _ _ _ _ c.put.result c.in_default.not-Done c.deref.ensures.value
    c.put.ensures.front c.put.ensures.nothing c.put.ensures.failed c.put.ensures.quiet
