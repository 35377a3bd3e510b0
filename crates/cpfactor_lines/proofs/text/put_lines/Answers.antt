use Rattle.cpfactor_lines.proofs.Fronts.{put_begun, put_on, put_cut_off, put_whole}
use Rattle.cpfactor_lines.proofs.text.put_lines.Goals as goal

pub loop-line-init : goal.loop-line-init
loop-line-init g c = put_begun c.args.text.now (g.K.Sink.told c.args.sink.now) (g.K.Sink.faults c.args.sink.now)

pub loop-line-preserved : goal.loop-line-preserved
loop-line-preserved g c =
    put_on c.args.text.now c.loop-line.rest.now _ _ _ _ _ _ _ _ c.loop-line.invariant c.in-Some.ensures.parts c.in-Done.ensures.done c.in-Done.ensures.quiet

pub returns-in_default-put : goal.returns-in_default-put
returns-in_default-put g c =
    put_cut_off c.args.text.now c.loop-line.rest.now _ _ _ _ _ _ _ _ c.put.result c.loop-line.invariant c.in-Some.ensures.parts c.in_default-put.not-Done
    c.put.ensures.front c.put.ensures.nothing c.put.ensures.failed c.put.ensures.quiet

pub returns : goal.returns
returns g c = put_whole c.args.text.now c.loop-line.rest.now _ _ _ _ c.loop-line.invariant c.in_default.ensures.parts
