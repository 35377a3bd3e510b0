use Rattle.std.proofs.Common.{subst, inl, inr}
use Rattle.matrix_text.proofs.Ranges.{text-short}
use Rattle.cpfactor_lines.specs.Sinks.{sink_shown}
use Rattle.cpfactor_top.specs.Outcomes.{EndsBy, Refuses}
use Rattle.cpfactor_top.specs.Solving.{IsSolved}
use Rattle.cpfactor_top.specs.Answers.{IsFaultDue, IsBytesAnswer}
use Rattle.cpfactor_top.proofs.OutcomeLaws.{ends_by_follows, ends_by_made}
use Rattle.cpfactor_top.proofs.solving.solve_with.Goals as goal

pub solve_text-requires-clause-few : goal.solve_text-requires-clause-few
solve_text-requires-clause-few g c = (text-short c.args.bytes.now c.in-Ok.a c.in-Ok.ensures.read).rows

pub returns-in-Ok : goal.returns-in-Ok
returns-in-Ok g c =
    let A = IsSolved c.args.trace c.args.limits in
    ends_by_follows (A c.in-Ok.a) (IsBytesAnswer A c.args.bytes.now) _ (λ e text h. inr (c.in-Ok.a, c.in-Ok.ensures.read, h)) _
    (subst (λ k. EndsBy (A c.in-Ok.a) (sink_shown g.K.Sink k c.put_answer.new.sink) c.put_answer.result) c.in-Ok.ensures.silent
    (ends_by_made (A c.in-Ok.a) _ _ (λ r. r.0) (λ r. r.1.items) c.solve_text.result c.solve_text.ensures c.put_answer.ensures.put c.put_answer.ensures.wanting))

pub returns-in-Err : goal.returns-in-Err
returns-in-Err g c =
    ends_by_follows (Refuses (IsFaultDue c.args.bytes.now)) (IsBytesAnswer (IsSolved c.args.trace c.args.limits) c.args.bytes.now) _ (λ e text h. inl h) _
    c.in-Err.ensures.refused
