use Rattle.std.proofs.Common.{◌++◌, ◌∙◌, ◌≤◌, length, arith, ap}
use Rattle.std.proofs.lemmas.List.{take_all}
use Rattle.cpfactor_lines.specs.Traces.{visits_text}
use Rattle.cpfactor_lines.proofs.Comments.{visits_none, visits_more}
use Rattle.cpfactor_lines.proofs.trace.push_visits.Goals as goal

pub loop-k-init : goal.loop-k-init
loop-k-init c = visits_none c.args.into.now.items

pub loop-k-preserved : goal.loop-k-preserved
loop-k-preserved c = visits_more c.args.visits.now c.loop-k.k c.at.result.now _ _ _ c.at.ensures c.loop-k.invariant c.in_ok-push_visit.ensures

pub returns : goal.returns
returns c =
    let all : length c.args.visits.now ≤ c.loop-k.k = omega (arith, c.len-k-end.ensures, c.loop-k-test.false) in
    c.loop-k.invariant ∙ ap (λ visits. c.args.into.now.items ++ visits_text 0 visits) (take_all c.loop-k.k c.args.visits.now all)
