use Rattle.std.proofs.Common.{subst, inl, inr}
use Rattle.cpfactor_lines.specs.Sinks.{sink_shown}
use Rattle.cpfactor_top.specs.Outcomes.{EndsBy}
use Rattle.cpfactor_top.specs.Searching.{IsSearched}
use Rattle.cpfactor_top.specs.Answers.{IsFaultDue, IsBytesAnswer}
use Rattle.cpfactor_top.specs.Outcomes.{Refuses}
use Rattle.cpfactor_top.proofs.OutcomeLaws.{ends_by_follows}
use Rattle.cpfactor_top.proofs.searching.search_with.Goals as goal

pub returns-in-Ok : goal.returns-in-Ok
returns-in-Ok g c =
    ends_by_follows (IsSearched c.args.mode c.args.depth c.in-Ok.a) (IsBytesAnswer (IsSearched c.args.mode c.args.depth) c.args.bytes.now) _
    (λ e text h. inr (c.in-Ok.a, c.in-Ok.ensures.read, h)) _
    (subst (λ k. EndsBy (IsSearched c.args.mode c.args.depth c.in-Ok.a) (sink_shown g.K.Sink k c.search_matrix.new.sink) c.search_matrix.result)
    c.in-Ok.ensures.silent c.search_matrix.ensures)

pub returns-in-Err : goal.returns-in-Err
returns-in-Err g c =
    ends_by_follows (Refuses (IsFaultDue c.args.bytes.now)) (IsBytesAnswer (IsSearched c.args.mode c.args.depth) c.args.bytes.now) _ (λ e text h. inl h) _
    c.in-Err.ensures.refused
