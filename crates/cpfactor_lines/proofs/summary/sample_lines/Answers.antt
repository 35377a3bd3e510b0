use Rattle.cpfactor_lines.proofs.Summaries.{summary_made}
use Rattle.cpfactor_lines.proofs.summary.sample_lines.Goals as goal

pub returns : goal.returns
returns c =
    let numbers = rw (c.from.ensures, c.from-2.ensures) at c.in_ok-push_line.ensures in
    let verdict = rw c.before_line_feed.ensures at c.in_ok-push_line-3.ensures in
    summary_made c.args.n c.args.k c.args.first c.args.a.now c.args.visits c.args.answer.now _ _ _ _ _
    c.new-text.ensures.items numbers c.in_ok-push_diagonal.ensures
    c.in_ok-push_line-2.ensures verdict
