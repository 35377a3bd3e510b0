use Rattle.std.proofs.Common.{◌∙◌, sym}
use Rattle.text_lines.specs.Lines.{is_line_feed}
use Rattle.cpfactor_lines.proofs.Summaries.{before_found, before_all}
use Rattle.cpfactor_lines.proofs.summary.before_line_feed.Goals as goal

pub returns-in-Some : goal.returns-in-Some
returns-in-Some c = before_found is_line_feed c.args.text.now c.in-Some.end (sym c.in-Some.is ∙ c.line_feed.ensures)

pub returns-in-None : goal.returns-in-None
returns-in-None c = before_all is_line_feed c.args.text.now (sym c.in-None.is ∙ c.line_feed.ensures)
