use Rattle.exact_lp.proofs.Choices.{row_within_table}
use Rattle.exact_lp.proofs.ends.at_target.Goals as goal

pub entry_at-requires-clause-row : goal.entry_at-requires-clause-row
entry_at-requires-clause-row c = row_within_table c.args.tableau.now c.args.column c.in-Some.row c.in-Some.ensures
