use Rattle.std.proofs.Common.{◌≡◌, ◌++◌}
use Rattle.cpfactor_lines.proofs.Comments.{cells}
use Rattle.cpfactor_lines.proofs.Summaries.{diagonal_word}
use Rattle.cpfactor_lines.proofs.summary.push_diagonal.Given as goal

abbrev pub invariant-loop-row : goal.invariant-loop-row
invariant-loop-row l = l.into.items ≡ l.initial.into.items ++ cells (diagonal_word l.a) l.row
