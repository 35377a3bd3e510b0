use Rattle.std.proofs.Common.{◌≡◌, ◌++◌, take}
use Rattle.cpfactor_lines.specs.Lines.{digits_text}
use Rattle.cpfactor_lines.proofs.line.push_digits.Given as goal

abbrev pub invariant-loop-k : goal.invariant-loop-k
invariant-loop-k l = l.into.items ≡ l.fn.into.items ++ digits_text (take l.k l.path)
