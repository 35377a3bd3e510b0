use Rattle.std.proofs.Common.{◌≡◌, ◌++◌, take, map}
use Rattle.std.specs.Fmt.{decimal}
use Rattle.std.specs.List.{join_with_byte}
use Rattle.cpfactor_lines.specs.Lines.{words_text}
use Rattle.cpfactor_lines.proofs.line.push_line_of.Given as goal

abbrev pub invariant-loop-k : goal.invariant-loop-k
invariant-loop-k l = l.into.items ≡ l.fn.into.items ++ join_with_byte 32 (words_text l.words ++ map decimal (take l.k l.numbers))
