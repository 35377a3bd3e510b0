use Rattle.std.proofs.Common.{◌≡◌, ◌++◌, take}
use Rattle.std.specs.List.{join_with_byte}
use Rattle.cpfactor_lines.specs.Lines.{words_text}
use Rattle.cpfactor_lines.proofs.line.push_words.Given as goal

abbrev pub invariant-loop-column : goal.invariant-loop-column
invariant-loop-column l = l.into.items ≡ l.fn.into.items ++ join_with_byte 32 (words_text (take l.column l.words))
