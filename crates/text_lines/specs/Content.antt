-- A content line of the program, as the definitions see it.
--
--     line_of l     its number and its bytes
use Rattle.text_lines.specs.declared.content.TextLine as declared
use Rattle.text_lines.specs.Lines.{TextLine}

abbrev pub line_of : declared.TextLine → TextLine
line_of l = record { number = l.number; bytes = l.bytes.now }
