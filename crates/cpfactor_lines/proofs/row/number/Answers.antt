use Rattle.std.proofs.Common.{◌∙◌, sym}
use Rattle.cpfactor_lines.proofs.Numerals.{parsed_numeral}
use Rattle.cpfactor_lines.proofs.row.number.Goals as goal

pub returns : goal.returns
returns c = rw c.ok.ensures.value (parsed_numeral c.args.word.now c.parse.result c.parse.ensures.value.0 (sym c.is_numeral.ensures ∙ c.if-not-is_numeral.false))
