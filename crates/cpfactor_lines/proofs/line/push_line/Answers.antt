use Rattle.cpfactor_lines.specs.Lines.{words_text}
use Rattle.cpfactor_lines.proofs.LineLemmas.{line_of_spelled}
use Rattle.cpfactor_lines.proofs.line.push_line.Goals as goal

pub returns : goal.returns
returns c = line_of_spelled (words_text c.args.words.now) _ _ _ c.in_ok-push_words.ensures c.in_ok-push.ensures.items
