use Rattle.std.proofs.Common.{◌∙◌, ◌++◌, ap}
use Rattle.cpfactor_lines.specs.declared.line.Word.{Word}
use Rattle.text_lines.specs.Spelling.{spaced_word}
use Rattle.cpfactor_lines.specs.Lines.{word_text}
use Rattle.cpfactor_lines.proofs.LineLemmas.{word_more, words_end}
use Rattle.cpfactor_lines.proofs.line.push_words.Goals as goal

pub loop-column-preserved : goal.loop-column-preserved
loop-column-preserved c = word_more c.args.words.now c.loop-column.column c.index-words-column.result _ _ _ c.loop-column-test.true c.loop-column.invariant
    (c.in_ok-push_column.ensures ∙ ap (λ (w : Word). c.loop-column.into.items ++ spaced_word c.loop-column.column (word_text w)) c.index-words-column.is)

pub returns : goal.returns
returns c = words_end c.args.words.now c.loop-column.column _ _ c.loop-column-test.false c.loop-column.invariant
