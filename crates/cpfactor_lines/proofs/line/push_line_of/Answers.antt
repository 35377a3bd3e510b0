use Rattle.cpfactor_lines.proofs.LineLemmas.{number_more, numbers_start, numbers_end}
use Rattle.cpfactor_lines.proofs.line.push_line_of.Goals as goal

pub loop-k-init : goal.loop-k-init
loop-k-init c = numbers_start c.args.words.now c.args.numbers.now _ _ c.in_ok-push_words.ensures

pub loop-k-preserved : goal.loop-k-preserved
loop-k-preserved c = number_more c.args.words.now c.args.numbers.now c.loop-k.k _ _ _ c.loop-k-test.true c.loop-k.invariant c.in_ok-push_column.ensures

pub returns : goal.returns
returns c = numbers_end c.args.words.now c.args.numbers.now c.loop-k.k _ _ _ c.loop-k-test.false c.loop-k.invariant c.in_ok-push.ensures.items
