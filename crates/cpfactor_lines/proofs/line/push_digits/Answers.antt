use Rattle.std.proofs.Common.{◌+◌, ◌++◌, ◌∷◌, [], ap, ◌∙◌, arith}
use Rattle.cpfactor_lines.proofs.LineLemmas.{digits_start, digit_more, digits_end}
use Rattle.cpfactor_lines.proofs.line.push_digits.Goals as goal

pub loop-k-init : goal.loop-k-init
loop-k-init c = digits_start c.args.path.now c.args.into.now.items

pub loop-k-preserved : goal.loop-k-preserved
loop-k-preserved c =
    digit_more c.args.path.now c.loop-k.k _ _ _ (omega (arith, c.loop-k-test.true, c.len-k-end.ensures.count)) c.loop-k.invariant
    (c.in_ok-push.ensures.items ∙ ap (λ d. c.loop-k.into.items ++ (48 + d) ∷ []) c.digit.ensures)

pub returns : goal.returns
returns c = digits_end c.args.path.now c.loop-k.k _ _ (omega (arith, c.loop-k-test.false, c.len-k-end.ensures.count)) c.loop-k.invariant
