use Rattle.std.proofs.Common.{◌∙◌, ◌++◌, ◌∷◌, [], ap, arith}
use Rattle.symmetric_matrix.specs.Symmetric.{Symmetric}
use Rattle.exact_linear.proofs.SquareLists.{squares_more, squares_all, at_index}
use Rattle.exact_linear.specs.Squares.{square}
use Rattle.exact_lp.proofs.squares.columns.Goals as goal

pub loop-k-preserved : goal.loop-k-preserved
loop-k-preserved c =
    squares_more c.args.vectors.now c.loop-k.k c.loop-k.columns.items c.push.new.self.items c.in_ok-square.field-0 c.loop-k.invariant
    (c.in_ok-square.ensures ∙ ap square (at_index c.args.vectors.now c.loop-k.k c.at.result.now [] c.at.ensures)) c.in_ok-push.ensures.items

pub returns : goal.returns
returns c =
    squares_all c.args.vectors.now c.loop-k.k c.loop-k.columns.items c.push-2.new.self.items c.args.s.now c.loop-k.invariant
    (let a = c.loop-k-test.false in let b = c.loop-k.auto.k-end in let d = c.len-k-end.ensures.value in omega arith)
    (c.in_ok-push-2.ensures.items ∙ ap (λ (q : Symmetric). c.loop-k.columns.items ++ q ∷ []) c.in_ok-copy.ensures)
