use Rattle.std.proofs.Common.{◌∙◌, [], sym, ap, arith}
use Rattle.exact_linear.specs.Squares.{square, named}
use Rattle.exact_linear.proofs.SquareLists.{at_index, squares_more}
use Rattle.extreme_ray.proofs.Names.{named_at, named_length}
use Rattle.extreme_ray.proofs.Making.{squares_end}
use Rattle.extreme_ray.proofs.start.columns.Goals as goal

pub loop-i-preserved : goal.loop-i-preserved
loop-i-preserved c =
    squares_more (named c.args.vectors.now c.args.names.now) c.loop-i.i c.loop-i.columns.items c.push.new.self.items c.in_ok-square.field-0 c.loop-i.invariant
    (c.in_ok-square.ensures
    ∙ ap square (at_index c.args.vectors.now _ c.at.result.now [] c.at.ensures
    ∙ sym (named_at c.args.vectors.now c.args.names.now c.loop-i.i c.loop-i-test.true))) c.in_ok-push.ensures.items

pub returns : goal.returns
returns c =
    squares_end (named c.args.vectors.now c.args.names.now) c.loop-i.i c.loop-i.columns.items c.loop-i.invariant
    (let a = c.loop-i-test.false in let b = c.loop-i.auto.i-end in let d = named_length c.args.vectors.now c.args.names.now in omega arith)
