use Rattle.std.proofs.Common.{◌≡◌, arith, sym, pos, []}
use Rattle.std.proofs.lemmas.Option.{get_or_from_slice_get}
use Rattle.exact_forms.specs.Rational.{whole}
use Rattle.exact_linear.specs.Squares.{vector_at}
use Rattle.perfect_walk.proofs.Factoring.{one_more, all_made, is_after}
use Rattle.perfect_walk.proofs.walking.positive.Goals as goal

pub loop-k-preserved : goal.loop-k-preserved
loop-k-preserved c =
    one_more c.args.vectors.now c.args.weights.now c.loop-k.k c.at.result.now c.at-in-loop-k.result.now c.loop-k.terms c.push_positive.new.terms
    (sym (get_or_from_slice_get c.args.weights.now c.loop-k.k c.at.result.now (whole (pos 0)) c.at.ensures))
    (sym (get_or_from_slice_get c.args.vectors.now c.loop-k.k c.at-in-loop-k.result.now [] c.at-in-loop-k.ensures)) c.loop-k.invariant
    c.in_ok-push_positive.ensures

pub push_positive-requires : goal.push_positive-requires
push_positive-requires c =
    is_after c.args.vectors.now c.args.weights.now c.loop-k.k c.loop-k.terms c.at-in-loop-k.result.now c.len-k-end.ensures.list.increasing
    (let n = c.len-k-end.ensures.value in omega arith)
    (sym (get_or_from_slice_get c.args.vectors.now c.loop-k.k c.at-in-loop-k.result.now [] c.at-in-loop-k.ensures)) c.loop-k.invariant

pub returns : goal.returns
returns c = all_made c.args.vectors.now c.args.weights.now c.loop-k.k c.loop-k.terms (let n = c.len-k-end.ensures.value in omega arith) c.loop-k.invariant
