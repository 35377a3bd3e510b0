use Rattle.std.proofs.Common.{◌++◌, ◌∙◌, ◌≤◌, ℕ, List, length, map, arith, ap}
use Rattle.std.specs.Fmt.{decimal}
use Rattle.cone_tree_certificate.proofs.WrittenLines.{flat_none, flat_more, flat_all}
use Rattle.cpfactor_lines.specs.Traces.{comment, vector_comments}
use Rattle.cpfactor_lines.proofs.trace.push_vectors.Goals as goal

pub loop-k-init : goal.loop-k-init
loop-k-init c = flat_none (λ (x : List ℕ). comment (map decimal x)) c.args.into.now.items

pub loop-k-preserved : goal.loop-k-preserved
loop-k-preserved c =
    flat_more (λ (x : List ℕ). comment (map decimal x)) c.args.vectors.now c.loop-k.k c.at.result.now _ _ _ c.at.ensures c.loop-k.invariant
    (c.in_ok-push_line_of.ensures ∙ ap (λ (x : List ℕ). c.loop-k.into.items ++ comment (map decimal x)) c.as_slice.ensures.value)

pub returns : goal.returns
unfolding vector_comments
returns c =
    let all : length c.args.vectors.now ≤ c.loop-k.k = omega (arith, c.len-k-end.ensures, c.loop-k-test.false) in
    flat_all (λ (x : List ℕ). comment (map decimal x)) c.args.vectors.now c.loop-k.k _ _ all c.loop-k.invariant
