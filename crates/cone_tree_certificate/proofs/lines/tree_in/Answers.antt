use Rattle.std.proofs.Common.{◌≡◌, ◌-◌, ◌∙◌, sym, refl, arith}
use Rattle.std.proofs.lemmas.Result.{err_from_is_err_and}
use Rattle.text_lines.specs.Readings.{many}
use Rattle.text_lines.proofs.Counted.{after_many, many_none, many_more, many_end}
use Rattle.cone_tree_certificate.specs.Words.{tree_line_of}
use Rattle.cone_tree_certificate.specs.ProofText.{missing_line, verdict_line}
use Rattle.cone_tree_certificate.proofs.Steps.{many_refused, refused_same}
use Rattle.cone_tree_certificate.proofs.lines.tree_in.Goals as goal

pub loop-index-init : goal.loop-index-init
loop-index-init c = let k : c.args.count - 0 ≡ c.args.count = omega arith in
    record { so_far = rw k (many_none c.in_ok-tree.tree _ c.in_ok-tree.ensures); end = refl }

pub loop-index-preserved : goal.loop-index-preserved
loop-index-preserved c =
    let is = rw c.loop-index.invariant.end at c.in_ok-next_tree_line.ensures.read in
    record {
      so_far = many_more (verdict_line (tree_line_of c.args.n)) (missing_line c.args.lines.now.end) c.loop-index.tree _ c.args.count c.loop-index.index
          c.loop-index.lines.lines c.next_tree_line.new.lines.lines c.in_ok-next_tree_line.field-0 c.loop-index-test.true is c.in_ok-push.ensures.ok
          ∙ c.loop-index.invariant.so_far;
      end = c.next_tree_line.ensures.end ∙ c.loop-index.invariant.end;
    }

pub returns-in_err-next_tree_line-clause-read : goal.returns-in_err-next_tree_line-clause-read
returns-in_err-next_tree_line-clause-read c =
    let p = err_from_is_err_and c.from_residual-in_err-next_tree_line.result c.from_residual-in_err-next_tree_line.ensures.1 in
    let is = rw c.loop-index.invariant.end at c.in_err-next_tree_line.ensures.read in
    rw (p.1, p.2)
    (refused_same
    (after_many c.loop-index.tree
    (many (verdict_line (tree_line_of c.args.n)) (missing_line c.args.lines.now.end) (c.args.count - c.loop-index.index) c.loop-index.lines.lines))
    (many (verdict_line (tree_line_of c.args.n)) (missing_line c.args.lines.now.end) c.args.count c.args.lines.now.lines)
    c.in_err-next_tree_line.field-0.0 (sym c.loop-index.invariant.so_far)
    (many_refused (verdict_line (tree_line_of c.args.n)) (missing_line c.args.lines.now.end) c.loop-index.tree c.args.count c.loop-index.index
    c.loop-index.lines.lines c.in_err-next_tree_line.field-0.0 c.loop-index-test.true is))

pub returns-in_err-next_tree_line-clause-end : goal.returns-in_err-next_tree_line-clause-end
returns-in_err-next_tree_line-clause-end c = c.next_tree_line.ensures.end ∙ c.loop-index.invariant.end

pub returns-clause-read : goal.returns-clause-read
returns-clause-read c = sym c.loop-index.invariant.so_far
    ∙ many_end (verdict_line (tree_line_of c.args.n)) (missing_line c.args.lines.now.end) c.loop-index.tree c.args.count c.loop-index.index
    c.loop-index.lines.lines c.loop-index-test.false
