use Rattle.std.proofs.Common.{◌≡◌, ◌++◌, ◌∙◌, ◌+◌, ◌-◌, arith, ap}
use Rattle.text_lines.specs.Spelling.{fraction_word}
use Rattle.cpfactor_lines.proofs.Comments.{cells, cells_none, cells_more}
use Rattle.cpfactor_lines.proofs.Summaries.{diagonal_word, diagonal_end}
use Rattle.cpfactor_lines.proofs.summary.push_diagonal.Goals as goal

pub loop-row-init : goal.loop-row-init
loop-row-init c = cells_none (diagonal_word c.args.a.now) _

pub loop-row-preserved : goal.loop-row-preserved
loop-row-preserved c =
    let row : c.loop-row.row + 1 - 1 ≡ c.loop-row.row = omega arith in
    let is = rw row at c.entry.ensures in
    cells_more (diagonal_word c.args.a.now) c.loop-row.row (fraction_word c.entry.result) _ _ _ _
    (ap fraction_word is) c.loop-row.invariant c.in_ok-push.ensures.items c.in_ok-push_fraction.ensures.ok

pub returns : goal.returns
returns c =
    let all : c.loop-row.row ≡ c.args.a.now.size = omega arith in
    diagonal_end c.args.a.now c.args.into.now.items _ _ _ c.in_ok-extend_from_slice.ensures.items
    (c.loop-row.invariant ∙ ap (λ k. c.extend_from_slice.new.self.items ++ cells (diagonal_word c.args.a.now) k) all) c.in_ok-push-2.ensures.items
