use Rattle.std.proofs.Common.{◌≡◌, ◌++◌, ◌∙◌, ◌+◌, ◌-◌, refl, arith, ap}
use Rattle.matrix_text.specs.RationalMatrix.{rational_entry}
use Rattle.text_lines.specs.Spelling.{fraction_word}
use Rattle.text_lines.proofs.Written.{Extends-same, still_kept, columns, column_none, column_more}
use Rattle.matrix_text.proofs.Written.{row_word, row_end}
use Rattle.matrix_text.proofs.writing.push_row.Goals as goal

pub loop-column-init : goal.loop-column-init
loop-column-init c =
    record { so_far = column_none (row_word (λ j. rational_entry c.args.a.now c.args.row j)) c.args.into.now.items; kept = Extends-same _ _ refl }

pub loop-column-preserved : goal.loop-column-preserved
loop-column-preserved c =
    let row : c.args.row + 1 - 1 ≡ c.args.row = omega arith in
    let column : c.loop-column.column + 1 - 1 ≡ c.loop-column.column = omega arith in
    let is = rw (row, column) at c.entry.ensures in
    record {
      so_far = column_more (row_word (λ j. rational_entry c.args.a.now c.args.row j)) c.loop-column.column (fraction_word c.entry.result) c.args.into.now.items
          c.loop-column.into.items c.push_column.new.into.items (ap fraction_word is) c.loop-column.invariant.so_far c.in_ok-push_column.ensures.ok;
      kept = still_kept _ _ _ _ c.loop-column.invariant c.push_column.ensures.kept;
    }

pub returns-clause-ok : goal.returns-clause-ok
returns-clause-ok c =
    let all : c.loop-column.column ≡ c.args.a.now.size = omega arith in
    row_end (λ j. rational_entry c.args.a.now c.args.row j) c.args.a.now.size c.args.into.now.items c.loop-column.into.items c.push.new.self.items
    (c.loop-column.invariant.so_far ∙ ap (λ k. c.args.into.now.items ++ columns (row_word (λ j. rational_entry c.args.a.now c.args.row j)) k) all)
    c.in_ok-push.ensures.items
