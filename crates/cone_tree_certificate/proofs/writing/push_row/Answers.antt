use Rattle.std.proofs.Common.{◌≡◌, ◌++◌, ◌∙◌, ◌+◌, ◌-◌, refl, arith, rules, ap, to_z, of_z}
use Rattle.std.specs.Int.{w128}
use Rattle.std.specs.Fmt.{signed_decimal}
use Rattle.std.proofs.lemmas.Int.{to_z-of_z}
use Rattle.text_lines.proofs.Written.{Extends-same, still_kept, columns, column_none, column_more, column_end}
use Rattle.cone_tree_certificate.proofs.WrittenLines.{entry_word}
use Rattle.cone_tree_certificate.proofs.writing.push_row.Goals as goal

pub loop-column-init : goal.loop-column-init
loop-column-init c = record { so_far = column_none (entry_word c.args.w.now c.args.row) c.args.into.now.items; kept = Extends-same _ _ refl }

pub loop-column-preserved : goal.loop-column-preserved
loop-column-preserved c =
    let row : c.args.row + 1 - 1 ≡ c.args.row = omega arith in
    let column : c.loop-column.column + 1 - 1 ≡ c.loop-column.column = omega arith in
    let is = rw (row, column) at c.get.ensures.value in
    let fits : to_z w128 (of_z w128 c.get.result) ≡ c.get.result = search (rules, to_z-of_z) in
    record {
      so_far = column_more (entry_word c.args.w.now c.args.row) c.loop-column.column (signed_decimal c.get.result) c.args.into.now.items
          c.loop-column.into.items c.push_column.new.into.items (ap signed_decimal is) c.loop-column.invariant.so_far
          (rw fits at c.in_ok-push_column.ensures.ok);
      kept = still_kept _ _ _ _ c.loop-column.invariant c.push_column.ensures.kept;
    }

pub returns-in_err-push_column-clause-kept : goal.returns-in_err-push_column-clause-kept
returns-in_err-push_column-clause-kept c = still_kept _ _ _ _ c.loop-column.invariant c.push_column.ensures.kept

pub returns-clause-ok : goal.returns-clause-ok
returns-clause-ok c =
    let all : c.loop-column.column ≡ c.args.w.now.size = omega arith in
    column_end (entry_word c.args.w.now c.args.row) c.args.w.now.size c.args.into.now.items c.loop-column.into.items c.push.new.self.items
    (c.loop-column.invariant.so_far ∙ ap (λ k. c.args.into.now.items ++ columns (entry_word c.args.w.now c.args.row) k) all) c.in_ok-push.ensures.items
