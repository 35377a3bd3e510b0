use Rattle.std.proofs.Common.{◌≡◌, ◌++◌, ◌∙◌, refl, arith, ap}
use Rattle.std.specs.List.{flat_map, range_with_len}
use Rattle.text_lines.proofs.Written.{Extends-same, still_kept}
use Rattle.cone_tree_certificate.proofs.WrittenLines.{row_line, flat_none, rows_more, rows_end}
use Rattle.cone_tree_certificate.proofs.writing.push_rows.Goals as goal

pub loop-row-init : goal.loop-row-init
loop-row-init c = record { so_far = flat_none (row_line c.args.w.now) c.args.into.now.items; kept = Extends-same _ _ refl }

pub loop-row-preserved : goal.loop-row-preserved
loop-row-preserved c = record {
  so_far = rows_more c.args.w.now c.loop-row.row c.args.into.now.items c.loop-row.into.items c.push_row.new.into.items c.loop-row.invariant.so_far
      c.in_ok-push_row.ensures.ok;
  kept = still_kept _ _ _ _ c.loop-row.invariant c.push_row.ensures.kept;
}

pub returns-in_err-push_row-clause-kept : goal.returns-in_err-push_row-clause-kept
returns-in_err-push_row-clause-kept c = still_kept _ _ _ _ c.loop-row.invariant c.push_row.ensures.kept

pub returns-clause-ok : goal.returns-clause-ok
returns-clause-ok c =
    let all : c.loop-row.row ≡ c.args.w.now.size = omega arith in
    rows_end c.args.w.now c.args.into.now.items c.loop-row.into.items (c.loop-row.invariant.so_far
    ∙ ap (λ k. c.args.into.now.items ++ flat_map (row_line c.args.w.now) (range_with_len 0 k)) all)
