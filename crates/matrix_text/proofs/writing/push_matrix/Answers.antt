use Rattle.std.proofs.Common.{◌≡◌, ◌++◌, ◌∙◌, rules, arith, ap, ℤ, pos, to_z, of_z}
use Rattle.std.specs.Int.{w128}
use Rattle.std.specs.Fmt.{decimal, signed_decimal}
use Rattle.std.proofs.lemmas.Int.{to_z-of_z}
use Rattle.text_lines.proofs.Written.{Extends-append, Extends-then, still_kept}
use Rattle.matrix_text.proofs.Written.{begin, begun, begun_more, begun_end}
use Rattle.matrix_text.proofs.writing.push_matrix.Goals as goal

pub loop-row-init : goal.loop-row-init
loop-row-init c =
    let a = c.in_ok-push_number.ensures.ok in
    let fits : to_z w128 (of_z w128 c.from.result) ≡ c.from.result = search (rules, to_z-of_z) in
    let size : to_z w128 (of_z w128 c.from.result) ≡ pos c.args.a.now.size = fits ∙ c.from.ensures ∙ ap pos c.n.ensures.value in
    let two : c.push_number.new.into.items ≡ c.extend_from_slice.new.self.items ++ decimal c.args.a.now.size = a
    ∙ ap (λ (z : ℤ). c.extend_from_slice.new.self.items ++ signed_decimal z) size in
    record {
      so_far = begin c.args.a.now c.args.into.now.items c.extend_from_slice.new.self.items c.push_number.new.into.items c.push.new.self.items
          c.in_ok-extend_from_slice.ensures.items two c.in_ok-push.ensures.items;
      kept = Extends-then c.args.into.now.items c.extend_from_slice.new.self.items c.push.new.self.items
          (Extends-append c.args.into.now.items _ c.extend_from_slice.new.self.items c.in_ok-extend_from_slice.ensures.items)
          (Extends-then c.extend_from_slice.new.self.items c.push_number.new.into.items c.push.new.self.items c.push_number.ensures.kept
          (Extends-append c.push_number.new.into.items _ c.push.new.self.items c.in_ok-push.ensures.items));
    }

pub loop-row-preserved : goal.loop-row-preserved
loop-row-preserved c = record {
  so_far = begun_more c.args.a.now c.loop-row.row c.args.into.now.items c.loop-row.into.items c.push_row.new.into.items c.loop-row.invariant.so_far
      c.in_ok-push_row.ensures.ok;
  kept = still_kept _ _ _ _ c.loop-row.invariant c.push_row.ensures.kept;
}

pub returns-clause-ok : goal.returns-clause-ok
returns-clause-ok c =
    let all : c.loop-row.row ≡ c.args.a.now.size = omega arith in
    begun_end c.args.a.now c.args.into.now.items c.loop-row.into.items (c.loop-row.invariant.so_far
    ∙ ap (λ k. c.args.into.now.items ++ begun c.args.a.now k) all)
