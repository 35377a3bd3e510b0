use Rattle.std.proofs.Common.{take, ◌≡◌, ◌∙◌, sym, arith, rules, to_z, of_z}
use Rattle.std.specs.Int.{w128}
use Rattle.std.proofs.lemmas.Int.{to_z-of_z}
use Rattle.std.proofs.lemmas.List.{length-set}
use Rattle.std.proofs.lemmas.Result.{err_from_is_err_and}
use Rattle.text_lines.proofs.Fronts.{number_more, number_fault, number_long}
use Rattle.cone_tree_certificate.specs.Words.{signed_word, widest}
use Rattle.cone_tree_certificate.specs.declared.fault.VerdictKind.TheVariants.{ShortLine, LongLine}
use Rattle.cone_tree_certificate.proofs.line.row.Goals as goal

pub returns-in_err-row : goal.returns-in_err-row
returns-in_err-row c =
    let p = err_from_is_err_and c.from_residual.result c.from_residual.ensures.1 in
    rw (p.1, p.2) (sym c.loop-column.invariant.so_far
    ∙ number_fault (signed_word widest) ShortLine LongLine _ c.args.n c.loop-column.column c.loop-column.words c.in-Some.word.now c.next.new.self _
    c.loop-column-test.true (search rules) (search rules))

pub loop-column-preserved : goal.loop-column-preserved
loop-column-preserved c =
    let fits : to_z w128 (of_z w128 c.in_ok-row.field-0) ≡ c.in_ok-row.field-0 = search (rules, to_z-of_z) in
    record {
      so_far = rw fits
          (number_more (signed_word widest) ShortLine LongLine c.loop-column.row c.args.n c.loop-column.column c.loop-column.words c.in-Some.word.now
          c.next.new.self c.in_ok-row.field-0 c.loop-column-test.true (omega arith) (search rules) (search rules) ∙ c.loop-column.invariant.so_far);
      room = length-set c.loop-column.row _ _ ∙ c.loop-column.invariant.room;
    }

pub returns-in-Some-next : goal.returns-in-Some-next
returns-in-Some-next c = sym c.loop-column.invariant.so_far
    ∙ number_long (signed_word widest) ShortLine LongLine (take c.loop-column.column c.loop-column.row) c.args.n c.loop-column.column c.loop-column.words
    c.in-Some-next.field-0.now c.next-2.new.self c.loop-column-test.false (search rules)
