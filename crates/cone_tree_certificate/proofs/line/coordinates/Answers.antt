use Rattle.std.proofs.Common.{take, ◌∙◌, sym, arith, rules}
use Rattle.std.proofs.lemmas.List.{length-set}
use Rattle.std.proofs.lemmas.Result.{err_from_is_err_and}
use Rattle.text_lines.proofs.Fronts.{number_more, number_fault, number_long}
use Rattle.cone_tree_certificate.specs.Words.{whole_word, largest_coordinate}
use Rattle.cone_tree_certificate.specs.declared.fault.VerdictKind.TheVariants.{ShortLine, LongLine}
use Rattle.cone_tree_certificate.proofs.line.coordinates.Goals as goal

pub returns-in_err-vector : goal.returns-in_err-vector
returns-in_err-vector c =
    let p = err_from_is_err_and c.from_residual.result c.from_residual.ensures.1 in
    rw (p.1, p.2) (sym c.loop-place.invariant.so_far
    ∙ number_fault (whole_word largest_coordinate) ShortLine LongLine _ c.args.n c.loop-place.place c.loop-place.words c.in-Some.word.now
    c.next.new.self _ c.loop-place-test.true (search rules) (search rules))

pub loop-place-preserved : goal.loop-place-preserved
loop-place-preserved c = record {
  so_far = number_more (whole_word largest_coordinate) ShortLine LongLine c.loop-place.vector c.args.n c.loop-place.place c.loop-place.words c.in-Some.word.now
      c.next.new.self c.in_ok-vector.field-0 c.loop-place-test.true (omega arith) (search rules) (search rules) ∙ c.loop-place.invariant.so_far;
  room = length-set c.loop-place.vector _ _ ∙ c.loop-place.invariant.room;
}

pub returns-in-Some-next : goal.returns-in-Some-next
returns-in-Some-next c = sym c.loop-place.invariant.so_far
    ∙ number_long (whole_word largest_coordinate) ShortLine LongLine (take c.loop-place.place c.loop-place.vector) c.args.n c.loop-place.place
    c.loop-place.words c.in-Some-next.field-0.now c.next-2.new.self c.loop-place-test.false (search rules)
