use Rattle.std.proofs.Common.{◌≡◌, ◌∙◌, sym, arith, Ok}
use Rattle.std.proofs.lemmas.List.{length-set}
use Rattle.symmetric_matrix.specs.Owed.{answer}
use Rattle.exact_forms.specs.Rational.{◌/ℚ◌}
use Rattle.exact_linear.specs.Exchange.{entry_is_owed, divide_entry}
use Rattle.exact_linear.proofs.Rows.{divide_refused, divide_done, divide_made, divide_nothing, divide_whole}
use Rattle.exact_linear.proofs.pivot.divide_row.Goals as goal

pub loop-j-preserved : goal.loop-j-preserved
loop-j-preserved c =
    let l = c.loop-j-test.true in
    let h : answer entry_is_owed (divide_entry c.args.row c.loop-j.j c.index-from-j.result c.args.pivot) ((c.index-from-j.result /ℚ c.args.pivot))
    ≡ Ok c.in_ok-into.field-0 = sym c.divided_at.ensures ∙ c.in_ok-into.was in
    record {
      size = length-set c.loop-j.into c.loop-j.j c.in_ok-into.field-0 ∙ c.loop-j.invariant.size;
      same = c.loop-j.invariant.same
          ∙ divide_done c.args.row c.loop-j.j c.args.pivot c.index-from-j.result c.in_ok-into.field-0 c.args.from.now c.loop-j.into l c.index-from-j.is h;
      made = sym (divide_made c.args.row c.loop-j.j c.args.pivot c.index-from-j.result c.in_ok-into.field-0 c.args.from.now c.loop-j.into l
          c.loop-j.invariant.size c.index-from-j.is h) ∙ c.loop-j.invariant.made;
    }

pub returns-in_err-into-clause-refused : goal.returns-in_err-into-clause-refused
returns-in_err-into-clause-refused c = grind (arith, divide_refused)

pub returns-clause-refused : goal.returns-clause-refused
returns-clause-refused c = grind (arith, divide_nothing)

pub returns-clause-made : goal.returns-clause-made
returns-clause-made c = grind (arith, divide_whole)
