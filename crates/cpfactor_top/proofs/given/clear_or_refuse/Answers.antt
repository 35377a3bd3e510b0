use Rattle.std.specs.Prelude.{None}
use Rattle.std.proofs.Common.{◌≡◌, refl, Err}
use Rattle.symmetric_matrix.specs.Owed.{answer}
use Rattle.matrix_text.specs.Clearing.{is_placed_owed, clear_ops, cleared_of}
use Rattle.perfect_walk.specs.declared.journal.Owed.TheVariants.{Clear}
use Rattle.cpfactor_top.specs.declared.ended.Cause.TheVariants.{Overflow}
use Rattle.cpfactor_top.specs.Causes.{ending_with, refusal_text}
use Rattle.cpfactor_top.specs.Outcomes.{Refuses}
use Rattle.cpfactor_top.specs.Given.{IsClearRefused}
use Rattle.cpfactor_top.proofs.OutcomeLaws.{ends_by_only, ends_by_none}
use Rattle.symmetric_matrix.proofs.Owed.{some_of_err}
use Rattle.matrix_text.proofs.Quotients.{cleared_positive}
use Rattle.cpfactor_top.proofs.given.clear_or_refuse.Goals as goal

pub returns-in-Ok-clause-positive : goal.returns-in-Ok-clause-positive
returns-in-Ok-clause-positive g c = cleared_positive c.args.a.now c.in-Ok.made.0 c.in-Ok.made.1 c.in-Ok.ensures.ok c.in-Ok.ensures.cleared

pub returns-in-Err-Wide-clause-refused : goal.returns-in-Err-Wide-clause-refused
returns-in-Err-Wide-clause-refused g c =
    let refused : answer is_placed_owed (clear_ops c.args.a.now) (cleared_of c.args.a.now)
    ≡ Err (record { row = c.in-Err-Wide.row; column = c.in-Err-Wide.column; op = c.in-Err-Wide.op }) =
    rw c.in-Err-Wide.field-0-is at c.in-Err-Wide.ensures.wide in
    let cause = Overflow (Clear c.in-Err-Wide.row c.in-Err-Wide.column c.in-Err-Wide.op) in
    ends_by_only (Refuses (IsClearRefused None c.args.a.now)) (ending_with None cause) (refusal_text cause) _ c.refuse.result
    (record { op = _; first = some_of_err is_placed_owed (clear_ops c.args.a.now) (cleared_of c.args.a.now) _ refused; ended = refl }, refl) c.refuse.ensures

pub returns-in-Err-OutOfMemory-clause-refused : goal.returns-in-Err-OutOfMemory-clause-refused
returns-in-Err-OutOfMemory-clause-refused g c = ends_by_none (Refuses (IsClearRefused None c.args.a.now)) _ _ c.want_memory.ensures
