use Rattle.cpfactor_top.specs.Solving.{IsSolved, IsSolveDue}
use Rattle.cpfactor_top.specs.Answers.{IsBytesAnswer}
use Rattle.cpfactor_top.proofs.OutcomeLaws.{ends_yield, ends_with_status}
use Rattle.cpfactor_top.proofs.AnswerLaws.{solving, bytes_is_due, bytes_due_once, bytes_status}
use Rattle.cpfactor_top.proofs.EasyMatrices.{easy_due, factors_at_once}
use Rattle.cpfactor_top.proofs.solving.solve_alone.Goals as goal

pub returns-clause-status : goal.returns-clause-status
returns-clause-status g c =
    let A = IsSolved c.args.trace c.args.limits in let D = IsSolveDue c.args.limits in let Q = solving c.args.trace c.args.limits in
    ends_with_status (IsBytesAnswer A c.args.bytes.now) _ _ (λ e text h. bytes_status A D Q c.args.bytes.now e (bytes_is_due A D Q c.args.bytes.now e text h))
    c.solve_with.ensures

pub returns-clause-due : goal.returns-clause-due
returns-clause-due g c e due =
    let A = IsSolved c.args.trace c.args.limits in let D = IsSolveDue c.args.limits in let Q = solving c.args.trace c.args.limits in
    ends_yield (IsBytesAnswer A c.args.bytes.now) _ e c.solve_with.result
    (λ text h. bytes_due_once A D Q c.args.bytes.now c.solve_with.result e (bytes_is_due A D Q c.args.bytes.now c.solve_with.result text h) due)
    c.solve_with.ensures

pub returns-clause-first_cone : goal.returns-clause-first_cone
returns-clause-first_cone g c a text easy =
    let A = IsSolved c.args.trace c.args.limits in let D = IsSolveDue c.args.limits in let Q = solving c.args.trace c.args.limits in
    let due = easy_due c.args.limits c.args.bytes.now a text easy in
    factors_at_once due.0 c.solve_with.result due.2
    (ends_yield (IsBytesAnswer A c.args.bytes.now) _ due.0 c.solve_with.result
    (λ t h. bytes_due_once A D Q c.args.bytes.now c.solve_with.result due.0 (bytes_is_due A D Q c.args.bytes.now c.solve_with.result t h) due.1)
    c.solve_with.ensures)
