use Rattle.std.specs.Prelude.{Some, ℤ, pos, ◌≤ℤ◌}
use Rattle.std.proofs.Common.{◌≡◌, ◌∙◌, sym, ap, subst, inl, inr, Err, IfOk, rules, to_z, of_z}
use Rattle.std.proofs.lemmas.Int.{to_z-of_z}
use Rattle.std.specs.Int.{w128}
use Rattle.symmetric_matrix.specs.Owed.{answer}
use Rattle.symmetric_matrix.proofs.Owed.{some_of_err}
use Rattle.matrix_text.specs.Clearing.{is_placed_owed, clear_ops, cleared_of}
use Rattle.matrix_text.proofs.Quotients.{cleared_positive}
use Rattle.perfect_walk.specs.declared.journal.Owed.TheVariants.{Clear}
use Rattle.cpfactor_top.specs.declared.ended.Ended.{Ended}
use Rattle.cpfactor_top.specs.declared.ended.Cause.TheVariants.{Overflow}
use Rattle.cpfactor_top.specs.Causes.{ending_with, refusal_text}
use Rattle.cpfactor_top.specs.Solving.{no_visit, IsSolved, IsWalkAnswer}
use Rattle.cpfactor_top.proofs.WalkAnswers.{if_ok_follows}
use Rattle.cpfactor_top.proofs.solving.solve_text.Goals as goal

pub returns-in-Ok : goal.returns-in-Ok
returns-in-Ok g c =
    if_ok_follows (λ r. IsWalkAnswer c.args.trace c.args.limits c.args.a.now r.0 r.1.items)
    (λ r. IsWalkAnswer c.args.trace c.args.limits c.args.a.now r.0 r.1.items)
    (λ r. IsSolved c.args.trace c.args.limits c.args.a.now r.0 r.1.items) c.solve_cleared.result (λ r h k. inr h) c.solve_cleared.ensures
    c.solve_cleared.ensures

pub solve_cleared-requires-clause-positive : goal.solve_cleared-requires-clause-positive
solve_cleared-requires-clause-positive g c =
    let d : to_z w128 (of_z w128 c.in-Ok.d) ≡ c.in-Ok.d = search (rules, to_z-of_z) in
    subst (λ (x : ℤ). pos 1 ≤ℤ x) (sym d) (cleared_positive c.args.a.now c.in-Ok.s c.in-Ok.d c.in-Ok.ensures.ok c.in-Ok.ensures.cleared)

pub returns-in-Err-Wide : goal.returns-in-Err-Wide
returns-in-Err-Wide g c =
    let refused : answer is_placed_owed (clear_ops c.args.a.now) (cleared_of c.args.a.now)
    ≡ Err (record { row = c.in-Err-Wide.row; column = c.in-Err-Wide.column; op = c.in-Err-Wide.op }) =
    rw c.in-Err-Wide.field-0-is at c.in-Err-Wide.ensures.wide in
    let cause = Overflow (Clear c.in-Err-Wide.row c.in-Err-Wide.column c.in-Err-Wide.op) in
    let ended : IfOk c.refused_text.result (λ r. r.0 ≡ ending_with (Some no_visit) cause) = rw c.in-Err-Wide.field-0-is at c.refused_text.ensures.ended in
    let text : IfOk c.refused_text.result (λ r. r.1.items ≡ refusal_text cause) = rw c.in-Err-Wide.field-0-is at c.refused_text.ensures.text in
    if_ok_follows (λ r. r.0 ≡ ending_with (Some no_visit) cause) (λ r. r.1.items ≡ refusal_text cause)
    (λ r. IsSolved c.args.trace c.args.limits c.args.a.now r.0 r.1.items) c.refused_text.result
    (λ r ended text. inl (
      record { op = _; first = some_of_err is_placed_owed (clear_ops c.args.a.now) (cleared_of c.args.a.now) _ refused; ended = ended },
      text ∙ ap (λ (e : Ended). refusal_text e.cause) (sym ended),
    ))
    ended text
