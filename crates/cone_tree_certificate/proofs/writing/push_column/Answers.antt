use Rattle.std.proofs.Common.{◌≡◌, rules, to_z, of_z}
use Rattle.std.specs.Int.{w128}
use Rattle.std.specs.Fmt.{signed_decimal}
use Rattle.std.proofs.lemmas.Int.{to_z-of_z}
use Rattle.std.proofs.lemmas.Result.{on_ok_weaker}
use Rattle.text_lines.proofs.Written.{first_column, later_column}
use Rattle.cone_tree_certificate.proofs.writing.push_column.Goals as goal

pub returns-then-column-eq0-clause-ok : goal.returns-then-column-eq0-clause-ok
returns-then-column-eq0-clause-ok c =
    let fits : to_z w128 (of_z w128 c.args.number) ≡ c.args.number = simp (to_z-of_z, c.ranges.number) in
    on_ok_weaker c.push_number.result
    (λ e. first_column c.args.column (signed_decimal c.args.number) c.args.into.now.items c.push_number.new.into.items c.if-column-eq0.true (rw fits at e))
    c.push_number.ensures.ok

pub returns-clause-ok : goal.returns-clause-ok
returns-clause-ok c =
    let fits : to_z w128 (of_z w128 c.args.number) ≡ c.args.number = simp (to_z-of_z, c.ranges.number) in
    on_ok_weaker c.push_number-2.result
    (λ e. later_column c.args.column (signed_decimal c.args.number) c.args.into.now.items c.push.new.self.items c.push_number-2.new.into.items
    c.if-column-eq0.false c.in_ok-push.ensures.items (rw fits at e)) c.push_number-2.ensures.ok
