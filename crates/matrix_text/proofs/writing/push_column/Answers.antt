use Rattle.std.proofs.lemmas.Result.{on_ok_weaker}
use Rattle.text_lines.specs.Spelling.{fraction_word}
use Rattle.text_lines.proofs.Written.{first_column, later_column}
use Rattle.matrix_text.proofs.writing.push_column.Goals as goal

pub returns-then-column-eq0-clause-ok : goal.returns-then-column-eq0-clause-ok
returns-then-column-eq0-clause-ok c =
    on_ok_weaker c.push_fraction.result
    (λ e. first_column c.args.column (fraction_word c.args.fraction) c.args.into.now.items c.push_fraction.new.into.items c.if-column-eq0.true e)
    c.push_fraction.ensures.ok

pub returns-clause-ok : goal.returns-clause-ok
returns-clause-ok c =
    on_ok_weaker c.push_fraction-2.result
    (λ e. later_column c.args.column (fraction_word c.args.fraction) c.args.into.now.items c.push.new.self.items c.push_fraction-2.new.into.items
    c.if-column-eq0.false c.in_ok-push.ensures.items e) c.push_fraction-2.ensures.ok
