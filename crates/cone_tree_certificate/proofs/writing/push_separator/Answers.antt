use Rattle.std.proofs.Common.{arith}
use Rattle.std.proofs.lemmas.Result.{on_ok_weaker}
use Rattle.text_lines.specs.Spelling.{Extends}
use Rattle.text_lines.proofs.Written.{Extends-then}
use Rattle.cone_tree_certificate.proofs.WrittenLines.{separator_made}
use Rattle.cone_tree_certificate.proofs.writing.push_separator.Goals as goal
use Rattle.cone_tree_certificate.proofs.writing.push_separator.Goals.{After-push_heading-2, After-push_value}

-- what stood there still does, once the value is written, and once the tree's heading is
kept_value : (c : After-push_value) → Extends c.args.into.now.items c.push_value.new.into.items
kept_value c = Extends-then c.args.into.now.items c.push_rows.new.into.items c.push_value.new.into.items
    (Extends-then c.args.into.now.items c.push_heading.new.into.items c.push_rows.new.into.items c.push_heading.ensures.kept c.push_rows.ensures.kept)
    c.push_value.ensures.kept

kept_heading : (c : After-push_heading-2) → Extends c.args.into.now.items c.push_value.new.into.items
    → Extends c.args.into.now.items c.push_heading-2.new.into.items
kept_heading c value = Extends-then c.args.into.now.items c.push_value.new.into.items c.push_heading-2.new.into.items value c.push_heading-2.ensures.kept

pub returns-in_err-push_value-clause-kept : goal.returns-in_err-push_value-clause-kept
returns-in_err-push_value-clause-kept c = kept_value (goal.at.returns-in_err-push_value-clause-kept c).After-push_value

pub returns-in_err-push_heading-2-clause-kept : goal.returns-in_err-push_heading-2-clause-kept
returns-in_err-push_heading-2-clause-kept c =
    let at = goal.at.returns-in_err-push_heading-2-clause-kept c in
    kept_heading at.After-push_heading-2 (kept_value at.After-push_value)

pub returns-clause-kept : goal.returns-clause-kept
returns-clause-kept c =
    let at = goal.at.returns-clause-kept c in
    Extends-then c.args.into.now.items c.push_heading-2.new.into.items c.push_tree.new.into.items
    (kept_heading at.After-push_heading-2 (kept_value at.After-push_value)) c.push_tree.ensures.kept

pub returns-clause-ok : goal.returns-clause-ok
returns-clause-ok c = on_ok_weaker c.push_tree.result (λ e.
    separator_made c.args.w.now c.args.value c.args.tree.now c.n.result c.len.result c.args.into.now.items c.push_heading.new.into.items
    c.push_rows.new.into.items c.push_value.new.into.items c.push_heading-2.new.into.items c.push_tree.new.into.items c.n.ensures.value c.len.ensures
    c.in_ok-push_heading.ensures.ok c.in_ok-push_rows.ensures.ok c.in_ok-push_value.ensures.ok c.in_ok-push_heading-2.ensures.ok e) c.push_tree.ensures.ok

pub returns-clause-whole : goal.returns-clause-whole
returns-clause-whole c = on_ok_weaker c.push_tree.result (λ e. record {
  matrix = c.n.ensures.matrix;
  num = c.in_ok-push_value.ensures.num;
  den = c.in_ok-push_value.ensures.den;
  tree_length = omega (arith, c.len.ensures);
}) c.push_tree.ensures.ok
