use Rattle.std.proofs.Common.{◌≡◌, pos, take, ◌∙◌, ap, subst, List, ℤ}
use Rattle.std.specs.List.{AllByRecursion}
use Rattle.std.specs.Ordering.{int_eq}
use Rattle.std.proofs.lemmas.Result.{err_from_is_err_and}
use Rattle.symmetric_matrix.specs.Symmetric.{FitsInt}
use Rattle.text_lines.specs.Square.{first_unlike}
use Rattle.cone_tree_certificate.specs.ProofText.{missing_line, row_entries, unless_unlike, separator_of}
use Rattle.cone_tree_certificate.specs.Rows.{seen_rows, w_entries}
use Rattle.cone_tree_certificate.proofs.Steps.{refused_same, reads_same}
use Rattle.cone_tree_certificate.proofs.Symmetries.{entries-seen}
use Rattle.cone_tree_certificate.proofs.Writable.{rows-narrow}
use Rattle.cone_tree_certificate.proofs.Wholes.{after_count, after_tree, rows_refused, rows_read, value_refused, up_to_value, count_refused, up_to_count}
use Rattle.cone_tree_certificate.proofs.Wholes.{tree_refused}
use Rattle.cone_tree_certificate.proofs.Wholes.{tree_read, nothing_left}
use Rattle.cone_tree_certificate.proofs.separator.separator_in.Goals as goal
use Rattle.cone_tree_certificate.proofs.separator.separator_in.Goals.{After-tree_in, After-end_of_lines}

-- what the lines are, once the count is read
count_here : (c : After-tree_in) → separator_of c.args.n c.args.lines.end c.args.lines.lines
    ≡ after_count c.args.n c.args.lines.end (seen_rows c.args.n (take c.args.n c.in_ok-rows.rows)) c.in_ok-value.value c.in_ok-count.count
    c.next_count.new.lines.lines
count_here c =
    up_to_count c.args.n c.args.lines.end c.args.lines.lines _ c.in_ok-rows.ensures.read c.in_ok-value.value c.next_value.new.lines.lines
    (rw c.rows_in.ensures.end at c.in_ok-value.ensures.read) c.in_ok-count.count c.next_count.new.lines.lines
    (rw (c.next_value.ensures.end, c.rows_in.ensures.end) at c.in_ok-count.ensures.read)

-- and once the tree is
tree_here : (c : After-end_of_lines)
    → after_count c.args.n c.args.lines.end (seen_rows c.args.n (take c.args.n c.in_ok-rows.rows)) c.in_ok-value.value c.in_ok-count.count
    c.next_count.new.lines.lines
    ≡ after_tree (seen_rows c.args.n (take c.args.n c.in_ok-rows.rows)) c.in_ok-value.value c.in_ok-tree.tree c.tree_in.new.lines.lines
tree_here c =
    tree_read c.args.n c.args.lines.end (seen_rows c.args.n (take c.args.n c.in_ok-rows.rows)) c.in_ok-value.value c.in_ok-count.count
    c.next_count.new.lines.lines _
    (rw (c.next_count.ensures.end, c.next_value.ensures.end, c.rows_in.ensures.end) at c.in_ok-tree.ensures.read)

pub returns-in_err-rows : goal.returns-in_err-rows
returns-in_err-rows c =
    let p = err_from_is_err_and c.from_residual.result c.from_residual.ensures.1 in
    rw (p.1, p.2) (rows_refused c.args.n c.args.lines.end c.args.lines.lines c.in_err-rows.field-0.0 c.in_err-rows.ensures.read)

pub returns-in_err-value : goal.returns-in_err-value
returns-in_err-value c =
    let p = err_from_is_err_and c.from_residual-in_err-value.result c.from_residual-in_err-value.ensures.1 in
    let is = rw c.rows_in.ensures.end at c.in_err-value.ensures.read in
    rw (p.1, p.2) (refused_same _ (separator_of c.args.n c.args.lines.end c.args.lines.lines) c.in_err-value.field-0.0
    (rows_read c.args.n c.args.lines.end c.args.lines.lines _ c.in_ok-rows.ensures.read)
    (value_refused c.args.n c.args.lines.end (seen_rows c.args.n (take c.args.n c.in_ok-rows.rows)) c.rows_in.new.lines.lines c.in_err-value.field-0.0 is))

pub returns-in_err-count : goal.returns-in_err-count
returns-in_err-count c =
    let p = err_from_is_err_and c.from_residual-in_err-count.result c.from_residual-in_err-count.ensures.1 in
    let is = rw (c.next_value.ensures.end, c.rows_in.ensures.end) at c.in_err-count.ensures.read in
    rw (p.1, p.2) (refused_same _ (separator_of c.args.n c.args.lines.end c.args.lines.lines) c.in_err-count.field-0.0
    (up_to_value c.args.n c.args.lines.end c.args.lines.lines _ c.in_ok-rows.ensures.read c.in_ok-value.value c.next_value.new.lines.lines
    (rw c.rows_in.ensures.end at c.in_ok-value.ensures.read))
    (count_refused c.args.n c.args.lines.end (seen_rows c.args.n (take c.args.n c.in_ok-rows.rows)) c.in_ok-value.value c.next_value.new.lines.lines
    c.in_err-count.field-0.0 is))

pub returns-in_err-tree : goal.returns-in_err-tree
returns-in_err-tree c =
    let p = err_from_is_err_and c.from_residual-in_err-tree.result c.from_residual-in_err-tree.ensures.1 in
    let is = rw (c.next_count.ensures.end, c.next_value.ensures.end, c.rows_in.ensures.end) at c.in_err-tree.ensures.read in
    rw (p.1, p.2) (refused_same _ (separator_of c.args.n c.args.lines.end c.args.lines.lines) c.in_err-tree.field-0.0
    (count_here (goal.at.returns-in_err-tree c).After-tree_in)
    (tree_refused c.args.n c.args.lines.end (seen_rows c.args.n (take c.args.n c.in_ok-rows.rows)) c.in_ok-value.value c.in_ok-count.count
    c.next_count.new.lines.lines c.in_err-tree.field-0.0 is))

pub returns-in_err-end_of_lines : goal.returns-in_err-end_of_lines
returns-in_err-end_of_lines c =
    let p = err_from_is_err_and c.from_residual-in_err-end_of_lines.result c.from_residual-in_err-end_of_lines.ensures.1 in
    rw (p.1, p.2) (refused_same _ (separator_of c.args.n c.args.lines.end c.args.lines.lines) c.in_err-end_of_lines.field-0.0
    (count_here (goal.at.returns-in_err-end_of_lines c).After-tree_in ∙ tree_here (goal.at.returns-in_err-end_of_lines c).After-end_of_lines)
    (c.in_err-end_of_lines.ensures
    (unless_unlike (seen_rows c.args.n (take c.args.n c.in_ok-rows.rows)) c.in_ok-value.value c.in_ok-tree.tree
    (first_unlike int_eq (pos 0) (row_entries (seen_rows c.args.n (take c.args.n c.in_ok-rows.rows)))))))

pub separated-requires : goal.separated-requires
unfolding w_entries
separated-requires c =
    subst (AllByRecursion (AllByRecursion FitsInt)) (entries-seen c.args.n (take c.args.n c.in_ok-rows.rows))
    (rows-narrow c.args.n c.args.n (missing_line c.args.lines.end) c.args.lines.lines _ c.in_ok-rows.ensures.read)

pub returns : goal.returns
unfolding w_entries
returns c = reads_same (λ v. v) c.separated.result _ (separator_of c.args.n c.args.lines.end c.args.lines.lines)
    (count_here (goal.at.returns c).After-tree_in ∙ tree_here (goal.at.returns c).After-end_of_lines
    ∙ nothing_left (seen_rows c.args.n (take c.args.n c.in_ok-rows.rows)) c.in_ok-value.value c.in_ok-tree.tree c.tree_in.new.lines.lines
    c.in_ok-end_of_lines.ensures
    ∙ ap (λ (es : List (List ℤ)). unless_unlike (seen_rows c.args.n (take c.args.n c.in_ok-rows.rows)) c.in_ok-value.value c.in_ok-tree.tree
    (first_unlike int_eq (pos 0) es)) (entries-seen c.args.n (take c.args.n c.in_ok-rows.rows))) c.separated.ensures
