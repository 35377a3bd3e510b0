use Rattle.std.proofs.Common.{◌∙◌, ℕ, [], Result, Ok, Err, arith, refl, subst}
use Rattle.symmetric_matrix.specs.Symmetric.{entry}
use Rattle.unimodular_cone.specs.Cones.{unit_vectors}
use Rattle.certificate_checker.proofs.TreeWalks.{tree_over, tree_whole}
use Rattle.certificate_checker.specs.Rows.{at}
use Rattle.certificate_checker.specs.Tree.{tree_checks}
use Rattle.certificate_checker.specs.declared.checked.Checked.{Checked}
use Rattle.certificate_checker.specs.Walks.{FollowsAll, GoesOn}
use Rattle.certificate_checker.proofs.tree.check_tree.Goals as goal
use Rattle.certificate_checker.proofs.tree.check_tree.Goals.{After-n-n}

-- what the lines of the root answer is what follows from line 0 on
root_follows : (c : After-n-n) (result : Result ℕ Checked)
    → FollowsAll c.n-n.result (at c.rows_of-rows.result) c.args.tree.now 0 200 unit_vectors result
    → GoesOn c.args.w.now.size (entry c.args.w.now) c.args.tree.now 0 (record { generators = unit_vectors; levels = 200 }) [] result
root_follows c result f =
    let g : FollowsAll c.args.w.now.size (at c.rows_of-rows.result) c.args.tree.now 0 200 unit_vectors result =
    subst (λ (m : ℕ). FollowsAll m (at c.rows_of-rows.result) c.args.tree.now 0 200 unit_vectors result) c.n-n.ensures.value f in
    g (entry c.args.w.now) unit_vectors [] c.rows_of-rows.ensures.rows (λ k p lk lp. refl)

pub returns-then-end-len-clause-refused : goal.returns-then-end-len-clause-refused
unfolding tree_checks
returns-then-end-len-clause-refused c =
    root_follows (goal.at.returns-then-end-len-clause-refused c).After-n-n (Ok c.in-Ok.end) c.in-Ok.ensures
    ∙ tree_over c.args.w.now.size (entry c.args.w.now) c.args.tree.now c.in-Ok.end (omega (arith, c.if-end-len.true, c.len.ensures))

pub returns-else-end-len-clause-passes : goal.returns-else-end-len-clause-passes
unfolding tree_checks
returns-else-end-len-clause-passes c =
    root_follows (goal.at.returns-else-end-len-clause-passes c).After-n-n (Ok c.in-Ok.end) c.in-Ok.ensures
    ∙ tree_whole c.args.w.now.size (entry c.args.w.now) c.args.tree.now c.in-Ok.end (omega (arith, c.if-end-len.false, c.len.ensures))

pub returns-in-Err-clause-refused : goal.returns-in-Err-clause-refused
unfolding tree_checks
returns-in-Err-clause-refused c = root_follows (goal.at.returns-in-Err-clause-refused c).After-n-n (Err c.in-Err.refusal) c.in-Err.ensures
