use Rattle.std.proofs.Common.{◌≡◌, length, ◌∙◌, ap, sym, ℕ, arith, map, subst, refl}
use Rattle.symmetric_matrix.specs.StartVectors.{run_vector, late_runs, ListsStartVectors}
use Rattle.symmetric_matrix.proofs.Runs.{late_runs_none, start_list_is, lists_start_vectors, length-start_list}
use Rattle.symmetric_matrix.proofs.start.start_vectors.Goals as goal

pub loop-later-init : goal.loop-later-init
loop-later-init c = c.new-list.ensures ∙ (rw late_runs_none refl)

pub returns-clause-list : goal.returns-clause-list
returns-clause-list c =
    let done : c.loop-later.later ≡ c.args.n = omega arith in
    c.loop-later.invariant ∙ ap (λ (m : ℕ). map (run_vector c.args.n) (late_runs c.args.n m)) done ∙ sym (start_list_is c.args.n)

pub returns-clause-meaning : goal.returns-clause-meaning
returns-clause-meaning c = subst (ListsStartVectors c.args.n) (sym (returns-clause-list c)) (lists_start_vectors c.args.n)

pub returns-clause-count : goal.returns-clause-count
returns-clause-count c = ap length (returns-clause-list c) ∙ length-start_list c.args.n
