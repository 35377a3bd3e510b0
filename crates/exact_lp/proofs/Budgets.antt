-- The operations that are due under a budget of steps.
use Rattle.std.specs.Prelude.{◌≡◌, ℕ, Bool, true, false, not, ◌&&◌, nat_eq, Some, if◌then◌else◌}
use Rattle.std.proofs.Common.{sym, ◌∙◌, ap, ap₂, refl}
use Rattle.commutative_ring.proofs.SmallCases.{both_true, not_true, same_of_test, test_of_same}
use Rattle.symmetric_matrix.proofs.Owed.{first_owed-append_some}
use Rattle.exact_linear.specs.Tables.{is_there}
use Rattle.exact_lp.specs.declared.placed.PlaceOp.{PlaceOp}
use Rattle.exact_lp.specs.Rule.{entering}
use Rattle.exact_lp.specs.Placement.{Problem, place_is_owed, first_owed_in, table_after, is_last, is_step_due, IsStepDue, opening_ops, closing_ops, leg_ops}
use Rattle.exact_lp.specs.Placement.{ops_within, IsOwedAfter}

pub due_fact : (p : Problem) (k : ℕ) → is_step_due p k ≡ true → IsStepDue p k
due_fact p k h =
    let b = both_true (not (is_last p k)) (is_there (entering (table_after p k) p.vectors)) h in
    record { not_last = not_true (is_last p k) b.0; vector = b.1 }

pub due_test : (p : Problem) (k : ℕ) → IsStepDue p k → is_step_due p k ≡ true
due_test p k D = ap₂ (λ (x : Bool) (y : Bool). not x && y) D.not_last D.vector

module _ (p : Problem) (budget k : ℕ) (op : PlaceOp) where
  abbrev refused : Bool
  refused = nat_eq k budget && is_step_due p k

  pub owed_after : first_owed_in (leg_ops p k) ≡ Some op → (k ≡ budget → IsStepDue p k → first_owed_in (opening_ops p k) ≡ Some op) → IsOwedAfter p budget op k
  unfolding ops_within
  owed_after f b = by refused refl
    where
      by : (x : Bool) → refused ≡ x → first_owed_in (if refused then opening_ops p k else leg_ops p k) ≡ Some op
      by true e =
          let h = both_true (nat_eq k budget) (is_step_due p k) e in
          ap (λ (x : Bool). first_owed_in (if x then opening_ops p k else leg_ops p k)) e ∙ b (same_of_test k budget h.0) (due_fact p k h.1)
      by false e = ap (λ (x : Bool). first_owed_in (if x then opening_ops p k else leg_ops p k)) e ∙ f

  -- it is the first one of the whole leg too
  pub owed_first : IsOwedAfter p budget op k → first_owed_in (leg_ops p k) ≡ Some op
  unfolding ops_within
  owed_first o = by refused refl
    where
      by : (x : Bool) → refused ≡ x → first_owed_in (leg_ops p k) ≡ Some op
      by true e =
          first_owed-append_some place_is_owed (opening_ops p k) (closing_ops p k) op
          (sym (ap (λ (x : Bool). first_owed_in (if x then opening_ops p k else leg_ops p k)) e) ∙ o)
      by false e = sym (ap (λ (x : Bool). first_owed_in (if x then opening_ops p k else leg_ops p k)) e) ∙ o

  pub owed_before : IsOwedAfter p budget op k → k ≡ budget → IsStepDue p k → first_owed_in (opening_ops p k) ≡ Some op
  unfolding ops_within
  owed_before o u D =
      let e : refused ≡ true = ap₂ (λ (x : Bool) (y : Bool). x && y) (test_of_same k budget u) (due_test p k D) in
      sym (ap (λ (x : Bool). first_owed_in (if x then opening_ops p k else leg_ops p k)) e) ∙ o
