-- At most one answer, want of memory aside, fits a problem and a budget.
use Rattle.std.specs.Prelude.{◌≡◌, ℕ, zero, suc, ◌<◌, ◌⊎◌, true, false, List, [], ◌++◌, length, Option, Some, None}
use Rattle.std.proofs.Common.{arith, sym, ◌∙◌, ap, ap₂, refl, subst, inl, inr}
use Rattle.commutative_ring.proofs.SmallCases.{here_or_before, three_ways}
use Rattle.symmetric_matrix.proofs.Owed.{first_owed-append_none, first_owed-append_some}
use Rattle.exact_linear.specs.Tables.{is_there}
use Rattle.exact_lp.specs.declared.placed.Exchange.{Exchange}
use Rattle.exact_lp.specs.declared.placed.PlaceOp.{PlaceOp}
use Rattle.exact_lp.specs.declared.placed.Placed.{Placed}
use Rattle.exact_lp.specs.declared.placed.Placed.TheVariants.{Inside, Outside, Pivots, Wide, OutOfMemory}
use Rattle.exact_lp.specs.Rule.{entering}
use Rattle.exact_lp.specs.Placement.{Problem, place_is_owed, first_owed_in, table_after, steps_of, is_last, IsStepDue, leg_ops, legs, IsRun, IsInsideAfter}
use Rattle.exact_lp.specs.Placement.{IsOutsideAfter, IsRefusedAfter, IsOwedAfter, IsPlaceAnswer}
use Rattle.exact_lp.specs.Theorems.{AtMostOnePlaceAnswer}
use Rattle.exact_lp.proofs.Budgets.{owed_first, owed_before}
use Rattle.exact_lp.proofs.Placing.{not_due}

-- ---- nothing of a part is owed
none_before : (xs ys : List PlaceOp) → first_owed_in (xs ++ ys) ≡ None → first_owed_in xs ≡ None
none_before xs ys h = by (first_owed_in xs) refl
  where
    by : (o : Option PlaceOp) → first_owed_in xs ≡ o → first_owed_in xs ≡ None
    by None e = e
    by (Some op) e = absurd (let f = first_owed-append_some place_is_owed xs ys op e in cc)

none_of_leg : (p : Problem) (k n : ℕ) → k < n → first_owed_in (legs p n) ≡ None → first_owed_in (leg_ops p k) ≡ None
unfolding legs
none_of_leg p k zero l h = absurd (omega arith)
none_of_leg p k (suc n) l h = by (here_or_before k n (omega arith)) (λ m. none_of_leg p k n m before)
  where
    before : first_owed_in (legs p n) ≡ None
    before = none_before (legs p n) (leg_ops p n) h

    by : ((k ≡ n) ⊎ (k < n)) → (k < n → first_owed_in (leg_ops p k) ≡ None) → first_owed_in (leg_ops p k) ≡ None
    by (inr m) rec = rec m
    by (inl e) rec = ap (λ (k : ℕ). first_owed_in (leg_ops p k)) e ∙ sym (first_owed-append_none place_is_owed (legs p n) (leg_ops p n) before) ∙ h

-- ---- an answer after k steps
abbrev steps_in : Placed → List Exchange
steps_in (Inside found steps) = steps
steps_in (Outside zeros vector steps) = steps
steps_in (Pivots steps) = steps
steps_in (Wide op steps) = steps
steps_in OutOfMemory = []

abbrev IsAfter : Problem → ℕ → Placed → ℕ → Type 0
IsAfter p budget (Inside found steps) k = IsInsideAfter p found k
IsAfter p budget (Outside zeros vector steps) k = IsOutsideAfter p zeros vector k
IsAfter p budget (Pivots steps) k = IsRefusedAfter p budget k
IsAfter p budget (Wide op steps) k = IsOwedAfter p budget op k
IsAfter p budget OutOfMemory k = ⊥

no_vector : (p : Problem) (k : ℕ) → entering (table_after p k) p.vectors ≡ None → IsStepDue p k → ⊥
no_vector p k h D = let v = D.vector in let n = ap is_there h in cc

module _ (p : Problem) (budget : ℕ) where
  -- an answer comes where no step is due, the budget is used or an operation is owed
  not_before : (a : Placed) (k : ℕ) → IsAfter p budget a k → (steps : List Exchange) → IsRun p budget steps → k < length steps → ⊥
  not_before (Inside found made) k A steps R l = not_due p k A.last (R.due k l)
  not_before (Outside zeros vector made) k A steps R l = no_vector p k A.none (R.due k l)
  not_before (Pivots made) k A steps R l = let u = A.used in let w = R.within in absurd (omega arith)
  not_before (Wide op made) k A steps R l = let f = owed_first p budget k op A in let g = none_of_leg p k (length steps) l R.owes in absurd cc
  not_before OutOfMemory k A steps R l = A

  same_length : (a b : Placed) (ss ts : List Exchange) → IsRun p budget ss → IsRun p budget ts → IsAfter p budget a (length ss) → IsAfter p budget b (length ts)
      → length ss ≡ length ts
  same_length a b ss ts R S A B = by (three_ways (length ss) (length ts))
    where
      by : ((length ss < length ts) ⊎ ((length ss ≡ length ts) ⊎ (length ts < length ss))) → length ss ≡ length ts
      by (inl l) = absurd (not_before a (length ss) A ts S l)
      by (inr (inl e)) = e
      by (inr (inr l)) = absurd (not_before b (length ts) B ss R l)

  same_op : (k : ℕ) (x y : PlaceOp) → first_owed_in (leg_ops p k) ≡ Some x → first_owed_in (leg_ops p k) ≡ Some y → x ≡ y
  same_op k x y h g = cc

  owed_or_not : (k : ℕ) (x : PlaceOp) → first_owed_in (leg_ops p k) ≡ None → first_owed_in (leg_ops p k) ≡ Some x → ⊥
  owed_or_not k x h g = absurd cc

  refused_or_owed : (k : ℕ) (op : PlaceOp) → IsRefusedAfter p budget k → IsOwedAfter p budget op k → ⊥
  refused_or_owed k op A B = let n = A.owes in let o = owed_before p budget k op B A.used A.due in absurd cc

  last_or_not : (k : ℕ) → is_last p k ≡ true → is_last p k ≡ false → ⊥
  last_or_not k h g = absurd cc

  same_outside : (x y : List ℕ) (v w : ℕ) (ss ts : List Exchange) → x ≡ y → v ≡ w → ss ≡ ts → Outside x v ss ≡ Outside y w ts
  same_outside x y v w ss ts e f g = ap₂ (λ (x : List ℕ) (v : ℕ). Outside x v ss) e f ∙ ap (λ (s : List Exchange). Outside y w s) g

  same_after : (a b : Placed) (k : ℕ) → steps_in a ≡ steps_in b → IsAfter p budget a k → IsAfter p budget b k → a ≡ b
  same_after (Inside x ss) (Inside y ts) k e A B = ap₂ Inside (A.found_are ∙ sym B.found_are) e
  same_after (Inside x ss) (Outside y w ts) k e A B = absurd (last_or_not k A.last B.not_last)
  same_after (Inside x ss) (Pivots ts) k e A B = absurd (not_due p k A.last B.due)
  same_after (Inside x ss) (Wide y ts) k e A B = absurd (owed_or_not k y A.owes (owed_first p budget k y B))
  same_after (Inside x ss) OutOfMemory k e A B = absurd B
  same_after (Outside x v ss) (Inside y ts) k e A B = absurd (last_or_not k B.last A.not_last)
  same_after (Outside x v ss) (Outside y w ts) k e A B = same_outside x y v w ss ts (A.zeros_are ∙ sym B.zeros_are) (A.vector_is ∙ sym B.vector_is) e
  same_after (Outside x v ss) (Pivots ts) k e A B = absurd (no_vector p k A.none B.due)
  same_after (Outside x v ss) (Wide y ts) k e A B = absurd (owed_or_not k y A.owes (owed_first p budget k y B))
  same_after (Outside x v ss) OutOfMemory k e A B = absurd B
  same_after (Pivots ss) (Inside y ts) k e A B = absurd (not_due p k B.last A.due)
  same_after (Pivots ss) (Outside y w ts) k e A B = absurd (no_vector p k B.none A.due)
  same_after (Pivots ss) (Pivots ts) k e A B = ap Pivots e
  same_after (Pivots ss) (Wide y ts) k e A B = absurd (refused_or_owed k y A B)
  same_after (Pivots ss) OutOfMemory k e A B = absurd B
  same_after (Wide x ss) (Inside y ts) k e A B = absurd (owed_or_not k x B.owes (owed_first p budget k x A))
  same_after (Wide x ss) (Outside y w ts) k e A B = absurd (owed_or_not k x B.owes (owed_first p budget k x A))
  same_after (Wide x ss) (Pivots ts) k e A B = absurd (refused_or_owed k x B A)
  same_after (Wide x ss) (Wide y ts) k e A B = ap₂ Wide (same_op k x y (owed_first p budget k x A) (owed_first p budget k y B)) e
  same_after (Wide x ss) OutOfMemory k e A B = absurd B
  same_after OutOfMemory b k e A B = absurd A

  one_of : (a b : Placed) → IsRun p budget (steps_in a) → IsRun p budget (steps_in b) → IsAfter p budget a (length (steps_in a))
      → IsAfter p budget b (length (steps_in b)) → a ≡ b
  one_of a b R S A B =
      let n = same_length a b (steps_in a) (steps_in b) R S A B in
      same_after a b (length (steps_in b)) (R.are ∙ ap (steps_of p) n ∙ sym S.are) (subst (λ (k : ℕ). IsAfter p budget a k) n A) B

  parts : (a : Placed) → IsPlaceAnswer p budget a → (a ≡ OutOfMemory) ⊎ (IsRun p budget (steps_in a) × IsAfter p budget a (length (steps_in a)))
  parts (Inside found steps) A = inr A
  parts (Outside zeros vector steps) A = inr A
  parts (Pivots steps) A = inr A
  parts (Wide op steps) A = inr A
  parts OutOfMemory A = inl refl

pub one_answer : AtMostOnePlaceAnswer
one_answer p budget a b A B = by (parts p budget a A) (parts p budget b B)
  where
    by : ((a ≡ OutOfMemory) ⊎ (IsRun p budget (steps_in a) × IsAfter p budget a (length (steps_in a))))
        → ((b ≡ OutOfMemory) ⊎ (IsRun p budget (steps_in b) × IsAfter p budget b (length (steps_in b))))
        → (a ≡ b) ⊎ ((a ≡ OutOfMemory) ⊎ (b ≡ OutOfMemory))
    by (inl e) q = inr (inl e)
    by (inr A) (inl e) = inr (inr e)
    by (inr A) (inr B) = inl (one_of p budget a b A.0 B.0 A.1 B.1)
