-- The first check of a list that fails.
use Rattle.std.specs.Prelude.{◌≡◌, ℕ, ◌+◌, ◌<◌, ◌≤◌, Bool, true, false, List, [], ◌∷◌, ◌++◌, map, Some, None, if◌then◌else◌}
use Rattle.std.proofs.Common.{arith, sym, ◌∙◌, ap, refl}
use Rattle.symmetric_matrix.specs.declared.operation.IntOp.{IntOp}
use Rattle.symmetric_matrix.specs.Owed.{first_owed}
use Rattle.symmetric_matrix.specs.Operations.{is_owed}
use Rattle.certificate_checker.specs.declared.checked.Checked.{Checked}
use Rattle.certificate_checker.specs.declared.checked.Checked.TheVariants.{Wide}
use Rattle.certificate_checker.specs.Checks.{Check, made_check, test, first_refusal}
use Rattle.certificate_checker.specs.Loops.{steps}
use Rattle.certificate_checker.proofs.Loops.{steps_none, steps_more, steps_front}

pub refusal-append_some : (xs ys : List Check) (r : Checked) → first_refusal xs ≡ Some r → first_refusal (xs ++ ys) ≡ Some r
unfolding first_refusal
refusal-append_some [] ys r h = absurd cc
refusal-append_some (c ∷ xs) ys r h = by c.fails h (refusal-append_some xs ys r)
  where
    by : (b : Bool) → (if b then Some c.refusal else first_refusal xs) ≡ Some r → (first_refusal xs ≡ Some r → first_refusal (xs ++ ys) ≡ Some r)
        → (if b then Some c.refusal else first_refusal (xs ++ ys)) ≡ Some r
    by true h rec = h
    by false h rec = rec h

pub refusal-append_none : (xs ys : List Check) → first_refusal xs ≡ None → first_refusal (xs ++ ys) ≡ first_refusal ys
unfolding first_refusal
refusal-append_none [] ys h = refl
refusal-append_none (c ∷ xs) ys h = by c.fails h (refusal-append_none xs ys)
  where
    by : (b : Bool) → (if b then Some c.refusal else first_refusal xs) ≡ None → (first_refusal xs ≡ None → first_refusal (xs ++ ys) ≡ first_refusal ys)
        → (if b then Some c.refusal else first_refusal (xs ++ ys)) ≡ first_refusal ys
    by true h rec = absurd cc
    by false h rec = rec h

-- where a list has no refusal, neither of its parts has
pub none-append : (xs ys : List Check) → first_refusal (xs ++ ys) ≡ None → (first_refusal xs ≡ None) × (first_refusal ys ≡ None)
unfolding first_refusal
none-append [] ys h = (refl, h)
none-append (c ∷ xs) ys h = by c.fails h (none-append xs ys)
  where
    by : (b : Bool) → (if b then Some c.refusal else first_refusal (xs ++ ys)) ≡ None
        → (first_refusal (xs ++ ys) ≡ None → (first_refusal xs ≡ None) × (first_refusal ys ≡ None))
        → ((if b then Some c.refusal else first_refusal xs) ≡ None) × (first_refusal ys ≡ None)
    by true h rec = absurd cc
    by false h rec = rec h

pub made_some : (ops : List IntOp) (op : IntOp) → first_owed is_owed ops ≡ Some op → first_refusal (map made_check ops) ≡ Some (Wide op)
unfolding first_refusal first_owed
made_some [] op h = absurd cc
made_some (o ∷ ops) op h = by (is_owed o) h (made_some ops op)
  where
    by : (b : Bool) → (if b then Some o else first_owed is_owed ops) ≡ Some op
        → (first_owed is_owed ops ≡ Some op → first_refusal (map made_check ops) ≡ Some (Wide op))
        → (if b then Some (Wide o) else first_refusal (map made_check ops)) ≡ Some (Wide op)
    by true h rec = cc
    by false h rec = rec h

pub made_none : (ops : List IntOp) → first_owed is_owed ops ≡ None → first_refusal (map made_check ops) ≡ None
unfolding first_refusal first_owed
made_none [] h = refl
made_none (o ∷ ops) h = by (is_owed o) h (made_none ops)
  where
    by : (b : Bool) → (if b then Some o else first_owed is_owed ops) ≡ None → (first_owed is_owed ops ≡ None → first_refusal (map made_check ops) ≡ None)
        → (if b then Some (Wide o) else first_refusal (map made_check ops)) ≡ None
    by true h rec = absurd cc
    by false h rec = rec h

-- a test
pub test_passes : (r : Checked) (b : Bool) (rest : List Check) → b ≡ true → first_refusal (test r b ∷ rest) ≡ first_refusal rest
unfolding first_refusal
test_passes r b rest e = rw e refl

pub test_fails : (r : Checked) (b : Bool) (rest : List Check) → b ≡ false → first_refusal (test r b ∷ rest) ≡ Some r
unfolding first_refusal
test_fails r b rest e = rw e refl

pub test_passed : (r : Checked) (b : Bool) (rest : List Check) → first_refusal (test r b ∷ rest) ≡ None → (b ≡ true) × (first_refusal rest ≡ None)
unfolding first_refusal
test_passed r true rest h = (refl, h)
test_passed r false rest h = absurd cc

-- operations, and then a test
pub made_then_refused : (ops : List IntOp) (rest : List Check) (op : IntOp) → first_owed is_owed ops ≡ Some op
    → first_refusal (map made_check ops ++ rest) ≡ Some (Wide op)
made_then_refused ops rest op h = refusal-append_some (map made_check ops) rest (Wide op) (made_some ops op h)

pub made_then : (ops : List IntOp) (rest : List Check) → first_owed is_owed ops ≡ None → first_refusal (map made_check ops ++ rest) ≡ first_refusal rest
made_then ops rest h = refusal-append_none (map made_check ops) rest (made_none ops h)

-- ---- loops
pub checks_start : (f : ℕ → List Check) → first_refusal (steps f 0) ≡ None
unfolding first_refusal
checks_start f = ap first_refusal (steps_none f)

pub checks_refused : (f : ℕ → List Check) (n k : ℕ) (r : Checked) → k < n → first_refusal (steps f k) ≡ None → first_refusal (f k) ≡ Some r
    → first_refusal (steps f n) ≡ Some r
checks_refused f n k r l before here =
    let rest = steps_front f (k + 1) n (omega arith) in
    ap first_refusal rest.1
    ∙ refusal-append_some (steps f (k + 1)) rest.0 r (ap first_refusal (steps_more f k) ∙ refusal-append_none (steps f k) (f k) before ∙ here)

pub checks_more : (f : ℕ → List Check) (k : ℕ) → first_refusal (steps f k) ≡ None → first_refusal (f k) ≡ None → first_refusal (steps f (k + 1)) ≡ None
checks_more f k before here = ap first_refusal (steps_more f k) ∙ refusal-append_none (steps f k) (f k) before ∙ here

pub checks_end : (f : ℕ → List Check) (n k : ℕ) → k ≤ n → n ≤ k → first_refusal (steps f k) ≡ None → first_refusal (steps f n) ≡ None
checks_end f n k h l before = let e : n ≡ k = omega arith in ap (λ (m : ℕ). first_refusal (steps f m)) e ∙ before

-- where a loop has no refusal, none of its steps has
pub checks_each : (f : ℕ → List Check) (n k : ℕ) → k < n → first_refusal (steps f n) ≡ None → first_refusal (f k) ≡ None
checks_each f n k l h =
    let rest = steps_front f (k + 1) n (omega arith) in
    let front : first_refusal (steps f (k + 1)) ≡ None = (none-append (steps f (k + 1)) rest.0 (ap first_refusal (sym rest.1) ∙ h)).0 in
    (none-append (steps f k) (f k) (ap first_refusal (sym (steps_more f k)) ∙ front)).1
