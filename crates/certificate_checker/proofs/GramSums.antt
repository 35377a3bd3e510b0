-- The Gram matrix and the slacks of a leaf, step by step.
use Rattle.std.specs.Prelude.{◌≡◌, ℕ, zero, suc, ◌+◌, ◌<◌, ◌⊎◌, Bool, true, false, ◌&&◌, ℤ, pos, neg_ℤ, ◌+ℤ◌, ◌-ℤ◌, ◌*ℤ◌, int_lt, int_le, cond, eqb, List, []}
use Rattle.std.specs.Prelude.{◌∷◌, Some, None, Result, Ok, Err, length, slice_set}
use Rattle.std.specs.List.{list_all, range_with_len}
use Rattle.std.proofs.Common.{arith, sym, ◌∙◌, ap, ap₂, refl, inl, inr, get_or-set_other, get_or-set_same}
use Rattle.std.proofs.lemmas.Int.{ints}
use Rattle.std.proofs.lemmas.List.Folds.{list_all-append}
use Rattle.commutative_ring.proofs.Laws.{mul_left_comm_ℤ}
use Rattle.commutative_ring.proofs.SmallCases.{before_or_here, minus_twice}
use Rattle.exact_forms.specs.Sums.{sum_to}
use Rattle.exact_forms.specs.Slacks.{shortfall, slack}
use Rattle.exact_forms.proofs.Sums.{sum_to-zero, sum_to_more, sum_to_same, mul-sum_to}
use Rattle.exact_forms.proofs.Forms.{bilinear_is}
use Rattle.exact_forms.proofs.Slacks.{shortfall_of_negative, shortfall_of_nonneg, slack_is_diagonal_less, slack_same}
use Rattle.unimodular_cone.specs.Cones.{Matrix, Generators, gram}
use Rattle.unimodular_cone.proofs.Pairs.{test_true, test_false}
use Rattle.symmetric_matrix.specs.declared.operation.IntOp.{IntOp}
use Rattle.symmetric_matrix.specs.Owed.{answer, first_owed}
use Rattle.symmetric_matrix.specs.Operations.{is_owed, add_op}
use Rattle.symmetric_matrix.proofs.Owed.{none_of_ok, some_of_err, first_owed-append_some, first_owed-append_none}
use Rattle.symmetric_matrix.proofs.Runs.{range_more}
use Rattle.certificate_checker.specs.Loops.{steps}
use Rattle.certificate_checker.specs.Rows.{numbers, flipped, AreFirst, AgreeBelow}
use Rattle.certificate_checker.specs.Dots.{dot, rows_times, times_ops}
use Rattle.certificate_checker.specs.Leaves.{column_ops, generator_ops, lessened, slack_ops, leaf_ops, is_closed}
use Rattle.certificate_checker.proofs.Loops.{steps_same, loop_start, loop_refused, loop_more}
use Rattle.certificate_checker.proofs.DotSums.{times_same, times_ops_same}

-- ---- a column of the Gram matrix
pub column_refused_first : (n : ℕ) (w : Matrix) (v : Generators) (b : ℕ → ℤ) (op : IntOp) → first_owed is_owed (times_ops n w b) ≡ Some op
    → first_owed is_owed (column_ops n w v b) ≡ Some op
unfolding column_ops
column_refused_first n w v b op h = first_owed-append_some is_owed (times_ops n w b) (times_ops n v (rows_times n w b)) op h

pub column_then : (n : ℕ) (w : Matrix) (v : Generators) (b : ℕ → ℤ) (image : List ℤ) → first_owed is_owed (times_ops n w b) ≡ None
    → AreFirst n image (rows_times n w b)
    → first_owed is_owed (column_ops n w v b) ≡ first_owed is_owed (times_ops n v (numbers image))
unfolding column_ops
column_then n w v b image h same =
    first_owed-append_none is_owed (times_ops n w b) (times_ops n v (rows_times n w b)) h
    ∙ ap (first_owed is_owed) (times_ops_same n v v (rows_times n w b) (numbers image) (λ i j l m. refl) (λ k l. sym (same k l)))

pub column_value : (n : ℕ) (w : Matrix) (v : Generators) (b : ℕ → ℤ) (image : List ℤ) → AreFirst n image (rows_times n w b) → (a : ℕ) → a < n
    → rows_times n v (numbers image) a ≡ rows_times n v (rows_times n w b) a
column_value n w v b image same a l = times_same n v v (numbers image) (rows_times n w b) (λ i j l m. refl) same a l

pub gram_is : (n : ℕ) (w : Matrix) (v : Generators) (a b : ℕ) → rows_times n v (rows_times n w (v b)) a ≡ gram n w v a b
gram_is n w v a b =
    sum_to_same n (λ i. v a i *ℤ dot n (w i) (v b)) (λ i. sum_to n (λ j. w i j *ℤ (v a i *ℤ v b j))) (λ i l. row i)
    ∙ sym (bilinear_is n w (v a) (v b))
  where
    row : (i : ℕ) → v a i *ℤ dot n (w i) (v b) ≡ sum_to n (λ j. w i j *ℤ (v a i *ℤ v b j))
    row i = mul-sum_to (v a i) n (λ j. w i j *ℤ v b j) ∙ sum_to_same n _ _ (λ j l. mul_left_comm_ℤ (v a i) (w i j) (v b j))

-- the columns before k agree with g
abbrev pub AreGramColumns : ℕ → ℕ → List (List ℤ) → Matrix → Type 0
AreGramColumns n k columns g = (a b : ℕ) → a < n → b < k → flipped columns a b ≡ g a b

pub column_more : (n k : ℕ) (columns : List (List ℤ)) (column : List ℤ) (g : Matrix) → AreGramColumns n k columns g → k < length columns
    → ((a : ℕ) → a < n → numbers column a ≡ g a k)
    → AreGramColumns n (k + 1) (slice_set columns k column) g
column_more n k columns column g before room here a b la lb = by (before_or_here b k lb)
  where
    by : ((b < k) ⊎ (b ≡ k)) → flipped (slice_set columns k column) a b ≡ g a b
    by (inl lt) = ap (λ (xs : List ℤ). numbers xs a) (get_or-set_other columns k b column [] (λ same. absurd (omega arith))) ∙ before a b la lt
    by (inr e) = ap (λ (m : ℕ). flipped (slice_set columns k column) a m) e ∙ ap (λ (xs : List ℤ). numbers xs a) (get_or-set_same columns k column [] room)
        ∙ here a la ∙ ap (g a) (sym e)

-- ---- slacks
pub lesser_below : (z : ℤ) → int_lt z (pos 0) ≡ true → z ≡ neg_ℤ (shortfall z)
lesser_below z h = let e : shortfall z ≡ neg_ℤ z = shortfall_of_negative z (test_true z (pos 0) h) in omega (arith, ints)

pub lesser_not_below : (z : ℤ) → int_lt z (pos 0) ≡ false → pos 0 ≡ neg_ℤ (shortfall z)
lesser_not_below z h = let e : shortfall z ≡ pos 0 = shortfall_of_nonneg z (test_false z (pos 0) h) in omega (arith, ints)

abbrev pub slack_step : Matrix → ℕ → ℕ → List IntOp
slack_step g a c = cond (eqb c a) [] (add_op (lessened g a c) (neg_ℤ (shortfall (g a c))) ∷ [])

pub less_is_plus : (x y : ℤ) → x +ℤ neg_ℤ y ≡ x -ℤ y
less_is_plus x y = omega (arith, ints)

pub slack_starts : (g : Matrix) (a : ℕ) → (first_owed is_owed (steps (slack_step g a) 0) ≡ None) × (g a a ≡ lessened g a 0)
slack_starts g a = (
  loop_start is_owed (slack_step g a),
  let z : sum_to 0 (λ j. cond (eqb j a) (pos 0) (shortfall (g a j)))
      ≡ pos 0 = sum_to-zero (λ j. cond (eqb j a) (pos 0) (shortfall (g a j))) in omega (arith, ints),
)

-- what is left after one more shortfall, or the operation that doesn't fit
abbrev lessened_by : ℤ → ℤ → Bool → Result ℤ IntOp
lessened_by left beside own =
    answer is_owed (cond own [] (add_op left (neg_ℤ (shortfall beside)) ∷ [])) (left -ℤ cond own (pos 0) (shortfall beside))

slack_step_is : (g : Matrix) (a c : ℕ) (left beside : ℤ) (own : Bool) → left ≡ lessened g a c → beside ≡ g a c → own ≡ eqb c a
    → cond own [] (add_op left (neg_ℤ (shortfall beside)) ∷ []) ≡ slack_step g a c
slack_step_is g a c left beside own is_left is_beside is_own =
    ap (λ (b : Bool). cond b [] (add_op left (neg_ℤ (shortfall beside)) ∷ [])) is_own
    ∙ ap₂ (λ (x : ℤ) (y : ℤ). cond (eqb c a) [] (add_op x (neg_ℤ (shortfall y)) ∷ [])) is_left is_beside

pub slack_goes_on : (g : Matrix) (a c : ℕ) (left beside z : ℤ) (own : Bool) → left ≡ lessened g a c → beside ≡ g a c → own ≡ eqb c a
    → first_owed is_owed (steps (slack_step g a) c) ≡ None
    → lessened_by left beside own ≡ Ok z
    → (first_owed is_owed (steps (slack_step g a) (c + 1)) ≡ None) × (z ≡ lessened g a (c + 1))
slack_goes_on g a c left beside z own is_left is_beside is_own before here =
    let r = none_of_ok is_owed (cond own [] (add_op left (neg_ℤ (shortfall beside)) ∷ [])) (left -ℤ cond own (pos 0) (shortfall beside)) z here in
    let more = sum_to_more c (λ j. cond (eqb j a) (pos 0) (shortfall (g a j))) in
    let value : z ≡ lessened g a c -ℤ cond (eqb c a) (pos 0) (shortfall (g a c)) =
    sym r.1 ∙ ap (λ (b : Bool). left -ℤ cond b (pos 0) (shortfall beside)) is_own
    ∙ ap₂ (λ (x : ℤ) (y : ℤ). x -ℤ cond (eqb c a) (pos 0) (shortfall y)) is_left is_beside in (
      loop_more is_owed (slack_step g a) c before
          (ap (λ (ops : List IntOp). first_owed is_owed ops) (sym (slack_step_is g a c left beside own is_left is_beside is_own)) ∙ r.0),
      value ∙ minus_twice (g a a) (sum_to c (λ j. cond (eqb j a) (pos 0) (shortfall (g a j)))) (cond (eqb c a) (pos 0) (shortfall (g a c)))
          ∙ ap (λ (s : ℤ). g a a -ℤ s) (sym more),
    )

pub slack_refused : (g : Matrix) (n a c : ℕ) (left beside : ℤ) (op : IntOp) (own : Bool) → c < n → left ≡ lessened g a c → beside ≡ g a c → own ≡ eqb c a
    → first_owed is_owed (steps (slack_step g a) c) ≡ None
    → lessened_by left beside own ≡ Err op
    → first_owed is_owed (slack_ops n g a) ≡ Some op
unfolding slack_ops
slack_refused g n a c left beside op own l is_left is_beside is_own before here =
    loop_refused is_owed (slack_step g a) n c op l before
    (ap (λ (ops : List IntOp). first_owed is_owed ops) (sym (slack_step_is g a c left beside own is_left is_beside is_own))
    ∙ some_of_err is_owed (cond own [] (add_op left (neg_ℤ (shortfall beside)) ∷ [])) (left -ℤ cond own (pos 0) (shortfall beside)) op here)

pub slack_ops_are : (n : ℕ) (g : Matrix) (a : ℕ) → slack_ops n g a ≡ steps (slack_step g a) n
unfolding slack_ops
slack_ops_are n g a = refl

pub lessened_whole : (n : ℕ) (g : Matrix) (a : ℕ) → lessened g a n ≡ slack n g a
lessened_whole n g a = sym (slack_is_diagonal_less n g a)

-- ---- all slacks
pub closed_none : (n : ℕ) (g : Matrix) → list_all (λ a. int_le (pos 0) (slack n g a)) (range_with_len 0 0) ≡ true
closed_none n g = refl

pub closed_more : (n : ℕ) (g : Matrix) (k : ℕ) (closed : Bool) (z : ℤ) → closed ≡ list_all (λ a. int_le (pos 0) (slack n g a)) (range_with_len 0 k)
    → z ≡ slack n g k
    → (closed && int_le (pos 0) z) ≡ list_all (λ a. int_le (pos 0) (slack n g a)) (range_with_len 0 (k + 1))
closed_more n g k closed z e is =
    ap₂ (λ (b : Bool) (x : ℤ). b && int_le (pos 0) x) e is
    ∙ and_true (list_all (λ a. int_le (pos 0) (slack n g a)) (range_with_len 0 k)) (int_le (pos 0) (slack n g k))
    ∙ sym (list_all-append (λ a. int_le (pos 0) (slack n g a)) (range_with_len 0 k) (k ∷ []))
    ∙ ap (list_all (λ a. int_le (pos 0) (slack n g a))) (sym (range_more k))
  where
    and_true : (x y : Bool) → (x && y) ≡ (x && (y && true))
    and_true true true = refl
    and_true true false = refl
    and_true false true = refl
    and_true false false = refl

-- ---- two matrices that agree below n
pub slack_ops_same : (n : ℕ) (g h : Matrix) (a : ℕ) → AgreeBelow n g h → a < n → slack_ops n g a ≡ slack_ops n h a
unfolding slack_ops
slack_ops_same n g h a same l = steps_same (slack_step g a) (slack_step h a) n (λ c m. step c m)
  where
    lessened_same : (c : ℕ) → c < n → lessened g a c ≡ lessened h a c
    lessened_same c m =
        ap₂ (λ (x : ℤ) (y : ℤ). x -ℤ y) (same a a l l)
        (sum_to_same c _ _ (λ j k. ap (λ (z : ℤ). cond (eqb j a) (pos 0) (shortfall z)) (same a j l (omega arith))))

    step : (c : ℕ) → c < n → slack_step g a c ≡ slack_step h a c
    step c m = ap₂ (λ (x : ℤ) (y : ℤ). cond (eqb c a) [] (add_op x (neg_ℤ (shortfall y)) ∷ [])) (lessened_same c m) (same a c l m)

pub all_same : (p q : ℕ → Bool) (n : ℕ) → ((k : ℕ) → k < n → p k ≡ q k) → list_all p (range_with_len 0 n) ≡ list_all q (range_with_len 0 n)
all_same p q zero h = refl
all_same p q (suc n) h =
    let e : suc n ≡ n + 1 = omega arith in
    let l : n < suc n = omega arith in
    ap (λ (m : ℕ). list_all p (range_with_len 0 m)) e ∙ ap (list_all p) (range_more n) ∙ list_all-append p (range_with_len 0 n) (n ∷ [])
    ∙ ap₂ (λ (x : Bool) (y : Bool). x && (y && true)) (all_same p q n (λ k m. h k (omega arith))) (h n l)
    ∙ sym (list_all-append q (range_with_len 0 n) (n ∷ [])) ∙ ap (list_all q) (sym (range_more n)) ∙ ap (λ (m : ℕ). list_all q (range_with_len 0 m)) (sym e)

pub is_closed_same : (n : ℕ) (g h : Matrix) → AgreeBelow n g h → is_closed n g ≡ is_closed n h
unfolding is_closed
is_closed_same n g h same = all_same _ _ n (λ a l. ap (int_le (pos 0)) (slack_same n g h a l (λ j m. same a j l m)))

-- ---- a leaf
pub leaf_refused_first : (n : ℕ) (w : Matrix) (v : Generators) (op : IntOp) → first_owed is_owed (steps (generator_ops n w v) n) ≡ Some op
    → first_owed is_owed (leaf_ops n w v) ≡ Some op
unfolding leaf_ops
leaf_refused_first n w v op h = first_owed-append_some is_owed (steps (generator_ops n w v) n) (steps (slack_ops n (gram n w v)) n) op h

pub leaf_then : (n : ℕ) (w : Matrix) (v : Generators) (g : Matrix) → first_owed is_owed (steps (generator_ops n w v) n) ≡ None → AgreeBelow n g (gram n w v)
    → first_owed is_owed (leaf_ops n w v) ≡ first_owed is_owed (steps (slack_ops n g) n)
unfolding leaf_ops
leaf_then n w v g h same =
    first_owed-append_none is_owed (steps (generator_ops n w v) n) (steps (slack_ops n (gram n w v)) n) h
    ∙ ap (first_owed is_owed) (steps_same (slack_ops n (gram n w v)) (slack_ops n g) n (λ a l. sym (slack_ops_same n g (gram n w v) a same l)))

pub lessened_own : (left beside : ℤ) (own : Bool) → own ≡ true
    → Ok left ≡ lessened_by left beside own
unfolding answer
lessened_own left beside own e = rw e (ap (λ (z : ℤ). Ok z) (nothing left))
  where
    nothing : (x : ℤ) → x ≡ x -ℤ pos 0
    nothing x = omega (arith, ints)

pub lessened_other : (left beside least : ℤ) (own : Bool) → own ≡ false → least ≡ neg_ℤ (shortfall beside)
    → answer is_owed (add_op left least ∷ []) (left +ℤ least)
    ≡ lessened_by left beside own
lessened_other left beside least own e is =
    ap (λ (z : ℤ). answer is_owed (add_op left z ∷ []) (left +ℤ z)) is
    ∙ ap (λ (z : ℤ). answer is_owed (add_op left (neg_ℤ (shortfall beside)) ∷ []) z) (less_is_plus left (shortfall beside))
    ∙ ap (λ (b : Bool). answer is_owed (cond b [] (add_op left (neg_ℤ (shortfall beside)) ∷ [])) (left -ℤ cond b (pos 0) (shortfall beside))) (sym e)
