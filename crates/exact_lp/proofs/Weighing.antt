-- The two ends, as loops make them.
use Rattle.std.specs.Prelude.{◌≡◌, ℕ, suc, ◌+◌, ◌-◌, ◌<◌, ◌≤◌, Bool, true, false, ◌&&◌, List, [], ◌∷◌, ◌++◌, map, length, drop, get_or, Some, None, Result, Ok}
use Rattle.std.specs.Prelude.{Err, is_err, OnOk, if◌then◌else◌}
use Rattle.std.proofs.Common.{arith, sym, ◌∙◌, ap, ap₂, refl, drop_of_length-le}
use Rattle.std.proofs.lemmas.List.FromFn.{map-range_with_len_more}
use Rattle.exact_forms.specs.Rational.{Rational, whole, ◌+ℚ◌, ◌/ℚ◌}
use Rattle.fraction128.specs.Recipes.{add_ops, div_ops}
use Rattle.symmetric_matrix.specs.declared.operation.IntOp.{IntOp}
use Rattle.symmetric_matrix.specs.Operations.{is_owed}
use Rattle.symmetric_matrix.specs.Owed.{answer, tagged, first_owed}
use Rattle.symmetric_matrix.proofs.Owed.{answer_tagged, answer-append_err, answer-append_ok, answer_nothing, none_of_ok, some_of_err, first_owed-append_none}
use Rattle.symmetric_matrix.proofs.Owed.{first_owed-append_some}
use Rattle.exact_linear.proofs.Seeking.{drop_at, IsGathered, gather_start}
use Rattle.exact_linear.specs.Tables.{Table, rows_of, table_entry, is_basic, contains}
use Rattle.exact_lp.specs.declared.placed.PlaceOp.{PlaceOp}
use Rattle.exact_lp.specs.declared.placed.PlaceOp.TheVariants.{Weight}
use Rattle.exact_lp.specs.Rule.{top, is_positive}
use Rattle.exact_lp.specs.Placement.{place_is_owed, first_owed_in, at_target, is_raised, coefficient, coefficient_ops, weight_ops, weights, zeros_of}
use Rattle.exact_lp.specs.Placement.{is_basic_vector, first_above}

-- ---- the first above
pub record IsFirstAboveFrom (t : Table) (r : ℕ) (whole : List ℕ) (k : ℕ) : Type 0 where
  pub same : first_above t r whole ≡ first_above t r (drop k whole)

above_here : (t : Table) (r : ℕ) (whole : List ℕ) (k c : ℕ) → IsFirstAboveFrom t r whole k → k < length whole → c ≡ get_or whole k 0
    → first_above t r whole ≡ (if is_positive (table_entry t r c) then c else first_above t r (drop (k + 1) whole))
unfolding first_above
above_here t r whole k c S l e = S.same ∙ ap (λ (cs : List ℕ). first_above t r cs) (drop_at whole k c l e)

pub above_found : (t : Table) (r : ℕ) (whole : List ℕ) (k c : ℕ) → IsFirstAboveFrom t r whole k → k < length whole → c ≡ get_or whole k 0
    → is_positive (table_entry t r c) ≡ true → c ≡ first_above t r whole
above_found t r whole k c S l e h = sym (above_here t r whole k c S l e ∙ ap (λ (b : Bool). if b then c else first_above t r (drop (k + 1) whole)) h)

pub above_more : (t : Table) (r : ℕ) (whole : List ℕ) (k c : ℕ) → IsFirstAboveFrom t r whole k → k < length whole → c ≡ get_or whole k 0
    → is_positive (table_entry t r c) ≡ false → IsFirstAboveFrom t r whole (k + 1)
above_more t r whole k c S l e h = record { same = above_here t r whole k c S l e ∙ ap (λ (b : Bool). if b then c else first_above t r (drop (k + 1) whole)) h }

pub above_done : (t : Table) (r : ℕ) (whole : List ℕ) (k : ℕ) → IsFirstAboveFrom t r whole k → length whole ≤ k → 0 ≡ first_above t r whole
unfolding first_above
above_done t r whole k S l = sym (S.same ∙ ap (λ (cs : List ℕ). first_above t r cs) (drop_of_length-le whole {i = k} l))

-- ---- the zeros
pub zeros_start : (t : Table) (m : ℕ) (xs : List ℕ) → xs ≡ [] → IsGathered (zeros_of t m) xs (is_basic_vector t) 0 (0 + m)
unfolding zeros_of
zeros_start t m xs e = gather_start (is_basic_vector t) 0 m xs e

-- ---- a coefficient
pub weight_tagged : (v : ℕ) (ops : List IntOp) (x : Rational) → tagged (Weight v) (answer is_owed ops x) ≡ answer place_is_owed (map (Weight v) ops) x
weight_tagged v ops x = answer_tagged is_owed place_is_owed (Weight v) ops x (λ o. refl)

-- the operations and the coefficient, of a column that is raised or isn't
abbrev ops_raised : Table → ℕ → ℕ → Bool → List PlaceOp
ops_raised t m v b = if b then map (Weight v) (add_ops (at_target t m (rows_of t + v)) (at_target t m (top t m))) else []

abbrev value_raised : Table → ℕ → ℕ → Bool → Rational
value_raised t m v b = if b then at_target t m (rows_of t + v) +ℚ at_target t m (top t m) else at_target t m (rows_of t + v)

abbrev pub raise_ops : Table → ℕ → List ℕ → ℕ → List PlaceOp
raise_ops t m cs v = ops_raised t m v (is_raised t m cs v)

answer_raised : (t : Table) (m : ℕ) (cs : List ℕ) (v : ℕ) (b : Bool) → is_raised t m cs v ≡ b
    → answer place_is_owed (raise_ops t m cs v) (coefficient t m cs v) ≡ answer place_is_owed (ops_raised t m v b) (value_raised t m v b)
unfolding coefficient
answer_raised t m cs v b h = ap (λ (b : Bool). answer place_is_owed (ops_raised t m v b) (value_raised t m v b)) h

pub raised_answer : (t : Table) (m : ℕ) (cs : List ℕ) (v : ℕ) → is_raised t m cs v ≡ true
    → answer place_is_owed (map (Weight v) (add_ops (at_target t m (rows_of t + v)) (at_target t m (top t m))))
    (at_target t m (rows_of t + v) +ℚ at_target t m (top t m))
    ≡ answer place_is_owed (raise_ops t m cs v) (coefficient t m cs v)
raised_answer t m cs v h = sym (answer_raised t m cs v true h)

pub plain_answer : (t : Table) (m : ℕ) (cs : List ℕ) (v : ℕ) → is_raised t m cs v ≡ false
    → Ok (at_target t m (rows_of t + v)) ≡ answer place_is_owed (raise_ops t m cs v) (coefficient t m cs v)
plain_answer t m cs v h = sym (answer_raised t m cs v false h ∙ answer_nothing place_is_owed (at_target t m (rows_of t + v)))

pub weight_refused : (t : Table) (m : ℕ) (cs : List ℕ) (d : Rational) (v : ℕ) (err : PlaceOp)
    → answer place_is_owed (raise_ops t m cs v) (coefficient t m cs v) ≡ Err err
    → answer place_is_owed (coefficient_ops t m cs d v) (coefficient t m cs v /ℚ d) ≡ Err err
unfolding coefficient_ops
weight_refused t m cs d v err h =
    answer-append_err place_is_owed (raise_ops t m cs v) (map (Weight v) (div_ops (coefficient t m cs v) d)) (coefficient t m cs v) (coefficient t m cs v /ℚ d)
    err h

pub weight_then : (t : Table) (m : ℕ) (cs : List ℕ) (d : Rational) (v : ℕ) (x : Rational)
    → answer place_is_owed (raise_ops t m cs v) (coefficient t m cs v) ≡ Ok x
    → answer place_is_owed (map (Weight v) (div_ops x d)) (x /ℚ d) ≡ answer place_is_owed (coefficient_ops t m cs d v) (coefficient t m cs v /ℚ d)
unfolding coefficient_ops
weight_then t m cs d v x h =
    let r = answer-append_ok place_is_owed (raise_ops t m cs v) (map (Weight v) (div_ops (coefficient t m cs v) d)) (coefficient t m cs v) x
    (coefficient t m cs v /ℚ d) h in
    ap (λ (x : Rational). answer place_is_owed (map (Weight v) (div_ops x d)) (x /ℚ d)) (sym r.1) ∙ sym r.0

-- ---- the weights, one after the other
pub record IsWeighing (t : Table) (m : ℕ) (cs : List ℕ) (d : Rational) (found : List Rational) (v : ℕ) : Type 0 where
  pub same : first_owed_in (weight_ops t m cs d 0 m) ≡ first_owed_in (weight_ops t m cs d v (m - v))
  pub made : found ≡ weights t m cs d v

pub weigh_start : (t : Table) (m : ℕ) (cs : List ℕ) (d : Rational) (found : List Rational) → found ≡ [] → IsWeighing t m cs d found 0
unfolding weights
weigh_start t m cs d found e = record { same = ap (λ (k : ℕ). first_owed_in (weight_ops t m cs d 0 k)) (let e : m ≡ m - 0 = omega arith in e); made = e }

weigh_here : (t : Table) (m : ℕ) (cs : List ℕ) (d : Rational) (found : List Rational) (v : ℕ) → IsWeighing t m cs d found v → v < m
    → first_owed_in (weight_ops t m cs d 0 m) ≡ first_owed_in (coefficient_ops t m cs d v ++ weight_ops t m cs d (v + 1) (m - (v + 1)))
unfolding weight_ops
weigh_here t m cs d found v S l = S.same ∙ ap (λ (k : ℕ). first_owed_in (weight_ops t m cs d v k)) (let e : m - v ≡ suc (m - (v + 1)) = omega arith in e)

pub weigh_refused : (t : Table) (m : ℕ) (cs : List ℕ) (d : Rational) (found : List Rational) (v : ℕ) (err : PlaceOp) → IsWeighing t m cs d found v → v < m
    → answer place_is_owed (coefficient_ops t m cs d v) (coefficient t m cs v /ℚ d) ≡ Err err → first_owed_in (weight_ops t m cs d 0 m) ≡ Some err
weigh_refused t m cs d found v err S l h =
    weigh_here t m cs d found v S l
    ∙ first_owed-append_some place_is_owed (coefficient_ops t m cs d v) (weight_ops t m cs d (v + 1) (m - (v + 1))) err
    (some_of_err place_is_owed (coefficient_ops t m cs d v) (coefficient t m cs v /ℚ d) err h)

pub weigh_more : (t : Table) (m : ℕ) (cs : List ℕ) (d : Rational) (found new : List Rational) (v : ℕ) (x : Rational) → IsWeighing t m cs d found v → v < m
    → answer place_is_owed (coefficient_ops t m cs d v) (coefficient t m cs v /ℚ d) ≡ Ok x → new ≡ found ++ x ∷ [] → IsWeighing t m cs d new (v + 1)
unfolding weights
weigh_more t m cs d found new v x S l h e =
    let k = none_of_ok place_is_owed (coefficient_ops t m cs d v) (coefficient t m cs v /ℚ d) x h in
    record {
      same = weigh_here t m cs d found v S l
          ∙ first_owed-append_none place_is_owed (coefficient_ops t m cs d v) (weight_ops t m cs d (v + 1) (m - (v + 1))) k.0;
      made = e ∙ ap₂ (λ (xs : List Rational) (x : Rational). xs ++ x ∷ []) S.made (sym k.1)
          ∙ sym (map-range_with_len_more (λ v. coefficient t m cs v /ℚ d) 0 v v (omega arith));
    }

pub weigh_done : (t : Table) (m : ℕ) (cs : List ℕ) (d : Rational) (found : List Rational) (v : ℕ) → IsWeighing t m cs d found v → v ≡ m
    → (first_owed_in (weight_ops t m cs d 0 m) ≡ None) × (found ≡ weights t m cs d m)
unfolding weight_ops first_owed
weigh_done t m cs d found v S e = (
  S.same ∙ ap (λ (k : ℕ). first_owed_in (weight_ops t m cs d v k)) (let z : m - v ≡ 0 = omega arith in z),
  S.made ∙ ap (λ (v : ℕ). weights t m cs d v) e,
)

pub raised_as : (t : Table) (m : ℕ) (cs : List ℕ) (v a b : ℕ) (is : Bool) → a ≡ top t m → b ≡ rows_of t + v → is_basic t a ≡ true → contains cs b ≡ is
    → is_raised t m cs v ≡ is
raised_as t m cs v a b is e f h k =
    ap₂ (λ (x : Bool) (y : Bool). x && y) (ap (λ (a : ℕ). is_basic t a) (sym e) ∙ h) (ap (λ (b : ℕ). contains cs b) (sym f) ∙ k)

pub raised_not_basic : (t : Table) (m : ℕ) (cs : List ℕ) (v a : ℕ) → a ≡ top t m → is_basic t a ≡ false → is_raised t m cs v ≡ false
raised_not_basic t m cs v a e h = ap (λ (x : Bool). x && contains cs (rows_of t + v)) (ap (λ (a : ℕ). is_basic t a) (sym e) ∙ h)

pub target_at : (t : Table) (m a b : ℕ) (x : Rational) → x ≡ at_target t m a → a ≡ b → x ≡ at_target t m b
target_at t m a b x e f = e ∙ ap (λ (k : ℕ). at_target t m k) f

pub raised_from : (t : Table) (m : ℕ) (cs : List ℕ) (v : ℕ) (x y : Rational) → is_raised t m cs v ≡ true → x ≡ at_target t m (rows_of t + v)
    → y ≡ at_target t m (top t m)
    → tagged (Weight v) (answer is_owed (add_ops x y) (x +ℚ y))
    ≡ answer place_is_owed (raise_ops t m cs v) (coefficient t m cs v)
raised_from t m cs v x y h e f =
    weight_tagged v (add_ops x y) (x +ℚ y)
    ∙ ap₂ (λ (x : Rational) (y : Rational). answer place_is_owed (map (Weight v) (add_ops x y)) (x +ℚ y)) e f
    ∙ raised_answer t m cs v h

pub plain_from : (t : Table) (m : ℕ) (cs : List ℕ) (v : ℕ) (x : Rational) → is_raised t m cs v ≡ false → x ≡ at_target t m (rows_of t + v)
    → Ok x ≡ answer place_is_owed (raise_ops t m cs v) (coefficient t m cs v)
plain_from t m cs v x h e = ap Ok e ∙ plain_answer t m cs v h

pub on_ok : {T E : Type 0} (r : Result T E) (P : Type 0) → is_err r ≡ false → OnOk r P → P
on_ok (Ok x) P h p = p
on_ok (Err e) P h p = absurd cc
