-- The walk over a tree's lines, node by node.
use Rattle.std.specs.Prelude.{◌≡◌, ◌≢◌, ℕ, zero, suc, ◌+◌, ◌-◌, ◌<◌, ◌≤◌, Bool, true, false, nat_eq, ℤ, ◌+ℤ◌, List, [], ◌∷◌, ◌++◌, length, drop, map, Option}
use Rattle.std.specs.Prelude.{Some, None, Result, Ok, Err, slice_get, slice_index_or, slice_set}
use Rattle.std.proofs.Common.{arith, sym, ◌∙◌, ap, ap₂, refl, subst, drop-cons}
use lib.IntN.{+ℤ_comm}
use Rattle.exact_forms.proofs.Forms.{bilinear_same}
use Rattle.unimodular_cone.specs.Cones.{Matrix, Generators, gram, child}
use Rattle.symmetric_matrix.specs.declared.operation.IntOp.{IntOp}
use Rattle.symmetric_matrix.specs.Owed.{first_owed, answer}
use Rattle.symmetric_matrix.specs.Operations.{is_owed, add_op}
use Rattle.symmetric_matrix.proofs.Owed.{none_of_ok, some_of_err}
use Rattle.cone_tree_certificate.specs.declared.tree.TreeLine.{TreeLine}
use Rattle.cone_tree_certificate.specs.declared.tree.TreeLine.TheVariants.{Leaf, Split}
use Rattle.cone_tree_certificate.specs.Trees.{Lines, IsSplitLine}
use Rattle.cone_tree_certificate.proofs.Trees.{split_first, split_second}
use Rattle.certificate_checker.specs.declared.checked.Checked.{Checked}
use Rattle.certificate_checker.specs.declared.checked.Checked.TheVariants.{OpenLeaf, TreeShape, Wide}
use Rattle.certificate_checker.specs.Checks.{made_check, test, first_refusal}
use Rattle.certificate_checker.specs.Loops.{steps}
use Rattle.certificate_checker.specs.Rows.{at, AreFirst, AgreeBelow}
use Rattle.certificate_checker.specs.Dots.{rows_times}
use Rattle.certificate_checker.specs.Leaves.{column_ops, generator_ops, slack_ops, leaf_ops, is_closed, leaf_checks}
use Rattle.certificate_checker.specs.Tree.{Node, mediant_ops, children, node_checks}
use Rattle.certificate_checker.specs.Walks.{GoesOn, FollowsAll}
use Rattle.certificate_checker.proofs.Loops.{steps_same, loop_refused, loop_more}
use Rattle.certificate_checker.proofs.Checks.{refusal-append_some, refusal-append_none, made_then, made_then_refused, test_passes, test_fails}
use Rattle.certificate_checker.proofs.DotSums.{times_same, times_ops_same}
use Rattle.certificate_checker.proofs.GramSums.{slack_ops_same, is_closed_same}
use Rattle.certificate_checker.proofs.RowSets.{child_row, once_back}

-- ---- a leaf
pub leaf_passes : (n : ℕ) (w : Matrix) (v : Generators) (index : ℕ) → first_owed is_owed (leaf_ops n w v) ≡ None → is_closed n (gram n w v) ≡ true
    → first_refusal (leaf_checks n w v index) ≡ None
unfolding leaf_checks first_refusal
leaf_passes n w v index fits closed = made_then (leaf_ops n w v) _ fits ∙ test_passes (OpenLeaf index) (is_closed n (gram n w v)) [] closed

pub leaf_is_open : (n : ℕ) (w : Matrix) (v : Generators) (index : ℕ) → first_owed is_owed (leaf_ops n w v) ≡ None → is_closed n (gram n w v) ≡ false
    → first_refusal (leaf_checks n w v index) ≡ Some (OpenLeaf index)
unfolding leaf_checks
leaf_is_open n w v index fits closed = made_then (leaf_ops n w v) _ fits ∙ test_fails (OpenLeaf index) (is_closed n (gram n w v)) [] closed

pub leaf_is_wide : (n : ℕ) (w : Matrix) (v : Generators) (index : ℕ) (op : IntOp) → first_owed is_owed (leaf_ops n w v) ≡ Some op
    → first_refusal (leaf_checks n w v index) ≡ Some (Wide op)
unfolding leaf_checks
leaf_is_wide n w v index op wide = made_then_refused (leaf_ops n w v) _ op wide

-- the numbers below n decide
column_ops_same : (n : ℕ) (w q : Matrix) (v g : Generators) (k : ℕ) → AgreeBelow n w q → AgreeBelow n v g → k < n
    → column_ops n w v (v k) ≡ column_ops n q g (g k)
unfolding column_ops
column_ops_same n w q v g k same agree l =
    ap₂ (λ (xs : List IntOp) (ys : List IntOp). xs ++ ys)
    (times_ops_same n w q (v k) (g k) same (λ p m. agree k p l m))
    (times_ops_same n v g (rows_times n w (v k)) (rows_times n q (g k)) agree (λ p m. times_same n w q (v k) (g k) same (λ i o. agree k i l o) p m))

gram_same : (n : ℕ) (w q : Matrix) (v g : Generators) → AgreeBelow n w q → AgreeBelow n v g → AgreeBelow n (gram n w v) (gram n q g)
gram_same n w q v g same agree a b la lb = bilinear_same n w q (v a) (v b) (g a) (g b) same (λ i l. agree a i la l) (λ i l. agree b i lb l)

pub leaf_checks_same : (n : ℕ) (w q : Matrix) (v g : Generators) (index : ℕ) → AgreeBelow n w q → AgreeBelow n v g
    → leaf_checks n w v index ≡ leaf_checks n q g index
unfolding leaf_checks leaf_ops
leaf_checks_same n w q v g index same agree =
    let gs = gram_same n w q v g same agree in
    ap₂ (λ (ops : List IntOp) (b : Bool). map made_check ops ++ test (OpenLeaf index) b ∷ [])
    (ap₂ (λ (xs : List IntOp) (ys : List IntOp). xs ++ ys)
    (steps_same (generator_ops n w v) (generator_ops n q g) n (λ k l. column_ops_same n w q v g k same agree l))
    (steps_same (slack_ops n (gram n w v)) (slack_ops n (gram n q g)) n (λ a l. slack_ops_same n (gram n w v) (gram n q g) a gs l)))
    (is_closed_same n (gram n w v) (gram n q g) gs)

-- ---- a mediant
abbrev pub mediant_step : Generators → ℕ → ℕ → ℕ → List IntOp
mediant_step v i j p = add_op (v i p) (v j p) ∷ []

pub mediant_ops_are : (n : ℕ) (v : Generators) (i j : ℕ) → mediant_ops n v i j ≡ steps (mediant_step v i j) n
unfolding mediant_ops
mediant_ops_are n v i j = refl

pub mediant_ops_same : (n : ℕ) (v g : Generators) (i j : ℕ) → i < n → j < n → AgreeBelow n v g → mediant_ops n v i j ≡ mediant_ops n g i j
unfolding mediant_ops
mediant_ops_same n v g i j li lj same =
    steps_same (mediant_step v i j) (mediant_step g i j) n (λ p l. ap₂ (λ (a : ℤ) (b : ℤ). add_op a b ∷ []) (same i p li l) (same j p lj l))

pub mediant_refused : (n : ℕ) (v : Generators) (i j p : ℕ) (a b : ℤ) (op : IntOp) → p < n → a ≡ v i p → b ≡ v j p
    → first_owed is_owed (steps (mediant_step v i j) p) ≡ None
    → answer is_owed (add_op a b ∷ []) (a +ℤ b) ≡ Err op → first_owed is_owed (mediant_ops n v i j) ≡ Some op
unfolding mediant_ops
mediant_refused n v i j p a b op l is_a is_b before here =
    loop_refused is_owed (mediant_step v i j) n p op l before
    (ap₂ (λ (x : ℤ) (y : ℤ). first_owed is_owed (add_op x y ∷ [])) (sym is_a) (sym is_b) ∙ some_of_err is_owed (add_op a b ∷ []) (a +ℤ b) op here)

pub mediant_goes_on : (v : Generators) (i j p : ℕ) (a b z : ℤ) → a ≡ v i p → b ≡ v j p → first_owed is_owed (steps (mediant_step v i j) p) ≡ None
    → answer is_owed (add_op a b ∷ []) (a +ℤ b) ≡ Ok z → (first_owed is_owed (steps (mediant_step v i j) (p + 1)) ≡ None) × (z ≡ v i p +ℤ v j p)
mediant_goes_on v i j p a b z is_a is_b before here =
    let r = none_of_ok is_owed (add_op a b ∷ []) (a +ℤ b) z here in (
      loop_more is_owed (mediant_step v i j) p before (ap₂ (λ (x : ℤ) (y : ℤ). first_owed is_owed (add_op x y ∷ [])) (sym is_a) (sym is_b) ∙ r.0),
      sym r.1 ∙ ap₂ (λ (x : ℤ) (y : ℤ). x +ℤ y) is_a is_b,
    )

-- ---- the lines of a node
abbrev pub node : Generators → ℕ → Node
node g levels = record { generators = g; levels = levels }

-- the first refusal from a line on, with these nodes due
abbrev pub refusal_from : ℕ → Matrix → Lines → ℕ → List Node → Option Checked
refusal_from n w lines k due = first_refusal (node_checks n w (length lines) (k + 1) due (drop k lines))

pub tree_line_at : (lines : Lines) (k : ℕ) (line : TreeLine) → slice_get lines k ≡ Some line → drop k lines ≡ line ∷ drop (k + 1) lines
tree_line_at [] k line e = absurd cc
tree_line_at (x ∷ xs) zero line e = let same : x ≡ line = cc in ap (λ (y : TreeLine). y ∷ xs) same
tree_line_at (x ∷ xs) (suc k) line e = let s : suc k + 1 ≡ suc (k + 1) = omega arith in tree_line_at xs k line e
    ∙ ap (λ (m : ℕ). line ∷ drop m (x ∷ xs)) (sym s)

pub node_ends : (n : ℕ) (w : Matrix) (lines : Lines) (k : ℕ) (here : Node) (due : List Node) → k ≡ length lines
    → first_refusal (node_checks n w (length lines) (k + 1) (here ∷ due) (drop k lines)) ≡ Some (TreeShape k)
unfolding node_checks
node_ends n w lines k here due e = rw (e, nothing lines) (test_fails (TreeShape (length lines)) false [] refl)
  where
    nothing : (xs : Lines) → drop (length xs) xs ≡ []
    nothing [] = refl
    nothing (x ∷ xs) = nothing xs

pub node_leaf : (n : ℕ) (w : Matrix) (lines : Lines) (k : ℕ) (here : Node) (due : List Node) → slice_get lines k ≡ Some Leaf
    → node_checks n w (length lines) (k + 1) (here ∷ due) (drop k lines) ≡ leaf_checks n w here.generators (k + 1)
    ++ node_checks n w (length lines) (k + 1 + 1) due (drop (k + 1) lines)
unfolding node_checks
node_leaf n w lines k here due e = rw (tree_line_at lines k Leaf e) refl

pub node_split : (n : ℕ) (w : Matrix) (lines : Lines) (k i j levels : ℕ) (g : Generators) (due : List Node) → slice_get lines k ≡ Some (Split i j) → levels ≢ 0
    → node_checks n w (length lines) (k + 1) (node g levels ∷ due) (drop k lines)
    ≡ map made_check (mediant_ops n g (i - 1) (j - 1))
    ++ node_checks n w (length lines) (k + 1 + 1) (children (node g levels) (i - 1) (j - 1) ++ due) (drop (k + 1) lines)
unfolding node_checks
node_split n w lines k i j levels g due e some =
    let not_zero : nat_eq levels 0 ≡ false = grind arith in
    rw (tree_line_at lines k (Split i j) e, not_zero) refl

pub node_too_deep : (n : ℕ) (w : Matrix) (lines : Lines) (k i j levels : ℕ) (g : Generators) (due : List Node) → slice_get lines k ≡ Some (Split i j)
    → levels ≡ 0
    → first_refusal (node_checks n w (length lines) (k + 1) (node g levels ∷ due) (drop k lines)) ≡ Some (TreeShape (k + 1))
unfolding node_checks
node_too_deep n w lines k i j levels g due e none = rw (tree_line_at lines k (Split i j) e, none) (test_fails (TreeShape (k + 1)) false [] refl)

-- ---- a node, whatever is due after it
pub leaf_goes_on : (n : ℕ) (w q : Matrix) (v g : Generators) (lines : Lines) (k levels : ℕ) (due : List Node) → AgreeBelow n w q → AgreeBelow n v g
    → slice_get lines k ≡ Some Leaf
    → first_refusal (leaf_checks n w v (k + 1)) ≡ None
    → refusal_from n q lines k (node g levels ∷ due) ≡ refusal_from n q lines (k + 1) due
leaf_goes_on n w q v g lines k levels due same agree e passes =
    ap first_refusal (node_leaf n q lines k (node g levels) due e)
    ∙ refusal-append_none (leaf_checks n q g (k + 1)) _ (ap first_refusal (sym (leaf_checks_same n w q v g (k + 1) same agree)) ∙ passes)

pub leaf_refused : (n : ℕ) (w q : Matrix) (v g : Generators) (lines : Lines) (k levels : ℕ) (due : List Node) (r : Checked) → AgreeBelow n w q
    → AgreeBelow n v g → slice_get lines k ≡ Some Leaf
    → first_refusal (leaf_checks n w v (k + 1)) ≡ Some r
    → refusal_from n q lines k (node g levels ∷ due) ≡ Some r
leaf_refused n w q v g lines k levels due r same agree e refused =
    ap first_refusal (node_leaf n q lines k (node g levels) due e)
    ∙ refusal-append_some (leaf_checks n q g (k + 1)) _ r (ap first_refusal (sym (leaf_checks_same n w q v g (k + 1) same agree)) ∙ refused)

pub split_refused : (n : ℕ) (q : Matrix) (v g : Generators) (lines : Lines) (k i j levels : ℕ) (due : List Node) (op : IntOp) → AgreeBelow n v g
    → slice_get lines k ≡ Some (Split i j) → levels ≢ 0
    → i - 1 < n → j - 1 < n → first_owed is_owed (mediant_ops n v (i - 1) (j - 1)) ≡ Some op
    → refusal_from n q lines k (node g levels ∷ due) ≡ Some (Wide op)
split_refused n q v g lines k i j levels due op agree e some li lj wide =
    ap first_refusal (node_split n q lines k i j levels g due e some)
    ∙ made_then_refused (mediant_ops n g (i - 1) (j - 1)) _ op (ap (first_owed is_owed) (sym (mediant_ops_same n v g (i - 1) (j - 1) li lj agree)) ∙ wide)

pub split_goes_on : (n : ℕ) (q : Matrix) (v g : Generators) (lines : Lines) (k i j levels : ℕ) (due : List Node) → AgreeBelow n v g
    → slice_get lines k ≡ Some (Split i j) → levels ≢ 0
    → i - 1 < n → j - 1 < n → first_owed is_owed (mediant_ops n v (i - 1) (j - 1)) ≡ None
    → refusal_from n q lines k (node g levels ∷ due)
    ≡ refusal_from n q lines (k + 1) (children (node g levels) (i - 1) (j - 1) ++ due)
split_goes_on n q v g lines k i j levels due agree e some li lj fits =
    ap first_refusal (node_split n q lines k i j levels g due e some)
    ∙ made_then (mediant_ops n g (i - 1) (j - 1)) _ (ap (first_owed is_owed) (sym (mediant_ops_same n v g (i - 1) (j - 1) li lj agree)) ∙ fits)

-- the children's numbers
module _ (n : ℕ) (v : List (List ℤ)) (sums : List ℤ) (g : Generators) (i j : ℕ) (room : length v ≡ 8) (few : n ≤ 8) (li : i < n) (lj : j < n)
    (agree : AgreeBelow n (at v) g) (is : AreFirst n sums (λ p. at v i p +ℤ at v j p)) where
  sums_agree : AreFirst n sums (λ p. g i p +ℤ g j p)
  sums_agree p l = is p l ∙ ap₂ (λ (a : ℤ) (b : ℤ). a +ℤ b) (agree i p li l) (agree j p lj l)

  pub first_agrees : AgreeBelow n (at (slice_set v i sums)) (child g i j)
  first_agrees = child_row n v sums g i j (omega (arith, room)) li lj agree sums_agree

  pub second_agrees : AgreeBelow n (at (slice_set v j sums)) (child g j i)
  second_agrees = child_row n v sums g j i (omega (arith, room)) lj li agree (λ p l. sums_agree p l ∙ +ℤ_comm (g i p) (g j p))

-- ---- both children
goes_on_as : (n : ℕ) (q : Matrix) (lines : Lines) (k l : ℕ) (here there : Node) (due : List Node) (result : Result ℕ Checked)
    → first_refusal (node_checks n q (length lines) (k + 1) (here ∷ due) (drop k lines))
    ≡ first_refusal (node_checks n q (length lines) (l + 1) (there ∷ due) (drop l lines))
    → GoesOn n q lines l there due result → GoesOn n q lines k here due result
goes_on_as n q lines k l here there due (Ok next) e h = e ∙ h
goes_on_as n q lines k l here there due (Err refusal) e h = e ∙ h

-- a split that goes on, with the sums of its generators
pub record IsSplitHere (n : ℕ) (v : List (List ℤ)) (sums : List ℤ) (lines : Lines) (k i j levels : ℕ) : Type 0 where
  pub room : length v ≡ 8
  pub few : n ≤ 8
  pub split : IsSplitLine n i j
  pub line : slice_get lines k ≡ Some (Split i j)
  pub some : levels ≢ 0
  pub fits : first_owed is_owed (mediant_ops n (at v) (i - 1) (j - 1)) ≡ None
  pub sums_are : AreFirst n sums (λ p. at v (i - 1) p +ℤ at v (j - 1) p)

module _ (n : ℕ) (w : Matrix) (v : List (List ℤ)) (sums : List ℤ) (lines : Lines) (k i j levels : ℕ) (S : IsSplitHere n v sums lines k i j levels) where
  first : i - 1 < n
  first = split_first n i j S.split

  second : j - 1 < n
  second = split_second n i j S.split

  -- from the line on, first the first child's lines
  to_first : (q : Matrix) (g : Generators) (due : List Node) → AgreeBelow n (at v) g
      → refusal_from n q lines k (node g levels ∷ due)
      ≡ refusal_from n q lines (k + 1) (children (node g levels) (i - 1) (j - 1) ++ due)
  to_first q g due agree = split_goes_on n q (at v) g lines k i j levels due agree S.line S.some first second S.fits

  first_lines : (result : Result ℕ Checked) → FollowsAll n w lines (k + 1) (levels - 1) (at (slice_set v (i - 1) sums)) result
      → (q : Matrix) (g : Generators) (due : List Node) → AgreeBelow n w q → AgreeBelow n (at v) g
      → GoesOn n q lines (k + 1) (node (child g (i - 1) (j - 1)) (levels - 1)) (node (child g (j - 1) (i - 1)) (levels - 1) ∷ due) result
  first_lines result one q g due same agree = one q (child g (i - 1) (j - 1)) (node (child g (j - 1) (i - 1)) (levels - 1) ∷ due) same
      (first_agrees n v sums g (i - 1) (j - 1) S.room S.few first second agree S.sums_are)

  pub first_child_refused : (refusal : Checked) → FollowsAll n w lines (k + 1) (levels - 1) (at (slice_set v (i - 1) sums)) (Err refusal)
      → FollowsAll n w lines k levels (at v) (Err refusal)
  first_child_refused refusal one = λ q g due same agree. to_first q g due agree ∙ first_lines (Err refusal) one q g due same agree

  -- the first generator is written back, and then the second is the sums
  pub both_children : (next : ℕ) (kept : List (List ℤ)) (result : Result ℕ Checked)
      → FollowsAll n w lines (k + 1) (levels - 1) (at (slice_set v (i - 1) sums)) (Ok next)
      → kept ≡ slice_set v (i - 1) sums
      → FollowsAll n w lines next (levels - 1) (at (slice_set (slice_set kept (i - 1) (slice_index_or v (i - 1) [])) (j - 1) sums)) result
      → FollowsAll n w lines k levels (at v) result
  both_children next kept result one is two = λ q g due same agree.
      let back = once_back v sums kept (i - 1) (omega (arith, first, S.few, S.room)) is in
      goes_on_as n q lines k next (node g levels) (node (child g (j - 1) (i - 1)) (levels - 1)) due result
      (to_first q g due agree ∙ first_lines (Ok next) one q g due same agree)
      (two q (child g (j - 1) (i - 1)) due same
      (subst (λ (u : List (List ℤ)). AgreeBelow n (at (slice_set u (j - 1) sums)) (child g (j - 1) (i - 1))) (sym back)
      (second_agrees n v sums g (i - 1) (j - 1) S.room S.few first second agree S.sums_are)))

-- from other numbers that are the same below n
pub follows_as : (n : ℕ) (w x : Matrix) (lines : Lines) (k levels : ℕ) (v u : Generators) (result : Result ℕ Checked) → AgreeBelow n x w → AgreeBelow n u v
    → FollowsAll n x lines k levels u result → FollowsAll n w lines k levels v result
follows_as n w x lines k levels v u result first second h = λ q g due same agree.
    h q g due (λ a b la lb. first a b la lb ∙ same a b la lb) (λ a b la lb. second a b la lb ∙ agree a b la lb)

pub fewer : (n : ℕ) (v w : ℕ → ℕ → ℤ) → n ≤ 8 → AgreeBelow 8 v w → AgreeBelow n v w
fewer n v w few same a b la lb = same a b (omega arith) (omega arith)

pub agree_through : (n : ℕ) (u v w : ℕ → ℕ → ℤ) → AgreeBelow n u v → AgreeBelow n v w → AgreeBelow n u w
agree_through n u v w first second a b la lb = first a b la lb ∙ second a b la lb

-- ---- the whole tree
pub tree_over : (n : ℕ) (q : Matrix) (lines : Lines) (end : ℕ) → end < length lines
    → first_refusal (node_checks n q (length lines) (end + 1) [] (drop end lines)) ≡ Some (TreeShape (end + 1))
unfolding node_checks
tree_over n q lines end l = rw (drop-cons lines end Leaf l) (test_fails (TreeShape (end + 1)) false [] refl)

pub tree_whole : (n : ℕ) (q : Matrix) (lines : Lines) (end : ℕ) → length lines ≤ end
    → first_refusal (node_checks n q (length lines) (end + 1) [] (drop end lines)) ≡ None
unfolding node_checks first_refusal
tree_whole n q lines end l = rw (nothing lines end l) refl
  where
    nothing : (xs : Lines) (m : ℕ) → length xs ≤ m → drop m xs ≡ []
    nothing [] zero h = refl
    nothing [] (suc m) h = refl
    nothing (x ∷ xs) zero h = absurd (omega arith)
    nothing (x ∷ xs) (suc m) h = nothing xs m (omega arith)
