-- What is due, and what stands in the machine, is in the tree.
use Rattle.std.specs.Prelude.{◌≡◌, ℕ, zero, suc, ◌<◌, ◌≤◌, ◌+◌, List, [], ◌∷◌, length}
use Rattle.std.proofs.Common.{arith, sym, ◌∙◌, ap, refl, inl, inr, subst}
use Rattle.std.specs.List.{Contains}
use Rattle.commutative_ring.proofs.SmallCases.{below_unless_same}
use Rattle.unimodular_cone.specs.Paths.{Path}
use Rattle.unimodular_cone.specs.Cones.{Matrix}
use Rattle.unimodular_cone.specs.declared.Mode.{Mode}
use Rattle.unimodular_cone.specs.Tree.{IsInTree}
use Rattle.unimodular_cone.proofs.Tree.{length_child, in_tree_root, in_tree_child}
use Rattle.search_core.specs.Fair.{Judged, IsDue, IsJudgement}
use Rattle.search_core.specs.Machine.{Empty, State, hand, held, paths, standing, due, times, IsKept}
use Rattle.search_core.proofs.ShownFates.{judged_fate}
use Rattle.search_core.proofs.Settle.{split_can}
use Rattle.search_core.proofs.Times.{times_none, times_same, times_hands}
use Rattle.search_core.proofs.Kept.{times_standing}
use Rattle.search_core.proofs.Finish.{from_due, judged_is_due}

-- where each judged path is due, each due path is in the tree
module _ (m : Mode) (n : ℕ) (q : Matrix) (d final : ℕ) (judged : List Judged) (each : (j : Judged) → Contains judged j → IsJudgement m n q d final j)
    (no_other : (j : Judged) → Contains judged j → IsDue judged j.path) where
  due_in_tree_by : (fuel : ℕ) (x : Path) → length x ≤ fuel → IsDue judged x → IsInTree n q d x
  due_in_tree_by fuel x short (inl e) = subst (IsInTree n q d) (sym e) (in_tree_root n q d)
  due_in_tree_by zero x short (inr (j, side, c, split, e)) = absurd (omega (arith, ap length e, length_child j.path side))
  due_in_tree_by (suc fuel) x short (inr (j, side, c, split, e)) =
      let t : IsInTree n q d j.path = due_in_tree_by fuel j.path (omega (arith, ap length e, length_child j.path side)) (no_other j c) in
      let can = split_can m n q d j.path j.fate (judged_fate m n q d final j (each j c)) split in
      let s : length j.path ≤ d = t.short in
      subst (IsInTree n q d) (sym e) (in_tree_child n q d j.path side t (below_unless_same (length j.path) d s can.1) can.0)

  pub due_in_tree : (x : Path) → IsDue judged x → IsInTree n q d x
  due_in_tree x h = due_in_tree_by (length x) x (omega arith) h

-- where no path is judged more often than it is due, each path that is due is in the tree
pub counted_in_tree : (m : Mode) (n : ℕ) (q : Matrix) (d final : ℕ) (judged : List Judged) → ((j : Judged) → Contains judged j → IsJudgement m n q d final j)
    → ((y : Path) → times y (paths judged) ≤ times y (due judged)) → (x : Path) → 1 ≤ times x (due judged) → IsInTree n q d x
counted_in_tree m n q d final judged each counts x h = due_in_tree m n q d final judged each (judged_is_due judged counts) x (from_due x judged h)

-- the path in a hand of the machine is in the tree
pub held_in_tree : (m : Mode) (n : ℕ) (q : Matrix) (d : ℕ) (s : State) (k : ℕ) (path : Path) → IsKept m n q d s → k < length s.hands
    → held (hand s k) ≡ path ∷ [] → IsInTree n q d path
held_in_tree m n q d s k path kept worker holds = counted_in_tree m n q d s.word s.judged kept.judgements counts path is_due
  where
    counts : (y : Path) → times y (paths s.judged) ≤ times y (due s.judged)
    counts y = let a : times y (standing s) ≡ times y (due s.judged) = kept.stands y in let b = times_standing y s in omega arith

    is_due : 1 ≤ times path (due s.judged)
    is_due =
        let a : times path (standing s) ≡ times path (due s.judged) = kept.stands path in
        let b = times_standing path s in
        let c = times_hands path s.hands k Empty worker in
        let e : times path (held (hand s k)) ≡ 1 + times path [] = ap (times path) holds ∙ times_same path path [] refl in
        let z = times_none path in
        omega arith
