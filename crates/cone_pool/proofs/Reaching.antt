-- A path that stands is in the tree.
use Rattle.std.proofs.Common.{◌≡◌, ℕ, ◌+◌, ◌≤◌, [], ◌∷◌, refl, ap, arith}
use Rattle.unimodular_cone.specs.declared.Mode.{Mode}
use Rattle.unimodular_cone.specs.Paths.{Path}
use Rattle.unimodular_cone.specs.Cones.{Matrix}
use Rattle.unimodular_cone.specs.Tree.{IsInTree}
pub use Rattle.unimodular_cone.proofs.Ways.{tree_reachable, tree_not_wide}
use Rattle.search_core.specs.Machine.{times, paths, below_splits, due}
use Rattle.search_core.proofs.Times.{times_cons, times_same}
use Rattle.search_core.proofs.Reaching.{counted_in_tree}
use Rattle.cone_pool.specs.Lots.{IsNoMoreThanPut, token_taken}
use Rattle.cone_pool.specs.Parts.{Member, given_to, IsWorkerPart}

-- the path in hand of a worker that has number 1, no token, and no pass on its deque in use
pub hand_in_tree : (m : Mode) (n : ℕ) (q : Matrix) (d : ℕ) (path : Path) (w : Member) → IsWorkerPart m n q d (path ∷ []) w → w.number ≡ 1
    → w.lot.tokens ≡ [] → w.lot.out ≡ 0 → IsNoMoreThanPut w.lot → IsInTree n q d path
hand_in_tree m n q d path w part number tokens out within =
    counted_in_tree m n q d w.seat.told w.judged.items part.judged.judgements (λ y. (let a = stands y in omega arith)) path
    (let a = stands path in let b : times path (path ∷ []) ≡ 1 + times path [] = times_same path path [] refl in omega arith)
  where
    stands : (p : Path) → times p (paths w.judged.items) + times p (path ∷ []) ≤ times p (due w.judged.items)
    stands p =
        let a = part.counts p in
        let b = within out p in
        let c : times p (given_to w.number) ≡ times p ([] ∷ []) = ap (λ (k : ℕ). times p (given_to k)) number in
        let e : token_taken p w.lot.tokens ≡ 0 = ap (token_taken p) tokens in
        omega (arith, times_cons p [] (below_splits w.judged.items))
