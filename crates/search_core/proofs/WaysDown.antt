-- Ways down from the root to a path of the tree.
use Rattle.std.specs.Prelude.{◌≡◌, ◌⊎◌, ℕ, ◌<◌, ◌+◌, ℤ, pos, ◌≤ℤ◌, ◌-◌, ◌^◌, FitsSigned, Bool, true, false, not, IsTrue, ◌↔◌, nat_eq, length, take}
use Rattle.std.specs.Int.{w128}
use Rattle.std.proofs.lemmas.Int.{ints, to_z-of_z}
use Rattle.std.proofs.Common.{to_z, of_z, arith, sym, ◌∙◌, ap, refl, inl, inr, subst}
use Rattle.std.proofs.lemmas.List.{take_all}
use Rattle.commutative_ring.proofs.SmallCases.{before_or_here}
use Rattle.unimodular_cone.specs.Paths.{Path, digit_of, digit_at}
use Rattle.unimodular_cone.specs.Cones.{Matrix}
use Rattle.unimodular_cone.specs.Tree.{IsClosedAt}
use Rattle.unimodular_cone.specs.Shown.{ShownCone, IsConeAt, IsNext}
use Rattle.unimodular_cone.proofs.Orders.{take_is_above, above_is_take}
use Rattle.unimodular_cone.proofs.Tree.{above_shorter}
use Rattle.unimodular_cone.proofs.ShownAt.{child_at_path}
use Rattle.unimodular_cone.proofs.Ways.{take_digit}
use Rattle.search_core.specs.Scans.{IsUnclosedDown}

-- ---- the way down
-- k digits down, and no cone above is closed
pub record IsDownAt (n : ℕ) (q : Matrix) (b : ℤ) (path : Path) (k : ℕ) (c : ShownCone) : Type 0 where
  pub at_path : IsConeAt n q (take k path) c
  pub unclosed : (i : ℕ) → i < k → ¬ IsClosedAt n q (take i path) b

-- the cone at one more digit of the path
pub way_more : (n : ℕ) (q : Matrix) (path : Path) (k : ℕ) (c r : ShownCone) → k < length path → IsConeAt n q (take k path) c
    → IsNext c (nat_eq (digit_of (digit_at path k)) 1) r → IsConeAt n q (take (k + 1) path) r
way_more n q path k c r l at next =
    subst (λ (p : Path). IsConeAt n q p r) (take_digit path k l)
    (child_at_path n q (take k path) c at next.i next.j (nat_eq (digit_of (digit_at path k)) 1) r next.pair next.child)

pub down_more : (n : ℕ) (q : Matrix) (b : ℤ) (path : Path) (k : ℕ) (c r : ShownCone) → k < length path → IsDownAt n q b path k c
    → (¬ IsClosedAt n q (take k path) b)
    → IsNext c (nat_eq (digit_of (digit_at path k)) 1) r → IsDownAt n q b path (k + 1) r
down_more n q b path k c r l h unclosed next = record {
  at_path = way_more n q path k c r l h.at_path next;
  unclosed = λ i li. by i (before_or_here i k li);
}
  where
    by : (i : ℕ) → ((i < k) ⊎ (i ≡ k)) → ¬ IsClosedAt n q (take i path) b
    by i (inl lt) = h.unclosed i lt
    by i (inr e) = subst (λ (m : ℕ). ¬ IsClosedAt n q (take m path) b) (sym e) unclosed

pub down_closed : (n : ℕ) (q : Matrix) (b : ℤ) (path : Path) (k : ℕ) → k < length path → IsClosedAt n q (take k path) b → ¬ IsUnclosedDown n q b path
down_closed n q b path k l closed u = u.above (take k path) (take_is_above path k l) closed

pub down_open : (n : ℕ) (q : Matrix) (b : ℤ) (path : Path) (k : ℕ) (c : ShownCone) → k ≡ length path → IsDownAt n q b path k c
    → (¬ IsClosedAt n q (take k path) b) → IsUnclosedDown n q b path
down_open n q b path k c e h unclosed = record {
  itself = subst (λ (p : Path). ¬ IsClosedAt n q p b) (whole path k e) unclosed;
  above = λ a above. let l : length a < length path = above_shorter a path above in
      subst (λ (p : Path). ¬ IsClosedAt n q p b) (sym (above_is_take a path above)) (h.unclosed (length a) (omega arith));
}
  where
    whole : (p : Path) (k : ℕ) → k ≡ length p → take k p ≡ p
    whole p k e = take_all k p (omega arith)

pub closed_itself : (n : ℕ) (q : Matrix) (b : ℤ) (path : Path) (k : ℕ) → k ≡ length path → IsClosedAt n q (take k path) b → ¬ IsUnclosedDown n q b path
closed_itself n q b path k e closed u = u.itself (subst (λ (p : Path). IsClosedAt n q p b) (take_all k path (omega arith)) closed)

-- ---- tests
pub when_false : (P : Type 0) → IsTrue false → P
when_false P e = absurd (cc)

pub not_test : (r : Bool) (P Q : Type 0) → (IsTrue r ↔ P) → ((¬ P) → Q) → (P → ¬ Q) → IsTrue (not r) ↔ Q
not_test true P Q h yes_q no_q = (when_false Q, λ x. absurd (no_q (h.0 refl) x))
not_test false P Q h yes_q no_q = ((λ _. yes_q (λ x. when_false ⊥ (h.1 x))), λ _. refl)

-- a bound that was handed on
pub read_bound : (b : ℤ) → pos 0 ≤ℤ b → b ≤ℤ pos (2 ^ 64 - 1) → to_z w128 (of_z w128 b) ≡ b
read_bound b low high = let fits : FitsSigned w128 b = omega (arith, ints) in to_z-of_z w128 b fits

-- numbers of 128 bits whose bits are the same
pub same_when_read : (a b : ℤ) → FitsSigned w128 a → FitsSigned w128 b → of_z w128 a ≡ of_z w128 b → a ≡ b
same_when_read a b fa fb e = sym (to_z-of_z w128 a fa) ∙ ap (to_z w128) e ∙ to_z-of_z w128 b fb
