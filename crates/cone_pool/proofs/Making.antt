-- A cone that is made from the root.
use Rattle.std.specs.Prelude.{◌≡◌, ℕ, ◌<◌, ◌+◌, Bool, false, nat_eq, [], ◌∷◌, ◌++◌, length, take}
use Rattle.std.proofs.Common.{sym, ◌∙◌, ap, subst}
use Rattle.std.proofs.lemmas.List.{take_more}
use Rattle.unimodular_cone.specs.Paths.{Path, digit_of, digit_at}
use Rattle.unimodular_cone.specs.Cones.{Matrix, IsPair}
use Rattle.unimodular_cone.specs.Shown.{ShownCone, shown_gram, IsConeAt, IsChild}
use Rattle.unimodular_cone.proofs.ShownAt.{child_at_path}
use Rattle.unimodular_cone.proofs.Ways.{digit_back}

pub one_digit_down : (n : ℕ) (q : Matrix) (path : Path) (k : ℕ) (c d : ShownCone) (i j digit : ℕ) → k < length path → IsConeAt n q (take k path) c
    → IsPair c.size (shown_gram c) i j
    → digit ≡ digit_of (digit_at path k) → IsChild c i j (nat_eq digit 1) d → IsConeAt n q (take (k + 1) path) d
one_digit_down n q path k c d i j digit l at pair is child =
    let side : Bool = nat_eq digit 1 in
    let more : take k path ++ side ∷ [] ≡ take (k + 1) path =
    ap (λ (b : Bool). take k path ++ b ∷ []) (ap (λ (m : ℕ). nat_eq m 1) is ∙ digit_back (digit_at path k)) ∙ sym (take_more path k false l) in
    subst (λ (p : Path). IsConeAt n q p d) more (child_at_path n q (take k path) c at i j side d pair child)
