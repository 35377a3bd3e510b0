use Rattle.std.specs.Prelude.{◌<◌, ◌≤◌, ◌^◌, ◌+ℤ◌, ◌↔◌, IsTrue, ℕ, ℤ, pos, nat_abs, List, slice_index_or}
use Rattle.std.proofs.Common.{arith, ap, refl, subst}
use Rattle.unimodular_cone.proofs.NarrowSums.{sum_64, mediant_narrow, square_narrow, not_too_wide, is_not_too_wide}
use Rattle.unimodular_cone.proofs.narrow_sums.are_narrow.Goals as goal

pub returns-then-all_narrow : goal.returns-then-all_narrow
returns-then-all_narrow c =
    let xs : List ℤ = c.args.products.now in
    let lr : c.args.r < c.args.c.now.size = omega (arith, c.requires.first, c.requires.size) in
    let ls : c.args.s < c.args.c.now.size = omega (arith, c.requires.second, c.requires.size) in
    let all : (k : ℕ) → k < c.args.c.now.size → nat_abs (slice_index_or xs k (pos 0)) ≤ 2 ^ 59 =
    λ k l. c.if-all_narrow.ensures.0 refl k (rw c.requires.size l) in
    let sum = sum_64 _ _ (slice_index_or xs c.args.r (pos 0)) (slice_index_or xs c.args.s (pos 0))
    (ap (λ (i : ℕ). slice_index_or xs i (pos 0)) c.from.ensures) (ap (λ (i : ℕ). slice_index_or xs i (pos 0)) c.from-then-all_narrow.ensures)
    (all c.args.r lr) (all c.args.s ls) in
    let test : IsTrue c.is_too_wide.result ↔ (2 ^ 59 < nat_abs (slice_index_or xs c.args.r (pos 0) +ℤ slice_index_or xs c.args.s (pos 0))) =
    subst (λ (z : ℤ). IsTrue c.is_too_wide.result ↔ (2 ^ 59 < nat_abs z)) sum c.is_too_wide.ensures in (
      λ t. mediant_narrow c.args.c.now c.args.r c.args.s xs lr ls c.requires.products all (not_too_wide c.is_too_wide.result _ test t),
      λ m. is_not_too_wide c.is_too_wide.result _ test (square_narrow c.args.c.now c.args.r c.args.s xs lr ls c.requires.products m),
    )
