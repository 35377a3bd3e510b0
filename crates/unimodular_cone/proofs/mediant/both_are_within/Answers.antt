use Rattle.std.specs.Prelude.{◌≡◌, ◌<◌, ◌≤◌, ◌^◌, ℕ, ℤ, pos, ◌+ℤ◌, nat_abs, List, length, slice_index_or}
use Rattle.std.proofs.Common.{arith, rules, ap, ◌∙◌}
use Rattle.std.proofs.lemmas.Bool.Decides.{nat_tests}
use Rattle.unimodular_cone.proofs.Limits.{IsWideCoordinate, IsWideProduct, fits_by_products, mediant_mirror, products_mirror, int_swap, not_wide, product_bound}
use Rattle.unimodular_cone.proofs.Mediants.{read_both}
use Rattle.unimodular_cone.proofs.mediant.both_are_within.Goals as goal

pub returns : goal.returns
returns g c =
    let products : List ℤ = c.args.products.now in
    let a : ℤ = slice_index_or products c.args.r (pos 0) in
    let b : ℤ = slice_index_or products c.args.s (pos 0) in
    let narrow : (p : ℕ) → p < (g.C.ConeRead.cone c.args.c.now).size → ¬ IsWideCoordinate (slice_index_or c.args.coordinates.now p 0) =
    λ p l. c.in-None.ensures p (rw c.requires.size l) in
    let rest : (k : ℕ) → k < (g.C.ConeRead.cone c.args.c.now).size → ¬ IsWideProduct (slice_index_or products k (pos 0)) =
    λ k l. c.in-None-first_wide_product.ensures k (rw c.requires.size l) in
    let sum : c.unsigned_abs.result ≡ nat_abs (a +ℤ b) =
    c.unsigned_abs.ensures.value ∙ ap nat_abs (read_both _ _ a b
    (ap (λ (i : ℕ). slice_index_or products i (pos 0)) c.from.ensures) (ap (λ (i : ℕ). slice_index_or products i (pos 0)) c.from-2.ensures)
    (product_bound a (rest c.args.r c.requires.first)) (product_bound b (rest c.args.s c.requires.second))).is in
    let room : length products ≡ 8 = search rules in
    record {
      first = λ t.
          let le : c.unsigned_abs.result ≤ 2 ^ 100 = grind (arith, nat_tests) in
          fits_by_products (g.C.ConeRead.cone c.args.c.now) c.requires.fits c.args.r c.args.s c.requires.first c.requires.second c.args.coordinates.now products
          c.requires.coordinates c.requires.products room narrow rest (not_wide c.unsigned_abs.result (a +ℤ b) le sum);
      second = λ t.
          let le : c.unsigned_abs.result ≤ 2 ^ 100 = grind (arith, nat_tests) in
          fits_by_products (g.C.ConeRead.cone c.args.c.now) c.requires.fits c.args.s c.args.r c.requires.second c.requires.first c.args.coordinates.now products
          (mediant_mirror _ c.args.r c.args.s _ c.requires.coordinates) (products_mirror _ c.args.r c.args.s _ c.requires.products) room narrow rest
          (not_wide c.unsigned_abs.result (b +ℤ a) le (sum ∙ ap nat_abs (int_swap a b)));
    }
