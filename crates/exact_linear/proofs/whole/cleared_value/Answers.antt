use Rattle.std.proofs.Common.{◌≡◌, ◌∙◌, ◌<◌, ◌^◌, ◌*ℤ◌, ◌-ℤ◌, nat_abs, arith, ap₂, ℤ, pos, to_z-of_z}
use Rattle.symmetric_matrix.proofs.Narrow.{read_128, read_64}
use Rattle.exact_linear.proofs.whole.cleared_value.Goals as goal

wide_small : (n : ℤ) → nat_abs n < 2 ^ 126 → nat_abs n < 2 ^ 127
wide_small n h = omega arith

pub returns-clause-value : goal.returns-clause-value
returns-clause-value c =
    let size : c.magnitude-size.result ≡ pos (nat_abs c.args.scales.pivot) =
    rw (read_64 c.args.scales.pivot c.requires.scales.small) at c.magnitude-size.ensures.value in
    let left : c.wide_product.result ≡ c.args.entry *ℤ c.magnitude-size.result =
    rw (to_z-of_z c.ranges.entry, read_64 c.magnitude-size.result c.magnitude-size.ensures.small) at c.wide_product.ensures.value in
    let right : c.wide_product-2.result ≡ c.args.factor *ℤ c.args.above =
    rw (to_z-of_z c.ranges.factor, to_z-of_z c.ranges.above) at c.wide_product-2.ensures.value in
    read_128 c.difference.result c.difference.ensures.small
    ∙ (rw (
      read_128 c.wide_product.result (wide_small c.wide_product.result c.wide_product.ensures.small),
      read_128 c.wide_product-2.result
          (wide_small c.wide_product-2.result c.wide_product-2.ensures.small),
    ) at c.difference.ensures.value)
    ∙ ap₂ (λ (a : ℤ) (b : ℤ). a -ℤ b) (rw size at left) right
