-- The operations on whole numbers that the arithmetic of fractions makes, in their order.
--
--     mul_ops x y    a/b times c/d: with g = gcd(a, d) and h = gcd(c, b), the numerator (a/g)·(c/h), then the
--                    denominator (b/h)·(d/g)
--     div_ops x y    those of x times y turned over, whose sign stands at the numerator
--     cross_sum_ops a x b y  u = a·x, v = b·y, then u + v
--     add_ops x y    a/b plus c/d: with g = gcd(b, d), u = a·(d/g), v = c·(b/g), t = u + v, and with h = gcd(t, g)
--                    the denominator (b/g)·(d/h); the numerator is t/h
--     sub_ops x y    those of x plus y negated
--
-- Each list has the exact operands, whichever operations before them fit, in the order written.
use Rattle.std.specs.Prelude.{ℕ, ℤ, pos, ◌+ℤ◌, ◌*ℤ◌, nat_abs, ◌/◌, List, [], ◌∷◌, ◌++◌}
use Rattle.commutative_ring.specs.Gcd.{gcd_of, divided}
use Rattle.exact_forms.specs.Rational.{Rational, neg_ℚ, inverse}
use Rattle.symmetric_matrix.specs.declared.operation.IntOp.{IntOp}
use Rattle.symmetric_matrix.specs.Operations.{mul_op, add_op}

unfoldable pub mul_ops : Rational → Rational → List IntOp
mul_ops x y =
    let g : ℕ = gcd_of (nat_abs x.num) y.den in
    let h : ℕ = gcd_of (nat_abs y.num) x.den in
    mul_op (divided x.num g) (divided y.num h) ∷ mul_op (pos (x.den / h)) (pos (y.den / g)) ∷ []

unfoldable pub div_ops : Rational → Rational → List IntOp
div_ops x y = mul_ops x (inverse y.num y.den)

-- a·x + b·y
abbrev pub cross_sum_ops : ℤ → ℤ → ℤ → ℤ → List IntOp
cross_sum_ops a x b y = mul_op a x ∷ mul_op b y ∷ add_op (a *ℤ x) (b *ℤ y) ∷ []

unfoldable pub add_ops : Rational → Rational → List IntOp
add_ops x y =
    let g : ℕ = gcd_of x.den y.den in
    let own : ℤ = pos (x.den / g) in
    let its : ℤ = pos (y.den / g) in
    let h : ℕ = gcd_of (nat_abs (x.num *ℤ its +ℤ y.num *ℤ own)) g in
    cross_sum_ops x.num its y.num own ++ mul_op own (pos (y.den / h)) ∷ []

unfoldable pub sub_ops : Rational → Rational → List IntOp
sub_ops x y = add_ops x (neg_ℚ y)
