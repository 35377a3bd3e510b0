-- The order of rational numbers, as an answer.
--
--     order_of x y    Less, Equal or Greater, as x is below y, y itself, or over y: p·s against r·q for x = p/q and y = r/s
use Rattle.std.specs.Prelude.{pos, ◌*ℤ◌}
use Rattle.std.specs.Ordering.{int_cmp}
use Rattle.std.specs.declared.cmp.Ordering.{Ordering}
use Rattle.exact_forms.specs.Rational.{Rational}

unfoldable pub order_of : Rational → Rational → Ordering
order_of x y = int_cmp (x.num *ℤ pos y.den) (y.num *ℤ pos x.den)
