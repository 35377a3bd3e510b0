use Rattle.std.proofs.Common.{◌≡◌, ◌<◌, ◌+◌, ◌*◌, nat_cmp}
use Rattle.fraction128.proofs.order.order_by_division.Given as goal

abbrev pub invariant-loop-whole : goal.invariant-loop-whole
invariant-loop-whole l = record { left : 0 < l.b; right : 0 < l.d; same : nat_cmp (l.fn.a * l.fn.d) (l.fn.c * l.fn.b) ≡ nat_cmp (l.a * l.d) (l.c * l.b) }

abbrev pub decreases-loop-whole : goal.decreases-loop-whole
decreases-loop-whole l = l.b + l.d
