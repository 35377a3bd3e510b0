use Rattle.std.proofs.Common.{◌≡◌, ◌++◌, ◌+◌, ◌*◌, ◌<◌, ◌^◌, ℕ, nat_abs, length, take, drop}
use Rattle.exact_linear.specs.Whole.{fractions_over, whole_at}
use Rattle.exact_linear.specs.Exchange.{rest_cells, pivot_row}
use Rattle.exact_linear.proofs.Rows.{IsAtCell}
use Rattle.exact_linear.proofs.whole.exchange_wholes.Given as goal

-- what is written so far and what is left are the new entries
abbrev pub invariant-loop-k : goal.invariant-loop-k
invariant-loop-k l = record {
  cell : IsAtCell l.k l.i l.j l.width (length l.into) (length l.old);
  small : (m : ℕ) → m < l.k → nat_abs (whole_at l.into m) < 2 ^ 63;
  made :
      take l.k (fractions_over (nat_abs (whole_at l.old (l.row * l.width + l.column))) l.into)
      ++ rest_cells l.row l.column l.width (pivot_row l.width (fractions_over (nat_abs l.den) l.old) l.row l.column)
      (fractions_over (nat_abs l.den) l.old) (drop l.k (fractions_over (nat_abs l.den) l.old)) l.i l.j
      ≡ rest_cells l.row l.column l.width (pivot_row l.width (fractions_over (nat_abs l.den) l.old) l.row l.column)
      (fractions_over (nat_abs l.den) l.old) (fractions_over (nat_abs l.den) l.old) 0 0;
}
