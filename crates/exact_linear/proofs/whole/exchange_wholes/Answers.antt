use Rattle.std.proofs.Common.{◌≡◌, ◌∙◌, ◌++◌, ◌+◌, ◌*◌, ◌<◌, ◌^◌, sym, arith, ℕ, ℤ, List, nat_abs, take, drop, set, to_z-of_z}
use Rattle.std.proofs.lemmas.List.{length-set, length-map}
use Rattle.symmetric_matrix.proofs.Narrow.{read_64}
use Rattle.commutative_ring.proofs.SmallCases.{positive_abs}
use Rattle.exact_forms.specs.Rational.{Rational, ratio}
use Rattle.exact_linear.specs.Whole.{fractions_over, whole_at, turned}
use Rattle.exact_linear.specs.Exchange.{new_cell, rest_cells, next_row, next_column, pivot_row}
use Rattle.exact_linear.proofs.Rows.{cell_within, cell_beside, cell_below, next_inside, next_after}
use Rattle.exact_linear.proofs.WholeEntries.{row_below, all_written, written, written_small}
use Rattle.exact_linear.proofs.whole.exchange_wholes.Goals as goal
use Rattle.exact_linear.proofs.whole.exchange_wholes.Goals.{then-j-width, else-j-width}

pub bounds-old-i : goal.bounds-old-i
bounds-old-i c = omega (
  arith,
  cell_within _ _ _ _ _ _ c.args.column c.args.rows c.loop-k.invariant.cell (omega arith) c.requires.column,
)

pub overflow_add-i : goal.overflow_add-i
overflow_add-i c = omega (arith, row_below c.loop-k.i c.loop-k.j c.args.width c.args.rows c.loop-k.k c.loop-k.invariant.cell.place (omega arith), c.ranges.rows)

entry_is : (c : goal.Joined-j-width)
    → new_cell c.args.row c.loop-k.i (ratio (whole_at c.args.old.now c.loop-k.k) (nat_abs c.args.den))
    (ratio (whole_at c.args.old.now (c.loop-k.i * c.args.width + c.args.column)) (nat_abs c.args.den))
    (ratio (turned (whole_at c.args.old.now (c.args.row * c.args.width + c.args.column))
    (whole_at c.args.old.now (c.args.row * c.args.width + c.loop-k.j)))
    (nat_abs (whole_at c.args.old.now (c.args.row * c.args.width + c.args.column))))
    ≡ ratio c.in-Some.entry (nat_abs (whole_at c.args.old.now (c.args.row * c.args.width + c.args.column)))
entry_is c =
    let old = c.args.old.now in
    let P : ℤ = whole_at old (c.args.row * c.args.width + c.args.column) in
    let pivot : c.new-scales.result.pivot ≡ P =
    rw (read_64 P (c.requires.small.small (c.args.row * c.args.width + c.args.column))) at c.new-scales.ensures.pivot in
    let den : c.new-scales.result.den ≡ c.args.den = rw (to_z-of_z c.ranges.den) at c.new-scales.ensures.den in
    rw (
      read_64 (whole_at old c.loop-k.k) (c.requires.small.small c.loop-k.k),
      read_64 (whole_at old (c.loop-k.i * c.args.width + c.args.column)) (c.requires.small.small (c.loop-k.i * c.args.width + c.args.column)),
      read_64 (whole_at old (c.args.row * c.args.width + c.loop-k.j)) (c.requires.small.small (c.args.row * c.args.width + c.loop-k.j)),
      pivot,
      den,
    ) at c.in-Some.ensures.value

made_ok : (c : goal.Joined-j-width)
    → let P : ℤ = whole_at c.args.old.now (c.args.row * c.args.width + c.args.column) in
    let O : List Rational = fractions_over (nat_abs c.args.den) c.args.old.now in
    let N : List Rational = pivot_row c.args.width O c.args.row c.args.column in
    take (c.loop-k.k + 1) (fractions_over (nat_abs P) (set c.loop-k.into c.loop-k.k c.in-Some.entry)) ++ rest_cells c.args.row c.args.column
    c.args.width N O (drop (c.loop-k.k + 1) O) (next_row c.args.width c.loop-k.i c.loop-k.j) (next_column c.args.width c.loop-k.i c.loop-k.j)
    ≡ rest_cells c.args.row c.args.column c.args.width N O O 0 0
made_ok c =
    sym (written c.args.row c.args.column c.args.width c.args.rows (nat_abs c.args.den) c.loop-k.i c.loop-k.j c.loop-k.k c.args.old.now c.loop-k.into
    c.in-Some.entry
    (record { positive = positive_abs c.args.den c.requires.den; small = c.requires.den_small }) c.requires.small c.requires.pivot
    c.requires.rows c.requires.row c.loop-k.invariant.cell.column c.loop-k-test.true c.loop-k.invariant.cell.size (entry_is c))
    ∙ (rw (to_z-of_z c.ranges.den) at c.loop-k.invariant.made)

small_ok : (c : goal.Joined-j-width) (m : ℕ) → m < c.loop-k.k + 1 → nat_abs (whole_at (set c.loop-k.into c.loop-k.k c.in-Some.entry) m) < 2 ^ 63
small_ok c m l = written_small c.loop-k.into c.loop-k.k m c.in-Some.entry (omega (arith, c.loop-k.invariant.cell.size)) c.loop-k.invariant.small
    c.in-Some.ensures.small l

pub loop-k-preserved : goal.loop-k-preserved
loop-k-preserved c =
    let size = length-set c.loop-k.into c.loop-k.k c.in-Some.entry in
    elim c.if-j-width.branch [
      | then-j-width w ↦
          let next = next_inside c.args.width c.loop-k.i c.loop-k.j w.if-j-width.true in
          rw (w.i-is, w.j-is, to_z-of_z c.ranges.den, read_64 c.in-Some.entry c.in-Some.ensures.small) record {
            cell = cell_beside _ _ _ _ _ _ _ c.loop-k.invariant.cell size w.if-j-width.true;
            small = small_ok c;
            made = rw (next.0, next.1) at (made_ok c);
          }
      | else-j-width w ↦
          let next = next_after c.args.width c.loop-k.i c.loop-k.j w.if-j-width.false in
          rw (w.i-is, w.j-is, to_z-of_z c.ranges.den, read_64 c.in-Some.entry c.in-Some.ensures.small) record {
            cell = cell_below _ _ _ _ _ _ _ c.loop-k.invariant.cell size w.if-j-width.false;
            small = small_ok c;
            made = rw (next.0, next.1) at (made_ok c);
          }
    ]

pub returns-clause-made : goal.returns-clause-made
returns-clause-made c = λ _.
    all_written c.args.row c.args.column c.args.width (nat_abs (whole_at c.args.old.now (c.args.row * c.args.width + c.args.column))) c.loop-k.k
    c.loop-k.i c.loop-k.j c.loop-k.into (fractions_over (nat_abs c.args.den) c.args.old.now)
    (let s = length-map c.args.old.now (λ (w : ℤ). ratio w (nat_abs c.args.den)) in omega arith)
    (c.loop-k.invariant.cell.size ∙ sym (length-map c.args.old.now (λ (w : ℤ). ratio w (nat_abs c.args.den))))
    (rw (to_z-of_z c.ranges.den) at c.loop-k.invariant.made)
