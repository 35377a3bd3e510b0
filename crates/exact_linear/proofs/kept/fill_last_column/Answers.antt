use Rattle.std.proofs.Common.{◌∙◌, sym, subst, arith, set, ◌+◌}
use Rattle.exact_forms.specs.Rational.{Rational}
use Rattle.exact_linear.proofs.Fill.{Filled, fill_set, fill_keep, fill_all}
use Rattle.exact_linear.proofs.kept.fill_last_column.Goals as goal
use Rattle.exact_linear.proofs.kept.fill_last_column.Goals.{then-k-width, else-k-width}

pub loop-k-preserved : goal.loop-k-preserved
loop-k-preserved c = elim c.if-k-width.branch [
  | then-k-width w ↦ rw w.entries-is
      (subst (λ (one : Rational). Filled c.args.width c.args.entries.now (set c.loop-k.entries c.loop-k.k one) (c.loop-k.k + 1)) (sym w.whole.ensures)
      (fill_set c.args.width c.loop-k.k c.args.entries.now c.loop-k.entries (let l = c.loop-k-test.true in let s = c.loop-k.auto.entries in
      omega arith) w.if-k-width.true c.loop-k.invariant))
  | else-k-width w ↦ rw w.entries-is (fill_keep c.args.width c.loop-k.k c.args.entries.now c.loop-k.entries w.if-k-width.false c.loop-k.invariant)
]

pub returns : goal.returns
returns c = fill_all c.args.rows c.args.width c.loop-k.k c.args.entries.now c.loop-k.entries (c.loop-k.auto.entries ∙ c.requires.size)
    (let l = c.loop-k-test.false in let s = c.requires.size in omega arith) c.loop-k.invariant
