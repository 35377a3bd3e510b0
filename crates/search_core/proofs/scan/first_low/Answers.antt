use Rattle.std.proofs.Common.{arith, inl, inr, refl}
use Rattle.search_core.specs.Scans.{IsLowOf}
use Rattle.search_core.proofs.Firsts.{first_kept, first_found, first_whole}
use Rattle.search_core.proofs.WaysDown.{when_false}
use Rattle.search_core.proofs.scan.first_low.Goals as goal
use Rattle.search_core.proofs.scan.first_low.Goals.{then-is_low_of+then-comes_first, else-is_low_of, else-is_low_of-via-then-is_low_of+else-comes_first}
use Rattle.search_core.proofs.scan.first_low.Goals.{else-is_low_of-via-else-is_low_of}

pub loop-j-preserved : goal.loop-j-preserved
loop-j-preserved c = elim c.if-is_low_of.branch [
  | then-is_low_of+then-comes_first w ↦ rw w.best-is
      (first_found (IsLowOf c.args.depth) c.args.judged.now c.loop-j.j-index c.j-item.result c.loop-j.best c.loop-j-test.true c.j-item.is c.loop-j.invariant
      (w.if-is_low_of.ensures.0 refl) w.if-comes_first.ensures)
  | else-is_low_of w ↦ rw w.best-is (elim w.else-is_low_of.branch [
    | else-is_low_of-via-then-is_low_of+else-comes_first v ↦ first_kept (IsLowOf c.args.depth) c.args.judged.now c.loop-j.j-index c.j-item.result c.loop-j.best
        c.loop-j-test.true c.j-item.is c.loop-j.invariant (inr v.if-comes_first.ensures)
    | else-is_low_of-via-else-is_low_of v ↦ first_kept (IsLowOf c.args.depth) c.args.judged.now c.loop-j.j-index c.j-item.result c.loop-j.best
        c.loop-j-test.true c.j-item.is c.loop-j.invariant (inl (λ h. when_false ⊥ (v.if-is_low_of.ensures.1 h)))
  ])
]

pub returns : goal.returns
returns c = first_whole _ _ _ _ (omega arith) c.loop-j.invariant
