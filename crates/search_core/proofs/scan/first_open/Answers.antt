use Rattle.std.specs.Prelude.{pos}
use Rattle.std.proofs.Common.{arith, inl, inr, refl, sym}
use Rattle.symmetric_matrix.specs.Symmetric.{entry}
use Rattle.search_core.specs.Scans.{IsOpenEnd}
use Rattle.search_core.proofs.Firsts.{first_kept, first_found, first_whole}
use Rattle.search_core.proofs.WaysDown.{when_false}
use Rattle.search_core.proofs.scan.first_open.Goals as goal
use Rattle.search_core.proofs.scan.first_open.Goals.{then-comes_first+then-is_open_end, else-comes_first}
use Rattle.search_core.proofs.scan.first_open.Goals.{else-comes_first-via-then-comes_first+else-is_open_end, else-comes_first-via-else-comes_first}

pub is_open_end-requires-clause-in_tree : goal.is_open_end-requires-clause-in_tree
is_open_end-requires-clause-in_tree c = c.requires.in_tree c.j-item.result (c.loop-j.j-index, c.loop-j-test.true, sym c.j-item.is)

pub loop-j-preserved : goal.loop-j-preserved
loop-j-preserved c = elim c.if-comes_first.branch [
  | then-comes_first+then-is_open_end w ↦
      rw w.best-is (first_found (IsOpenEnd c.args.q.now.size (entry c.args.q.now) (pos c.args.bound)) _ _ _ _ c.loop-j-test.true c.j-item.is c.loop-j.invariant
      (w.if-is_open_end.ensures.0 refl) w.if-comes_first.ensures)
  | else-comes_first w ↦ rw w.best-is (first_kept (IsOpenEnd c.args.q.now.size (entry c.args.q.now) (pos c.args.bound)) _ _ _ _ c.loop-j-test.true c.j-item.is
      c.loop-j.invariant (elim w.else-comes_first.branch [
        | else-comes_first-via-then-comes_first+else-is_open_end v ↦ inl (λ h. when_false ⊥ (v.if-is_open_end.ensures.1 h))
        | else-comes_first-via-else-comes_first v ↦ inr v.if-comes_first.ensures
      ]))
]

pub returns : goal.returns
returns c = first_whole _ _ _ _ (omega arith) c.loop-j.invariant
