use Rattle.symmetric_matrix.specs.Symmetric.{entry}
use Rattle.search_core.proofs.WaysDown.{IsDownAt}
use Rattle.search_core.proofs.descent.is_unclosed_down.Given as goal

abbrev pub invariant-loop-k : goal.invariant-loop-k
invariant-loop-k l = IsDownAt l.q.size (entry l.q) l.bound l.path l.k l.cone
