use Rattle.std.proofs.Common.{◌≡◌, vec_len}
use Rattle.std.specs.List.{Contains}
use Rattle.symmetric_matrix.specs.Symmetric.{entry}
use Rattle.cone_pool.specs.Crews.{AllKeep}
use Rattle.cone_pool.specs.Parts.{Member, IsReturned, HasGathered}
use Rattle.cone_pool.proofs.gathering.gather.Given as goal

abbrev pub invariant-loop-member : goal.invariant-loop-member
invariant-loop-member l = record {
  returned : (w : Member) → Contains l.rest.items w → IsReturned l.fn.mode l.q.size (entry l.q) l.fn.limit l.table.id w;
  alike : AllKeep l.fn.chief.judged.whole l.rest.items;
  whole : l.chief.judged.whole ≡ l.fn.chief.judged.whole;
  gathered : HasGathered l.fn.mode l.q.size (entry l.q) l.fn.limit l.table.id l.rest.items l.chief;
}

abbrev pub decreases-loop-member : goal.decreases-loop-member
decreases-loop-member l = vec_len l.rest
