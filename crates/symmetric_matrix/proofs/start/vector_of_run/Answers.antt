use Rattle.std.proofs.Common.{◌≡◌, ◌∙◌, ap, ℕ, arith, length-set, take}
use Rattle.symmetric_matrix.specs.StartVectors.{Run, run_vector}
use Rattle.symmetric_matrix.proofs.Runs.{ones_more, zero_stays, run_vector_filled, run_vector_is_vector}
use Rattle.symmetric_matrix.proofs.start.vector_of_run.Goals.{After-from-2}
use Rattle.symmetric_matrix.proofs.start.vector_of_run.Goals as goal

pub loop-place-preserved : goal.loop-place-preserved
loop-place-preserved c =
    rw c.from.ensures record {
      long = simp length-set c.loop-place.invariant.long;
      ones = ones_more c.loop-place.coordinates c.args.first c.loop-place.place (omega (arith, c.loop-place.invariant.long)) c.loop-place.invariant.ones;
      before = λ k l. zero_stays c.loop-place.coordinates c.loop-place.place k (omega arith) (c.loop-place.invariant.before k l);
      after = λ k l. zero_stays c.loop-place.coordinates c.loop-place.place k (omega arith) (c.loop-place.invariant.after k (omega arith));
    }

filled : (c : After-from-2) → take c.from-2.result c.loop-place.coordinates ≡ run_vector c.args.n (record { first = c.args.first; last = c.args.last })
filled c =
    ap (λ (n : ℕ). take n c.loop-place.coordinates) c.from-2.ensures
    ∙ run_vector_filled c.args.n (record { first = c.args.first; last = c.args.last }) c.loop-place.coordinates (omega (arith, c.loop-place.invariant.long))
    (λ k a b. c.loop-place.invariant.ones k a (omega arith)) c.loop-place.invariant.before (λ k a. c.loop-place.invariant.after k (omega arith))

pub from_slice-requires : goal.from_slice-requires
from_slice-requires c =
    let r : Run = record { first = c.args.first; last = c.args.last } in
    rw (filled (goal.at.from_slice-requires c).After-from-2) (run_vector_is_vector c.args.n r (omega arith) c.requires.small)

pub returns : goal.returns
returns c = c.from_slice.ensures ∙ filled (goal.at.returns c).After-from-2
