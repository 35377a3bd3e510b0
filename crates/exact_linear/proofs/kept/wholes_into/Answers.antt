use Rattle.std.proofs.Common.{◌∙◌, arith, sym}
use Rattle.std.proofs.lemmas.List.{length-set}
use Rattle.symmetric_matrix.proofs.Narrow.{read_64}
use Rattle.exact_linear.proofs.KeptEntries.{taken_whole, set_small, all_taken, kept_ones, kept_fractions}
use Rattle.exact_linear.proofs.kept.wholes_into.Goals as goal

pub returns-in-None-clause-same : goal.returns-in-None-clause-same
returns-in-None-clause-same c = kept_fractions c.loop-k.into c.args.from.now

pub loop-k-preserved : goal.loop-k-preserved
loop-k-preserved c =
    rw (read_64 c.in-Some.number c.in-Some.ensures.small) record {
      size = length-set c.loop-k.into c.loop-k.k c.in-Some.number ∙ c.loop-k.invariant.size;
      small = set_small c.loop-k.into c.loop-k.k c.in-Some.number (omega (arith, c.loop-k.invariant.size)) c.loop-k.invariant.small c.in-Some.ensures.small;
      same = sym (taken_whole c.loop-k.k c.args.from.now c.loop-k.into c.index-from-k.result c.in-Some.number c.loop-k-test.true
          c.loop-k.invariant.size c.index-from-k.is c.in-Some.ensures.value) ∙ c.loop-k.invariant.same;
    }

pub returns-clause-same : goal.returns-clause-same
returns-clause-same c =
    kept_ones c.loop-k.into c.args.from.now
    (all_taken c.loop-k.k c.args.from.now c.loop-k.into c.loop-k-test.false c.loop-k.invariant.size c.loop-k.invariant.same)
