use Rattle.std.proofs.Common.{◌≡◌, ◌<◌, ◌+◌, ◌+ℤ◌, ◌∙◌, None, pos, length, arith, refl, to_z, of_z, to_z-of_z, length-set}
use mir.Syntax.{w128}
use Rattle.symmetric_matrix.specs.Owed.{first_owed}
use Rattle.symmetric_matrix.specs.Operations.{is_owed}
use Rattle.exact_forms.proofs.Lists.{more_set}
use Rattle.certificate_checker.specs.Loops.{steps}
use Rattle.certificate_checker.specs.Rows.{at}
use Rattle.certificate_checker.proofs.Loops.{loop_start, loop_end}
use Rattle.certificate_checker.proofs.TreeWalks.{mediant_step, mediant_ops_are, mediant_refused, mediant_goes_on}
use Rattle.certificate_checker.proofs.node.mediant.Goals as goal

pub loop-p-init : goal.loop-p-init
loop-p-init c = record { room = refl; fits = loop_start is_owed (mediant_step (at c.args.v.now) c.args.i c.args.j); sums = λ p l. absurd (omega arith) }

pub returns-in_err-sums-clause-wide : goal.returns-in_err-sums-clause-wide
returns-in_err-sums-clause-wide c =
    let l = c.loop-p in
    grind (arith, to_z-of_z, mediant_refused c.args.n (at c.args.v.now) c.args.i c.args.j l.p)

pub loop-p-preserved : goal.loop-p-preserved
loop-p-preserved c =
    let room : c.loop-p.p < length c.loop-p.sums = omega (arith, c.loop-p.invariant.room, c.requires.few, c.loop-p-test.true) in
    let step : (first_owed is_owed (steps (mediant_step (at c.args.v.now) c.args.i c.args.j) (c.loop-p.p + 1)) ≡ None)
    × (to_z w128 (of_z w128 c.in_ok-sums.field-0) ≡ at c.args.v.now c.args.i c.loop-p.p +ℤ at c.args.v.now c.args.j c.loop-p.p) =
    grind (arith, to_z-of_z, mediant_goes_on (at c.args.v.now) c.args.i c.args.j c.loop-p.p) in
    record {
      room = length-set c.loop-p.sums c.loop-p.p _ ∙ c.loop-p.invariant.room;
      fits = step.0;
      sums = more_set (pos 0) c.loop-p.sums (λ p. at c.args.v.now c.args.i p +ℤ at c.args.v.now c.args.j p) c.loop-p.p c.loop-p.p _ c.loop-p.invariant.sums room
          refl step.1;
    }

pub returns-clause-fits : goal.returns-clause-fits
returns-clause-fits c =
    rw (mediant_ops_are c.args.n (at c.args.v.now) c.args.i c.args.j)
    (loop_end is_owed (mediant_step (at c.args.v.now) c.args.i c.args.j) c.args.n c.loop-p.p c.loop-p.auto.p-end c.loop-p-test.false
    c.loop-p.invariant.fits)
