use Rattle.std.proofs.Common.{◌≡◌, ◌<◌, ◌∙◌, pos, length, to_z, of_z, arith, refl, to_z-of_z, length-set}
use mir.Syntax.{w128}
use Rattle.std.proofs.lemmas.Result.{err_from_is_err_and}
use Rattle.symmetric_matrix.specs.Operations.{is_owed}
use Rattle.exact_forms.proofs.Lists.{more_set}
use Rattle.certificate_checker.specs.Rows.{numbers, at}
use Rattle.certificate_checker.specs.Dots.{rows_times, times_ops}
use Rattle.certificate_checker.proofs.Loops.{loop_refused, loop_more, loop_end}
use Rattle.certificate_checker.proofs.DotSums.{times_step, times_starts}
use Rattle.certificate_checker.proofs.dots.times.Goals as goal

pub loop-i-init : goal.loop-i-init
loop-i-init c = record { room = refl; fits = times_starts _ _ _; sums = λ p l. absurd (omega arith) }

pub returns-in_err-sums-clause-wide : goal.returns-in_err-sums-clause-wide
unfolding times_ops
returns-in_err-sums-clause-wide c =
    let p = err_from_is_err_and c.from_residual.result c.from_residual.ensures.1 in
    rw (p.1, p.2)
    (loop_refused is_owed (times_step c.args.n (at c.args.rows.now) (numbers c.args.x.now)) c.args.n c.loop-i.i _ c.loop-i-test.true c.loop-i.invariant.fits
    c.in_err-sums.ensures.wide)

pub loop-i-preserved : goal.loop-i-preserved
loop-i-preserved c =
    let room : c.loop-i.i < length c.loop-i.sums = omega (arith, c.loop-i.invariant.room, c.requires, c.loop-i-test.true) in
    let read : to_z w128 (of_z w128 c.in_ok-sums.field-0) ≡ rows_times c.args.n (at c.args.rows.now) (numbers c.args.x.now) c.loop-i.i =
    grind (arith, to_z-of_z) in
    record {
      room = length-set c.loop-i.sums c.loop-i.i _ ∙ c.loop-i.invariant.room;
      fits = loop_more is_owed (times_step c.args.n (at c.args.rows.now) (numbers c.args.x.now)) c.loop-i.i c.loop-i.invariant.fits c.in_ok-sums.ensures.fits;
      sums = more_set (pos 0) c.loop-i.sums (rows_times c.args.n (at c.args.rows.now) (numbers c.args.x.now)) c.loop-i.i c.loop-i.i _ c.loop-i.invariant.sums
          room refl read;
    }

pub returns-clause-fits : goal.returns-clause-fits
unfolding times_ops
returns-clause-fits c =
    loop_end is_owed (times_step c.args.n (at c.args.rows.now) (numbers c.args.x.now)) c.args.n c.loop-i.i c.loop-i.auto.i-end c.loop-i-test.false
    c.loop-i.invariant.fits
