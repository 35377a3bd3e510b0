use Rattle.std.proofs.Common.{rules, to_z-of_z, SFits}
use Rattle.std.proofs.lemmas.Result.{err_from_is_err_and}
use mir.Syntax.{w128}
use Rattle.contiguous.specs.Tightenings.{line_along}
use Rattle.contiguous.proofs.Makings.{above_refused, below_refused, made_all, refused_all, line_same_made, line_same_refused}
use Rattle.contiguous.proofs.tightening.tighten.Goals as goal

pub returns-in_err-above-clause-refused : goal.returns-in_err-above-clause-refused
returns-in_err-above-clause-refused c =
    let p = err_from_is_err_and c.from_residual.result c.from_residual.ensures.1 in
    rw (p.1, p.2)
    (above_refused (line_along c.args.p_matrix.now c.args.mu c.args.r_matrix.now) c.args.w.now c.in_err-above.field-0.0 c.in_err-above.ensures.value)

pub returns-in_err-below-clause-refused : goal.returns-in_err-below-clause-refused
returns-in_err-below-clause-refused c =
    let p = err_from_is_err_and c.from_residual-in_err-below.result c.from_residual-in_err-below.ensures.1 in
    rw (p.1, p.2)
    (below_refused (line_along c.args.p_matrix.now c.args.mu c.args.r_matrix.now) c.args.w.now c.in_err-below.field-0.0
    c.in_ok-above.ensures.value.0 c.in_err-below.ensures.value)

pub returns-clause-made : goal.returns-clause-made
returns-clause-made c =
    let fits : SFits w128 c.args.mu = search rules in
    made_all (line_along c.args.p_matrix.now c.args.mu c.args.r_matrix.now) c.args.w.now c.scaled.result
    c.in_ok-above.ensures.value.0 c.in_ok-below.ensures.value.0
    (line_same_made c.args.p_matrix.now c.args.r_matrix.now c.args.w.now c.scaled.result _ c.args.mu (to_z-of_z fits) c.scaled.ensures.made)

pub returns-clause-refused : goal.returns-clause-refused
returns-clause-refused c =
    let fits : SFits w128 c.args.mu = search rules in
    refused_all (line_along c.args.p_matrix.now c.args.mu c.args.r_matrix.now) c.args.w.now c.scaled.result
    c.in_ok-above.ensures.value.0 c.in_ok-below.ensures.value.0
    (line_same_refused c.args.p_matrix.now c.args.r_matrix.now c.args.w.now c.scaled.result _ c.args.mu (to_z-of_z fits) c.scaled.ensures.refused)
