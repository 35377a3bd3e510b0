use Rattle.std.proofs.Common.{◌∙◌, rules, sym, to_z-of_z, SFits}
use mir.Syntax.{w128}
use Rattle.symmetric_matrix.proofs.Owed.{none_of_ok, some_of_err}
use Rattle.symmetric_matrix.proofs.FormSteps.{form_fits}
use Rattle.contiguous.proofs.tightening.value_of.Goals as goal

pub returns-in-Ok-clause-value : goal.returns-in-Ok-clause-value
returns-in-Ok-clause-value c =
    let fits : SFits w128 c.in-Ok.value = search rules in
    let made = none_of_ok _ _ _ _ (sym c.form.ensures.value ∙ c.in-Ok.is) in
    (made.0, to_z-of_z fits ∙ sym made.1)

pub returns-in-Ok-clause-narrow : goal.returns-in-Ok-clause-narrow
returns-in-Ok-clause-narrow c =
    let fits : SFits w128 c.in-Ok.value = search rules in
    rw (to_z-of_z fits) (form_fits c.args.matrix.now c.args.w.now c.in-Ok.value c.requires (sym c.form.ensures.value ∙ c.in-Ok.is))

pub returns-in-Err-clause-value : goal.returns-in-Err-clause-value
returns-in-Err-clause-value c = (c.copy.ensures, some_of_err _ _ _ _ (sym c.form.ensures.value ∙ c.in-Err.is))
