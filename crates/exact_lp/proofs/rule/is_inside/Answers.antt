use Rattle.std.proofs.Common.{◌∙◌, ap, not, Bool}
use Rattle.exact_lp.proofs.Choices.{inside_is}
use Rattle.exact_lp.proofs.rule.is_inside.Goals as goal

pub returns : goal.returns
returns c = ap (λ (b : Bool). not b) c.is_negative.ensures
    ∙ inside_is c.args.tableau.now c.args.vectors c.top_row.result c.target_of-target.result c.entry_at.result c.top_row.ensures.value
    c.target_of-target.ensures.value c.entry_at.ensures
