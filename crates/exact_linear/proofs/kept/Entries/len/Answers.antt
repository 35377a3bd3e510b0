use Rattle.std.proofs.Common.{◌∙◌, ap, sym, length}
use Rattle.exact_linear.proofs.KeptEntries.{length-kept}
use Rattle.exact_linear.proofs.kept.Entries.len.Goals as goal

pub returns : goal.returns
returns c = c.len.ensures ∙ c.self.inside.wholes.ok.0
    ∙ sym (length-kept c.self.inside.den c.self.inside.wholes.items c.self.inside.fractions.items c.self.invariant.entries) ∙ ap length c.self.view_is
