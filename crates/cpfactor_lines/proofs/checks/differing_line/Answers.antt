use Rattle.std.proofs.Common.{◌≡◌, ap₂, subst, IfOk, ℕ, List}
use Rattle.cpfactor_lines.specs.CheckTexts.{differing_text}
use Rattle.cpfactor_lines.proofs.checks.differing_line.Goals as goal

pub returns : goal.returns
returns c = subst (λ (t : List ℕ). IfOk c.words_line.result (λ text. text.items ≡ t)) (ap₂ differing_text c.from.ensures c.from-2.ensures) c.words_line.ensures
