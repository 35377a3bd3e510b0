use Rattle.std.proofs.Common.{◌≡◌, subst, IfOk, ℕ}
use Rattle.cpfactor_lines.specs.Texts.{copositive_text}
use Rattle.cpfactor_lines.proofs.answers.copositive_line.Goals as goal

pub returns : goal.returns
returns c = subst (λ (n : ℕ). IfOk c.words_line.result (λ text. text.items ≡ copositive_text n)) c.from.ensures c.words_line.ensures
