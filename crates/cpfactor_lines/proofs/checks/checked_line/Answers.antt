use Rattle.std.proofs.Common.{◌≡◌, sym, subst, IfOk}
use Rattle.certificate_checker.specs.declared.checked.Checked.{Checked}
use Rattle.cpfactor_lines.specs.CheckTexts.{checked_text}
use Rattle.cpfactor_lines.proofs.checks.checked_line.Goals as goal

pub returns-in-NotNegative : goal.returns-in-NotNegative
returns-in-NotNegative c =
    subst (λ (k : Checked). IfOk c.failed_line-in-NotNegative.result (λ text. text.items ≡ checked_text k)) (sym c.in-NotNegative.is)
    c.failed_line-in-NotNegative.ensures
