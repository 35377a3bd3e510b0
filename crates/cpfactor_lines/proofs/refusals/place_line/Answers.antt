use Rattle.std.proofs.Common.{◌≡◌, ap₂, subst, IfOk, ℕ, List}
use Rattle.cpfactor_lines.specs.Texts.{entry_text}
use Rattle.cpfactor_lines.proofs.refusals.place_line.Goals as goal

pub returns : goal.returns
returns c =
    let numbers = ap₂ (entry_text c.args.path.now c.args.kind.now) c.from.ensures c.from-2.ensures in
    subst (λ (t : List ℕ). IfOk c.words_line.result (λ text. text.items ≡ t)) numbers c.words_line.ensures
