use Rattle.std.proofs.Common.{◌≡◌, sym, ap, subst, IfOk, ℕ, List}
use Rattle.cpfactor_lines.specs.Texts.{wide_text}
use Rattle.cpfactor_lines.proofs.refusals.entry_line.Goals as goal

pub returns-in-Coordinate : goal.returns-in-Coordinate
returns-in-Coordinate c =
    subst (λ (t : List ℕ). IfOk c.place_line.result (λ text. text.items ≡ t)) (ap (wide_text c.args.at.now.path) (sym c.in-Coordinate.is)) c.place_line.ensures
