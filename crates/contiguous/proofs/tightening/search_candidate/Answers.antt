use Rattle.std.proofs.Common.{◌≡◌, ◌∙◌, rules, ap, sym, to_z, of_z, to_z-of_z, SFits, ℤ}
use mir.Syntax.{w128}
use Rattle.contiguous.proofs.Searches.{perfect_found, first_left, low_left}
use Rattle.contiguous.proofs.tightening.search_candidate.Goals as goal

same : (a b : ℤ) → SFits w128 a → SFits w128 b → of_z w128 a ≡ of_z w128 b → a ≡ b
same a b fa fb e = sym (to_z-of_z fa) ∙ ap (to_z w128) e ∙ to_z-of_z fb

pub returns-then-minimum-level : goal.returns-then-minimum-level
returns-then-minimum-level g c =
    perfect_found c.args.matrix.now c.args.level c.args.limit c.in-Found.minimum c.in-Found.vectors
    (same c.in-Found.minimum c.args.level (search rules) (search rules) c.if-minimum-level.true) c.in-Found.ensures.answer c.in-Found.ensures.holds

pub returns-else-minimum-level : goal.returns-else-minimum-level
returns-else-minimum-level g c =
    rw c.copy.ensures
    (first_left c.args.matrix.now c.args.level c.args.limit c.in-Found.minimum c.in-Found.vectors c.at.result.now c.requires.reached
    (λ e. c.if-minimum-level.false (ap (of_z w128) e)) c.in-Found.ensures.answer c.in-Found.ensures.holds c.at.ensures)

pub returns-in-Low : goal.returns-in-Low
returns-in-Low g c =
    low_left c.args.matrix.now c.args.level c.args.limit c.in-Low.vector c.in-Low.value c.in-Low.path
    c.requires.positive c.in-Low.ensures.answer c.in-Low.ensures.holds
