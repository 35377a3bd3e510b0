use Rattle.std.specs.Prelude.{[], ◌∷◌, codes}
use Rattle.std.specs.Fmt.{decimal}
use Rattle.std.proofs.Common.{◌≡◌, ap₂, subst, IfOk, ℕ, List}
use Rattle.cpfactor_lines.specs.Texts.{refusal}
use Rattle.cpfactor_lines.proofs.checks.proof_fault_line.Goals as goal

pub returns : goal.returns
returns c =
    let words = ap₂ (λ (kind : List ℕ) (n : ℕ). refusal (codes "proof-text" ∷ kind ∷ decimal n ∷ [])) c.proof_fault_name.ensures c.from.ensures in
    subst (λ (t : List ℕ). IfOk c.words_line.result (λ text. text.items ≡ t)) words c.words_line.ensures
