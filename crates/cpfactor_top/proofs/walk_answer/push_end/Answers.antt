use Rattle.std.proofs.Common.{◌≡◌, ◌∙◌, refl, sym, ap, subst, List, ℕ, ◌++◌}
use Rattle.cone_tree_certificate.specs.declared.verdict.Verdict.TheVariants.{Factors}
use Rattle.cone_tree_certificate.specs.VerdictText.{verdict_text}
use Rattle.perfect_walk.specs.declared.journal.End.{End}
use Rattle.cpfactor_lines.specs.Texts.{factorization_text}
use Rattle.cpfactor_top.specs.Solving.{IsEndText}
use Rattle.cpfactor_top.proofs.WalkAnswers.{factors_text}
use Rattle.cpfactor_top.proofs.walk_answer.push_end.Goals as goal

pub returns-in_ok-push_factorization-in-Factored-clause-text : goal.returns-in_ok-push_factorization-in-Factored-clause-text
returns-in_ok-push_factorization-in-Factored-clause-text c =
    let old : List ℕ = c.args.text.now.items in let new : List ℕ = c.push_factorization.new.into.items in let terms = c.in-Factored.terms in
    let made : List ℕ = verdict_text (Factors c.args.n terms) in
    let added : new ≡ old ++ factorization_text c.args.n terms = c.in_ok-push_factorization-in-Factored.ensures.text in (
      made,
      subst (λ (e : End). IsEndText c.args.n c.args.limits e made) (sym c.in-Factored.is) (refl, c.in_ok-push_factorization-in-Factored.ensures.whole),
      added ∙ ap (λ (t : List ℕ). old ++ t) (factors_text c.args.n terms),
    )
