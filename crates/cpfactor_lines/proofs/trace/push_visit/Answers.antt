use Rattle.std.proofs.Common.{◌≡◌, ◌∙◌, ◌++◌, ◌∷◌, [], ℤ, codes, ap, rules, to_z, of_z}
use Rattle.std.specs.Int.{w128}
use Rattle.std.specs.Fmt.{signed_decimal}
use Rattle.std.proofs.lemmas.Int.{to_z-of_z}
use Rattle.std.proofs.lemmas.Result.{on_ok_weaker}
use Rattle.cpfactor_lines.specs.Traces.{comment}
use Rattle.cpfactor_lines.proofs.Comments.{visit_made}
use Rattle.cpfactor_lines.proofs.trace.push_visit.Goals as goal

pub returns : goal.returns
returns c =
    let fits : to_z w128 (of_z w128 c.args.visit.now.mu) ≡ c.args.visit.now.mu = search (rules, to_z-of_z) in
    on_ok_weaker c.push_vectors.result (λ e.
    visit_made c.args.number c.len.result c.args.visit.now c.args.into.now.items _ _ _ _ _ c.len.ensures.value c.in_ok-push_comment.ensures
    c.in_ok-push_matrix.ensures
    (c.in_ok-push_comment-2.ensures ∙ ap (λ (mu : ℤ). c.push_matrix.new.into.items ++ comment (codes "minimum" ∷ signed_decimal mu ∷ [])) fits)
    c.in_ok-push_comment-3.ensures e) c.push_vectors.ensures
