use Rattle.std.proofs.Common.{◌≡◌, ◌∙◌, rules, to_z, of_z}
use Rattle.std.proofs.lemmas.Int.{to_z-of_z}
use mir.Syntax.{w128}
use Rattle.perfect_walk.proofs.First.{is_start, is_held}
use Rattle.perfect_walk.proofs.start.start.Goals as goal

pub returns : goal.returns
returns c =
    let mu : to_z w128 (of_z w128 c.start_minimum.result) ≡ c.start_minimum.result = search (rules, to_z-of_z) in
    let start = is_start c.args.n c.in_ok-start_matrix.field-0 _ c.in_ok-start_vectors.field-0 c.in_ok-start_matrix.ensures
    (mu ∙ c.start_minimum.ensures) c.in_ok-start_vectors.ensures.list in
    record { value = start; held = is_held c.args.n _ c.requires.positive start }
