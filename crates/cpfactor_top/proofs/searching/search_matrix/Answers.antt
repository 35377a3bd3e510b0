use Rattle.std.specs.Prelude.{pos, ◌≤ℤ◌, nat_abs, None}
use Rattle.matrix_text.specs.Clearing.{IsCleared}
use Rattle.std.proofs.Common.{◌≡◌, subst, inl, rules, to_z, of_z}
use Rattle.std.proofs.lemmas.Int.{to_z-of_z}
use Rattle.std.specs.Int.{w128}
use Rattle.cpfactor_lines.specs.Sinks.{sink_shown}
use Rattle.cpfactor_top.specs.Outcomes.{EndsBy}
use Rattle.cpfactor_top.specs.Given.{IsClearRefused}
use Rattle.cpfactor_top.specs.Outcomes.{Refuses}
use Rattle.cpfactor_top.specs.Searching.{IsFound, IsSearched}
use Rattle.cpfactor_top.proofs.OutcomeLaws.{ends_by_follows}
use Rattle.cpfactor_top.proofs.AnswerLaws.{found_follows}
use Rattle.cpfactor_top.proofs.searching.search_matrix.Goals as goal

pub returns-in-Ok : goal.returns-in-Ok
returns-in-Ok g c =
    let d : to_z w128 (of_z w128 c.in-Ok.d) ≡ c.in-Ok.d = search (rules, to_z-of_z) in
    let positive : pos 1 ≤ℤ c.in-Ok.d = c.in-Ok.ensures.positive in
    let cleared : IsCleared c.args.a.now c.in-Ok.s (nat_abs c.in-Ok.d) = c.in-Ok.ensures.cleared in
    ends_by_follows (IsFound c.args.mode c.args.depth c.in-Ok.s c.in-Ok.d) (IsSearched c.args.mode c.args.depth c.args.a.now) _
    (found_follows c.args.mode c.args.depth c.args.a.now c.in-Ok.s c.in-Ok.d c.in-Ok.ensures.clearable positive cleared) _
    (subst (λ k. EndsBy (IsFound c.args.mode c.args.depth c.in-Ok.s c.in-Ok.d) (sink_shown g.K.Sink k c.search_whole.new.sink) c.search_whole.result)
    c.in-Ok.ensures.silent
    (subst (λ d. EndsBy (IsFound c.args.mode c.args.depth c.in-Ok.s d) (sink_shown g.K.Sink c.clear_or_refuse.new.sink c.search_whole.new.sink)
    c.search_whole.result) d c.search_whole.ensures))

pub returns-in-Err : goal.returns-in-Err
returns-in-Err g c =
    ends_by_follows (Refuses (IsClearRefused None c.args.a.now)) (IsSearched c.args.mode c.args.depth c.args.a.now) _ (λ e text h. inl h) _
    c.in-Err.ensures.refused
