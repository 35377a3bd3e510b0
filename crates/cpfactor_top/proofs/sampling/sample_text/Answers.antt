use Rattle.std.specs.Prelude.{false, ℕ, List}
use Rattle.std.proofs.Common.{◌∙◌, subst, ap₂}
use Rattle.perfect_walk.specs.declared.journal.Limits.{Limits}
use Rattle.cpfactor_lines.specs.Commands.{usual_limits}
use Rattle.cpfactor_lines.specs.SampleTexts.{sample_text}
use Rattle.cpfactor_top.specs.Solving.{IsSolved}
use Rattle.cpfactor_top.proofs.SampleLaws.{solved_has_journal}
use Rattle.cpfactor_top.proofs.sampling.sample_text.Goals as goal

pub returns : goal.returns
returns g c =
    let a = c.in_ok-a.a in let answer = c.in_ok-ended.answer.items in
    let solved : IsSolved false usual_limits a c.in_ok-ended.ended answer =
    subst (λ (limits : Limits). IsSolved false limits a c.in_ok-ended.ended answer) c.usual_limits.ensures c.in_ok-ended.ensures in
    let has = solved_has_journal false usual_limits a c.in_ok-ended.ended answer solved in
    let count = c.visits_of.ensures has.0 has.1 in (
      a,
      record {
        sample = c.in_ok-a.ensures;
        answer = answer;
        solved = solved;
        journal = has.0;
        is_journal = has.1;
        written = c.in_ok-text.ensures ∙ ap₂ (λ (m : ℕ) (t : List ℕ). sample_text c.args.n c.args.k c.args.first a m t) count c.deref.ensures.value;
      },
    )
