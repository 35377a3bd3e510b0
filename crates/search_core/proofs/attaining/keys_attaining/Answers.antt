use Rattle.std.specs.Prelude.{ℕ, pos, take, List}
use Rattle.std.specs.Int.{w128}
use Rattle.std.proofs.Common.{sym, ◌∙◌, ap, subst, of_z}
use Rattle.symmetric_matrix.specs.Symmetric.{entry}
use Rattle.search_core.specs.Fair.{Judged}
use Rattle.search_core.specs.Attaining.{HasGenerators, AddsAttaining}
use Rattle.search_core.proofs.Firsts.{more_judged}
use Rattle.search_core.proofs.Keys.{has_more, has_same}
use Rattle.search_core.proofs.attaining.keys_attaining.Goals as goal
use Rattle.search_core.proofs.attaining.keys_attaining.Goals.{then-j-from+in_ok-add_attaining_at, else-j-from}

pub add_attaining_at-requires-clause-in_tree : goal.add_attaining_at-requires-clause-in_tree
add_attaining_at-requires-clause-in_tree c = c.requires.in_tree c.j-item.result (c.loop-j.j-index, c.loop-j-test.true, sym c.j-item.is)

pub loop-j-preserved : goal.loop-j-preserved
loop-j-preserved c =
    elim c.if-j-from.branch [
      | then-j-from+in_ok-add_attaining_at w ↦ record {
        keys = rw w.found-is
            (subst (λ (w' : List Judged). HasGenerators c.args.q.now.size (entry c.args.q.now) w' (pos c.args.minimum) w.add_attaining_at.new.found.keys)
            (more_judged c.args.judged.now c.loop-j.j-index c.j-item.result c.loop-j-test.true c.j-item.is)
            (has_more c.args.q.now.size (entry c.args.q.now) (take c.loop-j.j-index c.args.judged.now) c.j-item.result (pos c.args.minimum) c.loop-j.found.keys
            w.add_attaining_at.new.found.keys c.loop-j.invariant.keys w.in_ok-add_attaining_at.ensures.added.cone
            w.in_ok-add_attaining_at.ensures.added.at
            (subst (λ (k : ℕ). AddsAttaining w.in_ok-add_attaining_at.ensures.added.cone k (pos c.args.minimum) c.loop-j.found.keys
            w.add_attaining_at.new.found.keys) w.in_ok-add_attaining_at.ensures.added.at.cone.size w.in_ok-add_attaining_at.ensures.added.adds)));
        way = rw w.way'-is w.in_ok-add_attaining_at.ensures.way;
      }
      | else-j-from w ↦ record {
        keys = rw w.found-is (subst (λ (w' : List Judged). HasGenerators c.args.q.now.size (entry c.args.q.now) w' (pos c.args.minimum) c.loop-j.found.keys)
            (more_judged c.args.judged.now c.loop-j.j-index c.j-item.result c.loop-j-test.true c.j-item.is)
            (has_same c.args.q.now.size (entry c.args.q.now) (take c.loop-j.j-index c.args.judged.now) c.j-item.result (pos c.args.minimum) c.loop-j.found.keys
            c.loop-j.found.keys c.loop-j.invariant.keys
            (λ e. w.if-j-from.false (ap (of_z w128) (e ∙ sym c.from.ensures)))));
        way = rw w.way'-is c.loop-j.invariant.way;
      }
    ]
