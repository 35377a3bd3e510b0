use Rattle.std.specs.Prelude.{List, [], ◌∷◌, ◌++◌}
use Rattle.std.proofs.Common.{ap₂, ◌∙◌}
use Rattle.symmetric_matrix.specs.Symmetric.{entry}
use Rattle.unimodular_cone.specs.Paths.{Path}
use Rattle.search_core.proofs.Finish.{start_is_kept}
use Rattle.search_core.proofs.Steps.{all_empty}
use Rattle.search_core.proofs.machine.Machine.start.Goals as goal

pub invariant_of-result : goal.invariant_of-result
invariant_of-result c = rw c.in_ok-copy.ensures record {
  kept = start_is_kept c.args.mode c.args.q.now.size (entry c.args.q.now) c.args.limit _ record {
    waiting = c.in_ok-push.ensures.items ∙ ap₂ (λ (ps : List Path) (p : Path). ps ++ p ∷ []) c.new-waiting.ensures.items c.root.ensures;
    hands = rw c.in_ok-empty_hands.ensures (all_empty c.args.workers);
    word = c.start_word.ensures;
    judged = c.new.ensures.items;
  };
  limited = c.requires.limited;
  root = c.requires.root;
}
