use Rattle.std.proofs.Common.{refl, inl, inr}
use Rattle.search_core.proofs.keeping.keep_fate.Goals as goal

pub returns-in_ok-keep_judgement : goal.returns-in_ok-keep_judgement
returns-in_ok-keep_judgement g c = record {
  kept = inl c.in_ok-keep_judgement.ensures.kept;
  few = λ not. absurd (not c.if-is_needed.ensures);
  err = tt;
}

pub returns-else-is_needed : goal.returns-else-is_needed
returns-else-is_needed g c = record { kept = inr (refl, c.if-is_needed.ensures); few = λ _. refl; err = tt }
