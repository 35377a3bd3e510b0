use Rattle.std.specs.Prelude.{◌≡◌, ◌<◌, ℕ, pos, ◌+ℤ◌, ◌-ℤ◌, length, slice_index_or}
use Rattle.exact_forms.specs.Slacks.{shortfall, slack}
use Rattle.unimodular_cone.specs.Shown.{shown_gram}
use Rattle.unimodular_cone.proofs.ChildSlacks.{short, IsMediantPart}
use Rattle.unimodular_cone.proofs.slack_numbers.child_slacks.Given as goal

abbrev pub invariant-loop-k : goal.invariant-loop-k
invariant-loop-k l = record {
  room : length l.made ≡ 8;
  made : (k : ℕ) → k < l.k → slice_index_or l.made k (pos 0)
      ≡ (slack l.n (shown_gram l.c) k +ℤ shortfall (shown_gram l.c l.r k)) -ℤ short (shown_gram l.c) l.r l.s k;
  part : IsMediantPart (shown_gram l.c) l.r l.s l.k l.left;
}
