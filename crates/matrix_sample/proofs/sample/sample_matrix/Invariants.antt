use Rattle.std.proofs.Common.{◌≡◌, ℕ, pos, take, map}
use Rattle.exact_forms.specs.Rational.{whole}
use Rattle.matrix_sample.proofs.sample.sample_matrix.Given as goal

abbrev pub invariant-loop-sum : goal.invariant-loop-sum
invariant-loop-sum l = l.lower.items ≡ map (λ (s : ℕ). whole (pos s)) (take l.sum-index l.sum-items)
