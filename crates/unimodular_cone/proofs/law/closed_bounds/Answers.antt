use Rattle.unimodular_cone.proofs.Covers.{closed_at_least, closed_nonnegative, closed_attains, one_is_positive}
use Rattle.unimodular_cone.proofs.law.closed_bounds.Goals as goal

pub returns : goal.returns
returns c = record {
  positive = λ n q v b x s p closed l nonzero. record {
    at_least = closed_at_least n q v b x s (one_is_positive b p) closed l nonzero;
    equal_at_generators = λ e. closed_attains n q v b x s p closed l nonzero e;
  };
  zero = λ n q v x s closed l. closed_nonnegative n q v x s closed l;
}
