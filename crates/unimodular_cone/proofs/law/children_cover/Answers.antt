use Rattle.std.proofs.Common.{sym}
use Rattle.unimodular_cone.proofs.Covers.{combination_lies_in_first}
use Rattle.unimodular_cone.proofs.law.children_cover.Goals as goal

pub returns : goal.returns
returns c = λ n v a i j li lj ne nonneg. record {
  first = λ le. combination_lies_in_first n v a i j li lj ne nonneg le;
  second = λ le. combination_lies_in_first n v a j i lj li (λ e. ne (sym e)) nonneg le;
}
