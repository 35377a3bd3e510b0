use Rattle.std.proofs.Common.{pos, arith}
use Rattle.std.proofs.lemmas.Int.{ints}
use Rattle.exact_forms.proofs.Signs.{whole_positive}
use Rattle.line_rows.proofs.line_tests.factorizations_are_written.Goals as goal

pub push-requires-clause-positive : goal.push-requires-clause-positive
push-requires-clause-positive g c = rw c.whole.ensures (whole_positive (pos 5) (omega (arith, ints)))
