use Rattle.exact_linear.proofs.Seeking.{IsLooking}
use Rattle.exact_linear.proofs.indices.contains.Given as goal

abbrev pub invariant-loop-listed : goal.invariant-loop-listed
invariant-loop-listed l = IsLooking l.numbers l.number l.listed-index
