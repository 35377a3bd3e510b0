use Rattle.unimodular_cone.specs.RootNumbers.{IsPartRowCopied}
use Rattle.unimodular_cone.proofs.narrow_numbers.copy_row.Given as goal

abbrev pub invariant-loop-column : goal.invariant-loop-column
invariant-loop-column l = IsPartRowCopied l.q l.row l.column l.fn.lower l.lower
