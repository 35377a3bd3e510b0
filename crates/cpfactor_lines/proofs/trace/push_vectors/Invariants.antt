use Rattle.std.proofs.Common.{◌≡◌, ◌++◌, ℕ, List, map, take}
use Rattle.std.specs.Fmt.{decimal}
use Rattle.std.specs.List.{flat_map}
use Rattle.cpfactor_lines.specs.Traces.{comment}
use Rattle.cpfactor_lines.proofs.trace.push_vectors.Given as goal

abbrev pub invariant-loop-k : goal.invariant-loop-k
invariant-loop-k l = l.into.items ≡ l.fn.into.items ++ flat_map (λ (x : List ℕ). comment (map decimal x)) (take l.k l.vectors)
