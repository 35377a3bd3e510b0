use Rattle.std.proofs.Common.{◌≡◌, ◌++◌, take}
use Rattle.std.specs.List.{All, flat_map}
use Rattle.cone_tree_certificate.specs.VerdictText.{IsNarrowTerm}
use Rattle.cpfactor_lines.specs.Texts.{term_line}
use Rattle.cpfactor_lines.proofs.factorization.push_factorization.Given as goal

abbrev pub invariant-loop-k : goal.invariant-loop-k
invariant-loop-k l = record {
  so_far : l.into.items ≡ l.initial.into.items ++ flat_map term_line (take l.k l.terms);
  narrow : All IsNarrowTerm (take l.k l.terms);
}
